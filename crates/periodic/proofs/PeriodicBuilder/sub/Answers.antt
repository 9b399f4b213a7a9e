use Rattle.dag.specs.WellFormed.{Fine}
use Rattle.periodic.proofs.PeriodicBuilder.sub.Goals as goal

pub enter-requires : goal.enter-requires
unfolding Fine
enter-requires c = c.requires
