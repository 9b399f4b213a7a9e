use Rattle.dag.specs.WellFormed.{Fine}
use Rattle.periodic.proofs.PeriodicBuilder.mul.Goals as goal

pub enter-requires : goal.enter-requires
unfolding Fine
enter-requires c = c.requires
