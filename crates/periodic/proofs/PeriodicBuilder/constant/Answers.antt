use Rattle.field.specs.Field.{zero_second}
use Rattle.dag.specs.WellFormed.{Fine}
use Rattle.periodic.proofs.PeriodicBuilder.constant.Goals as goal

pub enter-requires : goal.enter-requires
unfolding Fine
enter-requires c = rw c.from_base.ensures (c.requires, zero_second c.args.self.now.prime)
