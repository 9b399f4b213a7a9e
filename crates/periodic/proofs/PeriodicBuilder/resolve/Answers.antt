use Rattle.periodic.specs.EnterLaws.{asked}
use Rattle.periodic.proofs.PeriodicBuilder.resolve.Goals as goal

pub resolve-requires : goal.resolve-requires
resolve-requires c = (asked c.args.self.now _ c.requires, rw c.as_slice.ensures c.args.self.now.indexed)
