use Rattle.compact.specs.OperandLaws.{below_at}
use Rattle.compact.proofs.mark.Goals as goal

pub bounds-reachable-place : goal.bounds-reachable-place
bounds-reachable-place c = rw c.loop-place.auto.reachable (below_at _ _ c.requires _ c.loop-place-test.true)
