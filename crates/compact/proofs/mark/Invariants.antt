use Rattle.std.proofs.Common.{◌≡◌, take}
use Rattle.compact.specs.Reach.{marked}
use Rattle.compact.proofs.mark.Given as goal

abbrev pub invariant-loop-place : goal.invariant-loop-place
invariant-loop-place l = l.reachable ≡ marked l.initial.reachable (take l.place-index l.places)
