-- The invariant: the places so far, from the end.
use Prim.Native.Nat.{◌+◌, ◌-◌}
use mathlib.Core.Path.{◌≡◌}
use lib.ListN.{length, get_or}
use Rattle.dag.specs.Arrays.{up_to}
use Rattle.basis.proofs.backwards.Given as goal

abbrev pub invariant-loop-place : goal.invariant-loop-place
invariant-loop-place l = l.turned.items ≡ up_to (λ i. get_or l.places (length l.places - (i + 1)) 0) (length l.yielded)
