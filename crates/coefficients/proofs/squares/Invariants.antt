-- The invariant: the places before i are filled, and power is the next entry.
use Prim.Native.Nat.{◌^◌, ◌<◌}
use mathlib.Core.Path.{◌≡◌}
use Rattle.ring.specs.Power.{pow}
use Rattle.field.specs.Field.{modulus_of, felt}
use Rattle.dag.specs.Arrays as Padded
use Rattle.coefficients.proofs.squares.Given as goal

abbrev pub invariant-loop-i : goal.invariant-loop-i
invariant-loop-i l =
    (l.row ≡ Padded.padded 0 7 (Padded.up_to (λ k. pow (felt l.prime) l.base (2 ^ k)) l.i)) × (l.power ≡ pow (felt l.prime) l.base (2 ^ l.i)) × (l.power < modulus_of l.prime)
