-- The invariant: the powers so far, and power is the next.
use Prim.Native.Nat.{◌<◌}
use mathlib.Core.Path.{◌≡◌}
use Rattle.ring.specs.Power.{pow}
use Rattle.field.specs.Field.{modulus_of, felt}
use Rattle.dag.specs.Arrays.{up_to}
use Rattle.coefficients.proofs.powers.Given as goal

abbrev pub invariant-loop : goal.invariant-loop
invariant-loop l =
    (l.powers.items ≡ up_to (pow (felt l.prime) l.base) l.counter) × (l.power ≡ pow (felt l.prime) l.base l.counter) × (l.power < modulus_of l.prime)
