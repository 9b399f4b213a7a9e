-- `field::felt::pow` meets its contract. The invariant: result · square^left is base^exponent.
use Rattle.std.proofs.Common.{◌≡◌, ◌<◌}
use Rattle.ring.specs.Power.{pow}
use Rattle.field.specs.Field.{modulus_of, felt}
use Rattle.field.proofs.felt.pow.Given as goal

abbrev pub invariant-loop-left : goal.invariant-loop-left
invariant-loop-left l = ((felt l.prime).mul l.result (pow (felt l.prime) l.square l.left) ≡ pow (felt l.prime) l.base l.exponent)
    × (l.result < modulus_of l.prime)
    × (l.square < modulus_of l.prime)

abbrev pub decreases-loop-left : goal.decreases-loop-left
decreases-loop-left l = l.left
