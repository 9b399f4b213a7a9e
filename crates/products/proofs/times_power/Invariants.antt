-- result = value · factor^counter
use Rattle.std.proofs.Common.{◌≡◌, ◌<◌}
use Rattle.ring.specs.Power.{pow}
use Rattle.field.specs.Field.{modulus_of, felt}
use Rattle.products.proofs.times_power.Given as goal

abbrev pub invariant-loop : goal.invariant-loop
invariant-loop l = (l.result ≡ (felt l.prime).mul l.value (pow (felt l.prime) l.factor l.counter)) × (l.result < modulus_of l.prime)
