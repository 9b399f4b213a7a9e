use native.Mathlib.Nat.{lt_of_lt_of_le}
use native.Mathlib.Omega.{arith}
use Rattle.std.proofs.Common.{rules}
use Rattle.field.specs.Fields.{field_of}
use Rattle.field.specs.Field.{large}
use Rattle.dag.specs.Arrays.{up_to}
use Rattle.coefficients.specs.Arrays as Arrays
use Rattle.coefficients.specs.TermLaws.{pow_start, pow_next, up_to_next, up_to_all, up_to_short}
use Rattle.coefficients.proofs.powers.Goals as goal

pub loop-init : goal.loop-init
unfolding up_to
loop-init c = (c.new-powers.ensures, pow_start (field_of c.args.prime) _, large c.args.prime)

pub push-requires : goal.push-requires
push-requires c = (search rules, up_to_short _ _ _ _ c.loop.invariant.0 (lt_of_lt_of_le c.loop-test.true c.requires.1))

pub loop-preserved : goal.loop-preserved
loop-preserved c = (
  up_to_next _ _ _ _ _ c.loop.invariant.0 c.loop.invariant.1 c.push.ensures.items,
  pow_next (field_of c.args.prime) _ _ _ _ c.loop.invariant.1 c.mul-power.ensures.0,
  c.mul-power.ensures.1,
)

pub returns : goal.returns
unfolding Arrays.powers
returns c = up_to_all _ _ _ _ c.loop.invariant.0 (omega arith) c.loop-test.false
