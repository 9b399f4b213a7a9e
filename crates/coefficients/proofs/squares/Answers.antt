use mathlib.Core.Path.{refl}
use native.Mathlib.Nat.{lt_of_lt_of_le}
use native.Mathlib.Omega.{arith}
use Rattle.field.specs.Fields.{field_of}
use Rattle.dag.specs.ArrayLaws.{fill_next, fill_all}
use Rattle.dag.specs.Arrays as Padded
use Rattle.coefficients.specs.Arrays as Arrays
use Rattle.coefficients.specs.TermLaws.{square_start, square_next}
use Rattle.coefficients.proofs.squares.Goals as goal

pub loop-i-init : goal.loop-i-init
unfolding Padded.padded Padded.up_to
loop-i-init c = (refl, square_start (field_of c.args.prime) _ c.requires.0, c.requires.0)

pub loop-i-preserved : goal.loop-i-preserved
loop-i-preserved c = (
  fill_next _ _ _ _ _ _ (lt_of_lt_of_le c.loop-i-test.true c.requires.1) c.loop-i.invariant.0 c.loop-i.invariant.1,
  square_next (field_of c.args.prime) _ _ _ _ c.loop-i.invariant.1 c.mul-power.ensures.0,
  c.mul-power.ensures.1,
)

pub returns : goal.returns
unfolding Arrays.squares
returns c = fill_all _ _ _ _ _ _ _ c.loop-i.invariant.0 (omega arith) c.loop-i-test.false refl
