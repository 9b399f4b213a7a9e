use native.Mathlib.Nat.{lt_of_lt_of_le}
use native.Mathlib.Omega.{arith}
use Rattle.std.proofs.Common.{length, rules, sym, ap}
use Rattle.field.specs.Fields.{field_of}
use Rattle.field.specs.Field.{modulus_of}
use Rattle.dag.specs.Arrays.{up_to}
use Rattle.columns.specs.ClassLaws.{below_at}
use Rattle.coefficients.specs.Arrays as Arrays
use Rattle.coefficients.specs.TermLaws.{support_inside, value_told, up_to_next, up_to_all, up_to_short}
use Rattle.coefficients.proofs.sparse_values.Goals as goal

pub loop-place-init : goal.loop-place-init
unfolding up_to
loop-place-init c = c.new-values.ensures

pub bounds-col-place : goal.bounds-col-place
bounds-col-place c = support_inside _ _ _ c.requires.are c.loop-place-test.true

pub offset_bounds-col-place : goal.offset_bounds-col-place
offset_bounds-col-place c = omega (arith, support_inside _ _ _ c.requires.are c.loop-place-test.true, c.args.col.tested.short)

pub mul-requires : goal.mul-requires
mul-requires c = (
  below_at (modulus_of c.args.col.prime) _ _ c.args.col.tested.low (support_inside _ _ _ c.requires.are c.loop-place-test.true),
  c.size_inverse-scale.ensures.1,
)

pub push-requires : goal.push-requires
push-requires c = (search rules, up_to_short _ _ _ _ c.loop-place.invariant (lt_of_lt_of_le c.loop-place-test.true c.requires.few))

pub loop-place-preserved : goal.loop-place-preserved
loop-place-preserved c =
    up_to_next _ _ _ _ _ c.loop-place.invariant
    (value_told (field_of c.args.col.prime) _ _ _ _ _ c.requires.are c.size_inverse-scale.ensures.0 c.mul.ensures.0)
    c.push.ensures.items

pub returns : goal.returns
unfolding Arrays.sparse_values
returns c = up_to_all _ _ _ _ c.loop-place.invariant (omega (arith, ap length (sym c.requires.are))) (omega (arith, c.loop-place-test.false, ap length (sym c.requires.are)))
