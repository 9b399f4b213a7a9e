use Prim.Native.Nat.{◌<◌}
use native.Mathlib.Omega.{arith}
use Rattle.std.proofs.Common.{length, rules}
use Rattle.std.proofs.lemmas.List.{length-take-le, get_or-take}
use Rattle.field.specs.Fields.{field_of}
use Rattle.dag.specs.Arrays.{up_to}
use Rattle.coefficients.specs.Arrays as Arrays
use Rattle.coefficients.specs.SplitLaws.{dense_told}
use Rattle.coefficients.specs.TermLaws.{up_to_next, up_to_all, up_to_short}
use Rattle.coefficients.proofs.dense.Goals as goal

pub loop-sum-init : goal.loop-sum-init
unfolding up_to
loop-sum-init c = c.new-coefficients.ensures

pub push-requires : goal.push-requires
push-requires c =
    let taken = length-take-le (length c.args.col.entries.now) c.sums-sums.result (omega (arith, c.args.col.tested.short)) in
    (search rules, up_to_short _ _ _ _ c.loop-sum.invariant (omega (arith, taken, c.loop-sum-test.true, c.args.col.tested.short)))

pub loop-sum-preserved : goal.loop-sum-preserved
loop-sum-preserved c =
    let taken = length-take-le (length c.args.col.entries.now) c.sums-sums.result (omega (arith, c.args.col.tested.short)) in
    let inside : c.loop-sum.sum-index < length c.args.col.entries.now = omega (arith, taken, c.loop-sum-test.true) in
    up_to_next _ _ _ _ _ c.loop-sum.invariant
    (dense_told (field_of c.args.col.prime) _ c.args.col.tested _ _ _ _ _ inside c.sums-sums.ensures
    (get_or-take (length c.args.col.entries.now) c.sums-sums.result c.loop-sum.sum-index 0 inside) c.size_inverse-scale.ensures.0 c.mul.ensures.0)
    c.push.ensures.items

pub returns : goal.returns
unfolding Arrays.coefficients
returns c =
    let taken = length-take-le (length c.args.col.entries.now) c.sums-sums.result (omega (arith, c.args.col.tested.short)) in
    up_to_all _ _ _ _ c.loop-sum.invariant (omega (arith, taken)) (omega (arith, taken, c.loop-sum-test.false))
