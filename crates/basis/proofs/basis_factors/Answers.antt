use Prim.Native.Nat.{◌<◌}
use native.Mathlib.Omega.{arith}
use Rattle.std.proofs.Common.{length, rules, sym, ◌∙◌}
use Rattle.field.specs.Fields.{field_of}
use Rattle.periodic.specs.Periodic as Periodic
use Rattle.periodic.specs.SameLaws.{same_is}
use Rattle.periodic.specs.RunLaws.{list_none, list_next, list_long, list_all, none_inside, entered_like, long_like, below_later, refused_list}
use Rattle.basis.specs.BasisLaws.{factor_at}
use Rattle.basis.proofs.basis_factors.Goals as goal

pub loop-root-init : goal.loop-root-init
loop-root-init c = list_none _ _ _ _ c.new-factors.ensures (none_inside _)

pub basis_factor-requires : goal.basis_factor-requires
basis_factor-requires c = (
  omega (arith, c.requires.0, c.loop-root.invariant.ran.longer),
  below_later (c.loop-root.invariant.ran.prime_is ∙ sym c.requires.1) (c.requires.2.low _ (omega (arith, c.requires.2.many, c.loop-root-test.true))),
)

pub returns-in_err-factor : goal.returns-in_err-factor
unfolding Periodic.factors
returns-in_err-factor c =
    let inside : c.loop-root.root-index < length c.args.col.entries.now = omega (arith, c.requires.2.many, c.loop-root-test.true) in
    refused_list _ _ c.from_residual.ensures
    (list_long _ _ _ _ inside c.loop-root.invariant
    (long_like (c.loop-root.invariant.ran.prime_is ∙ sym c.requires.1) (same_is (factor_at (field_of c.args.col.prime) _ _ _ _ c.requires.2 inside)) c.in_err-factor.ensures.told))

pub loop-root-preserved : goal.loop-root-preserved
loop-root-preserved c =
    let inside : c.loop-root.root-index < length c.args.col.entries.now = omega (arith, c.requires.2.many, c.loop-root-test.true) in
    list_next _ _ _ _ _ c.loop-root.invariant
    (entered_like (c.loop-root.invariant.ran.prime_is ∙ sym c.requires.1) (same_is (factor_at (field_of c.args.col.prime) _ _ _ _ c.requires.2 inside)) c.in_ok-factor.ensures.told)
    c.push.ensures.items

pub returns : goal.returns
unfolding Periodic.factors
returns c = list_all _ _ _ _ (omega (arith, c.requires.2.many)) (omega (arith, c.requires.2.many, c.loop-root-test.false)) (omega (arith, c.requires.2.many)) c.loop-root.invariant

pub push-requires : goal.push-requires
push-requires c = (search rules, omega (arith, c.args.col.tested.short, c.loop-root.invariant.many, c.requires.2.many))
