use Prim.Native.Nat.{◌-◌}
use lib.ListN.{length, take}
use native.Mathlib.Omega.{arith}
use Rattle.std.proofs.Common.{refl, sym, ap, ◌∙◌}
use Rattle.field.specs.Fields.{field_of}
use Rattle.coefficients.specs.Terms as Terms
use Rattle.periodic.specs.Builder as Builder
use Rattle.periodic.specs.Periodic as Periodic
use Rattle.periodic.specs.SameLaws.{Same, same_is}
use Rattle.periodic.specs.RunLaws.{long_first, then_long, then_enter, ran_like, long_like, refused}
use Rattle.basis.specs.BasisLaws.{chain_taken}
use Rattle.basis.proofs.basis_front.Goals as goal
use Rattle.basis.proofs.basis_front.Goals.{After-size_inverse-scale, After-len}

-- the constant of the number of rows, inverted
scale : (c : After-size_inverse-scale)
    → Same (Builder.constant (field_of c.args.col.prime).elements c.size_inverse-scale.result) (Builder.constant (field_of c.args.col.prime).elements (Terms.size_inverse (field_of c.args.col.prime) c.args.col.entries.now))
scale c = same_is (ap (Builder.constant (field_of c.args.col.prime).elements) c.size_inverse-scale.ensures.0)

-- the products before each row
before : (c : After-len)
    → Same (Periodic.chain (field_of c.constant.new.self.prime).elements c.in_ok-start.start (take (c.len.result - 1) c.deref.result.now) (length (take (c.len.result - 1) c.deref.result.now)))
    (Periodic.chain (field_of c.constant.new.self.prime).elements c.in_ok-start.start c.in_ok-factors.factors.items (length c.args.col.entries.now - 1))
before c = chain_taken _ _ _ _ _ _ c.deref.ensures.0 (ap (λ n. n - 1) (c.len.ensures.value ∙ c.in_ok-factors.ensures.told.many)) (omega (arith, c.in_ok-factors.ensures.told.many))

pub returns-in_err-factors : goal.returns-in_err-factors
unfolding Periodic.basis_front
returns-in_err-factors c = refused _ _ c.from_residual.ensures (long_first _ c.in_err-factors.ensures.told)

pub returns-in_err-start : goal.returns-in_err-start
unfolding Periodic.basis_front
returns-in_err-start c =
    let one = scale (goal.at.returns-in_err-start c).After-size_inverse-scale in
    let e = c.in_ok-factors.ensures.told.ran.prime_is ∙ sym c.requires.1 in
    refused _ _ c.from_residual-in_err-start.ensures (then_long _ c.in_ok-factors.ensures.told.ran (long_first _ (long_like e one c.in_err-start.ensures.told)))

pub returns-in_err-prefix : goal.returns-in_err-prefix
unfolding Periodic.basis_front
returns-in_err-prefix c =
    let one = scale (goal.at.returns-in_err-prefix c).After-size_inverse-scale in
    let e = c.in_ok-factors.ensures.told.ran.prime_is ∙ sym c.requires.1 in
    refused _ _ c.from_residual-in_err-prefix.ensures
    (then_long _ c.in_ok-factors.ensures.told.ran
    (then_long _ (ran_like e one c.in_ok-start.ensures.told.ran) (long_first _ (long_like refl (before (goal.at.returns-in_err-prefix c).After-len) c.in_err-prefix.ensures.told))))

pub returns : goal.returns
unfolding Periodic.basis_front
returns c =
    let one = scale (goal.at.returns c).After-size_inverse-scale in
    let e = c.in_ok-factors.ensures.told.ran.prime_is ∙ sym c.requires.1 in
    then_enter _ c.in_ok-factors.ensures.told.ran
    (then_enter _ (ran_like e one c.in_ok-start.ensures.told.ran)
    (then_enter _ (ran_like refl (before (goal.at.returns c).After-len) c.in_ok-prefix.ensures.told.ran) (rw (c.deref-2.ensures.0, c.deref-3.ensures.0) at c.basis_back.ensures)))
