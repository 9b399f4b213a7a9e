use native.Mathlib.Omega.{arith}
use Rattle.std.proofs.Common.{◌∙◌, ap, lt_of_lt_of_le}
use Rattle.field.specs.Fields.{field_of}
use Rattle.periodic.specs.Builder as Builder
use Rattle.periodic.specs.Periodic as Periodic
use Rattle.periodic.specs.SameLaws.{same_is}
use Rattle.periodic.specs.RunLaws.{long_first, then_long, then_enter, ran_like, long_like, below_later, refused}
use Rattle.basis.proofs.LagrangeBasis.element.Goals as goal

pub mul-requires : goal.mul-requires
mul-requires c =
    let basis = c.args.self.now in (
      lt_of_lt_of_le (basis.before.inside.at _ (omega (arith, c.requires.1, basis.before.long))) c.requires.0.longer,
      lt_of_lt_of_le (basis.behind.inside.at _ (omega (arith, c.requires.1, basis.behind.long))) c.requires.0.longer,
    )

pub returns-in_err-product : goal.returns-in_err-product
unfolding Periodic.element
returns-in_err-product c = refused _ _ c.from_residual.ensures (long_first _ c.in_err-product.ensures.told)

pub constant-requires : goal.constant-requires
constant-requires c = below_later (c.in_ok-product.ensures.told.ran.prime_is ∙ c.requires.0.same) (c.args.self.now.rooted.low _ c.requires.1)

pub returns-in_err-root : goal.returns-in_err-root
unfolding Periodic.element
returns-in_err-root c =
    let basis = c.args.self.now in
    let root = ap (Builder.constant (field_of basis.col.prime).elements) (basis.rooted.at _ c.requires.1) in
    refused _ _ c.from_residual-in_err-root.ensures
    (then_long _ c.in_ok-product.ensures.told.ran (long_first _ (long_like (c.in_ok-product.ensures.told.ran.prime_is ∙ c.requires.0.same) (same_is root) c.in_err-root.ensures.told)))

pub returns : goal.returns
unfolding Periodic.element
returns c =
    let basis = c.args.self.now in
    let root = ap (Builder.constant (field_of basis.col.prime).elements) (basis.rooted.at _ c.requires.1) in
    then_enter _ c.in_ok-product.ensures.told.ran
    (then_enter _ (ran_like (c.in_ok-product.ensures.told.ran.prime_is ∙ c.requires.0.same) (same_is root) c.in_ok-root.ensures.told.ran) c.mul-2.ensures)
