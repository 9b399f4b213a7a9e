use Prim.Native.Nat.{◌-◌, ◌≤◌}
use mathlib.Core.Path.{◌≡◌}
use lib.ListN.{length, take}
use native.Mathlib.Omega.{arith}
use Rattle.std.proofs.Common.{refl, sym, ap, ◌∙◌, le_trans, lit<, length-take-le}
use Rattle.field.specs.Fields.{field_of}
use Rattle.periodic.specs.Periodic as Periodic
use Rattle.periodic.specs.SameLaws.{Same}
use Rattle.periodic.specs.RunLaws.{long_first, then_long, then_enter, ran_like, long_like, all_later, refused}
use Rattle.basis.specs.BasisLaws.{chain_taken, front_inside, backwards_inside, length_backwards}
use Rattle.basis.proofs.basis_back.Goals as goal
use Rattle.basis.proofs.basis_back.Goals.{After-deref}

turned : (c : After-deref) → c.deref.result.now ≡ Periodic.backwards c.args.factors.now
turned c = c.deref.ensures.0 ∙ c.backwards-turned.ensures

fits : (c : After-deref) → length c.args.factors.now - 1 ≤ length c.deref.result.now
fits c = omega (arith, ap length (turned c), length_backwards c.args.factors.now)

pub returns-in_err-one : goal.returns-in_err-one
unfolding Periodic.basis_back
returns-in_err-one c = refused _ _ c.from_residual.ensures (long_first _ c.in_err-one.ensures.told)

pub slice_bounds-chain-length : goal.slice_bounds-chain-length
slice_bounds-chain-length c = sym (length-take-le _ c.deref.result.now (fits (goal.at.slice_bounds-chain-length c).After-deref))

pub chain-requires : goal.chain-requires
chain-requires c =
    let at = (goal.at.chain-requires c).After-deref in (
      lit< tt,
      (
        c.in_ok-one.ensures.told.inside,
        all_later c.in_ok-one.ensures.told.ran.longer (front_inside _ _ c.deref.result.now (fits at) (rw (turned at) (backwards_inside _ c.args.factors.now c.requires.factors.inside))),
        omega (arith, length-take-le (length c.args.factors.now - 1) c.deref.result.now (fits at), c.requires.factors.long, c.args.col.tested.short, c.args.col.tested.some),
      ),
    )

-- the products behind each row
module _ (c : After-deref) where
  behind : Same (Periodic.chain (field_of c.constant.new.self.prime).elements c.in_ok-one.one (take (length c.args.factors.now - 1) c.deref.result.now) (length (take (length c.args.factors.now - 1) c.deref.result.now)))
      (Periodic.chain (field_of c.constant.new.self.prime).elements c.in_ok-one.one (Periodic.backwards c.args.factors.now) (length c.args.col.entries.now - 1))
  behind = chain_taken _ _ _ _ _ _ (turned c) (ap (λ n. n - 1) c.requires.factors.long) (omega (arith, length_backwards c.args.factors.now, c.requires.factors.long))

pub returns-in_err-suffix : goal.returns-in_err-suffix
unfolding Periodic.basis_back
returns-in_err-suffix c =
    let at = (goal.at.returns-in_err-suffix c).After-deref in
    refused _ _ c.from_residual-in_err-suffix.ensures (then_long _ c.in_ok-one.ensures.told.ran (long_first _ (long_like refl (behind at) c.in_err-suffix.ensures.told)))

pub invariant_of-basis : goal.invariant_of-basis
invariant_of-basis c =
    let at = (goal.at.invariant_of-basis c).After-deref in
    let taken = length-take-le (length c.args.factors.now - 1) c.deref.result.now (fits at) in
    record {
      rooted = c.requires.roots;
      before = record { long = c.requires.prefix.long; inside = all_later (le_trans c.in_ok-one.ensures.told.ran.longer c.in_ok-suffix.ensures.told.ran.longer) c.requires.prefix.inside };
      behind = rw c.deref-2.ensures.0 (record { long = omega (arith, taken, c.in_ok-suffix.ensures.told.many, c.requires.factors.long, c.args.col.tested.some); inside = c.in_ok-suffix.ensures.told.inside });
    }

pub returns : goal.returns
unfolding Periodic.basis_back
returns c =
    let at = (goal.at.returns c).After-deref in
    then_enter _ c.in_ok-one.ensures.told.ran (then_enter _ (ran_like refl (behind at) c.in_ok-suffix.ensures.told.ran) (rw c.deref-2.ensures.0 at c.basis_sum.ensures))
