use Prim.Native.Nat.{◌+◌, ◌-◌, ◌<◌}
use mathlib.Core.Path.{◌≡◌}
use lib.ListN.{length, get_or}
use native.Mathlib.Omega.{arith}
use Rattle.std.proofs.Common.{le_of_eq, sym}
use Rattle.std.proofs.lemmas.Iterator.Adapters.{YieldsList-from_rev_slice}
use Rattle.std.proofs.lemmas.Iterator.Consumers.{YieldsList-turn, YieldsList-end}
use Rattle.std.proofs.lemmas.List.{length_push}
use Rattle.periodic.specs.Periodic as Periodic
use Rattle.periodic.specs.ListLaws.{turned_item, turned_end}
use Rattle.periodic.specs.RunLaws.{long_first, then_long, then_enter, then_entered, turn_long, enter_none, enter_next, enter_all, all_later, refused}
use Rattle.periodic.proofs.PeriodicBuilder.horner_eval.Goals as goal
use Rattle.periodic.proofs.PeriodicBuilder.horner_eval.Goals.{In-Some}

-- the item of this turn
item : (c : In-Some) → (length c.loop-coeff.yielded < length c.args.coeffs.now) × (c.in-Some.coeff.now ≡ get_or c.args.coeffs.now (length c.args.coeffs.now - (length c.loop-coeff.yielded + 1)) 0)
item c = turned_item _ _ _ (YieldsList-turn (YieldsList-from_rev_slice c.args.coeffs.now (cc)) c.loop-coeff.yielded _ c.loop-coeff.yielded_by _ _ c.in-Some.coeff c.in-Some.is c.next.ensures.steps)

pub returns-in_err-acc : goal.returns-in_err-acc
unfolding Periodic.horner_eval
returns-in_err-acc c = refused _ _ c.from_residual.ensures (long_first _ c.in_err-acc.ensures.told)

pub loop-coeff-init : goal.loop-coeff-init
loop-coeff-init c = enter_none _ _ _ c.in_ok-acc.ensures.told.inside

pub returns-in_err-product : goal.returns-in_err-product
unfolding Periodic.horner_eval Periodic.horner_turn
returns-in_err-product c =
    refused _ _ c.from_residual-in_err-product.ensures
    (then_long _ c.in_ok-acc.ensures.told.ran (turn_long _ _ _ (item (goal.at.returns-in_err-product c).In-Some).0 c.loop-coeff.invariant.ran (long_first _ c.in_err-product.ensures.told)))

pub add-requires : goal.add-requires
add-requires c =
    let t = item (goal.at.add-requires c).In-Some in (
      rw t.1
          ((all_later c.in_ok-product.ensures.told.ran.longer (all_later c.loop-coeff.invariant.ran.longer (all_later c.in_ok-acc.ensures.told.ran.longer c.requires.1))).at _ (omega (arith, t.0))),
      c.in_ok-product.ensures.told.inside,
    )

pub returns-in_err-acc-2 : goal.returns-in_err-acc-2
unfolding Periodic.horner_eval Periodic.horner_turn
returns-in_err-acc-2 c =
    let t = item (goal.at.returns-in_err-acc-2 c).In-Some in
    refused _ _ c.from_residual-in_err-acc-2.ensures
    (then_long _ c.in_ok-acc.ensures.told.ran
    (turn_long _ _ _ t.0 c.loop-coeff.invariant.ran (then_long _ c.in_ok-product.ensures.told.ran (rw t.1 at c.in_err-acc-2.ensures.told))))

pub loop-coeff-preserved : goal.loop-coeff-preserved
unfolding Periodic.horner_turn
loop-coeff-preserved c =
    let t = item (goal.at.loop-coeff-preserved c).In-Some in
    rw (length_push c.loop-coeff.yielded c.in-Some.coeff)
    (enter_next _ _ _ c.loop-coeff.invariant (then_entered _ c.in_ok-product.ensures.told.ran (rw t.1 at c.in_ok-acc-2.ensures.told)))

pub returns : goal.returns
unfolding Periodic.horner_eval
returns c =
    let e = turned_end c.args.coeffs.now _ (YieldsList-end (YieldsList-from_rev_slice c.args.coeffs.now (cc)) c.loop-coeff.yielded _ c.loop-coeff.yielded_by _ _ c.in-None.is c.next.ensures.steps).1 in
    then_enter _ c.in_ok-acc.ensures.told.ran (enter_all _ _ _ (le_of_eq e) (le_of_eq (sym e)) c.loop-coeff.invariant)
