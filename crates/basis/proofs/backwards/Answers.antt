use Prim.Native.Nat.{◌+◌, ◌-◌, ◌<◌}
use mathlib.Core.Path.{◌≡◌}
use lib.ListN.{length, get_or}
use native.Mathlib.Omega.{arith}
use Rattle.std.proofs.Common.{rules, le_of_eq, sym}
use Rattle.std.proofs.lemmas.Iterator.Adapters.{YieldsList-from_rev_slice}
use Rattle.std.proofs.lemmas.Iterator.Consumers.{YieldsList-turn, YieldsList-end}
use Rattle.std.proofs.lemmas.List.{length_push}
use Rattle.dag.specs.Arrays.{up_to}
use Rattle.coefficients.specs.TermLaws.{up_to_next, up_to_all, up_to_short}
use Rattle.periodic.specs.Periodic as Periodic
use Rattle.periodic.specs.ListLaws.{turned_item, turned_end}
use Rattle.basis.proofs.backwards.Goals as goal
use Rattle.basis.proofs.backwards.Goals.{In-Some}

-- the item of this turn
item : (c : In-Some) → (length c.loop-place.yielded < length c.args.places.now) × (c.in-Some.place.now ≡ get_or c.args.places.now (length c.args.places.now - (length c.loop-place.yielded + 1)) 0)
item c = turned_item _ _ _ (YieldsList-turn (YieldsList-from_rev_slice c.args.places.now (cc)) c.loop-place.yielded _ c.loop-place.yielded_by _ _ c.in-Some.place c.in-Some.is c.next.ensures.steps)

pub loop-place-init : goal.loop-place-init
unfolding up_to
loop-place-init c = c.new-turned.ensures

pub push-requires : goal.push-requires
push-requires c =
    let t = item (goal.at.push-requires c).In-Some in
    (search rules, up_to_short _ _ _ _ c.loop-place.invariant (omega (arith, t.0)))

pub loop-place-preserved : goal.loop-place-preserved
loop-place-preserved c =
    let t = item (goal.at.loop-place-preserved c).In-Some in
    rw (length_push c.loop-place.yielded c.in-Some.place) (up_to_next _ _ _ _ _ c.loop-place.invariant t.1 c.push.ensures.items)

pub returns : goal.returns
unfolding Periodic.backwards
returns c =
    let e = turned_end c.args.places.now _ (YieldsList-end (YieldsList-from_rev_slice c.args.places.now (cc)) c.loop-place.yielded _ c.loop-place.yielded_by _ _ c.in-None.is c.next.ensures.steps).1 in
    up_to_all _ _ _ _ c.loop-place.invariant (le_of_eq e) (le_of_eq (sym e))
