use lib.ListN.{get_or}
use native.Mathlib.Omega.{arith}
use Rattle.std.proofs.Common.{sym, ap}
use Rattle.periodic.specs.Periodic as Periodic
use Rattle.periodic.specs.RunLaws.{list_none, list_next, list_long, list_all, last_is, one_place, one_inside, refused_list}
use Rattle.periodic.proofs.PeriodicBuilder.powers.Goals as goal

pub loop-init : goal.loop-init
loop-init c = record {
  listed = list_none _ _ _ _ (one_place c.new-powers.ensures c.push.ensures.items) (one_inside c.requires.0);
  last = sym (ap (λ ps. get_or ps 0 0) (one_place c.new-powers.ensures c.push.ensures.items));
  inside = c.requires.0;
}

pub returns-in_err-power : goal.returns-in_err-power
unfolding Periodic.powers
returns-in_err-power c = refused_list _ _ c.from_residual.ensures (list_long _ _ _ _ c.loop-test.true c.loop.invariant.listed (rw c.loop.invariant.last at c.in_err-power.ensures.told))

pub loop-preserved : goal.loop-preserved
loop-preserved c = record {
  listed = list_next _ _ _ _ _ c.loop.invariant.listed (rw c.loop.invariant.last at c.in_ok-power.ensures.told) c.push-in-loop.ensures.items;
  last = last_is _ _ _ _ c.push-in-loop.ensures.items c.loop.invariant.listed.many;
  inside = c.in_ok-power.ensures.told.inside;
}

pub returns : goal.returns
unfolding Periodic.powers
returns c = list_all _ _ _ _ (omega arith) c.loop-test.false (omega arith) c.loop.invariant.listed
