use lib.ListN.{get_or}
use native.Mathlib.Omega.{arith}
use Rattle.std.proofs.Common.{sym, ap}
use Rattle.periodic.specs.Periodic as Periodic
use Rattle.periodic.specs.RunLaws.{list_none, list_next, list_long, list_all, last_is, one_place, one_inside, all_later, refused_list}
use Rattle.periodic.proofs.PeriodicBuilder.chain.Goals as goal

pub loop-factor-init : goal.loop-factor-init
loop-factor-init g c = record {
  listed = list_none _ _ _ _ (one_place c.new-products.ensures c.push.ensures.items) (one_inside c.requires.0);
  last = sym (ap (λ ps. get_or ps 0 0) (one_place c.new-products.ensures c.push.ensures.items));
  inside = c.requires.0;
}

pub mul-requires : goal.mul-requires
mul-requires g c = (c.loop-factor.invariant.inside, (all_later c.loop-factor.invariant.listed.ran.longer c.requires.1).at _ c.loop-factor-test.true)

pub returns-in_err-product : goal.returns-in_err-product
unfolding Periodic.chain
returns-in_err-product g c = refused_list _ _ c.from_residual.ensures (list_long _ _ _ _ c.loop-factor-test.true c.loop-factor.invariant.listed (rw c.loop-factor.invariant.last at c.in_err-product.ensures.told))

pub loop-factor-preserved : goal.loop-factor-preserved
loop-factor-preserved g c = record {
  listed = list_next _ _ _ _ _ c.loop-factor.invariant.listed (rw c.loop-factor.invariant.last at c.in_ok-product.ensures.told) c.push-in-loop-factor.ensures.items;
  last = last_is _ _ _ _ c.push-in-loop-factor.ensures.items c.loop-factor.invariant.listed.many;
  inside = c.in_ok-product.ensures.told.inside;
}

pub returns : goal.returns
unfolding Periodic.chain
returns g c = list_all _ _ _ _ (omega arith) c.loop-factor-test.false (omega arith) c.loop-factor.invariant.listed
