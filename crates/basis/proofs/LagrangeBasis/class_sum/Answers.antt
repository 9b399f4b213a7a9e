use native.Mathlib.Omega.{arith}
use Rattle.std.proofs.Common.{◌∙◌, le_trans}
use Rattle.periodic.specs.Periodic as Periodic
use Rattle.periodic.specs.RunLaws.{long_first, then_long, then_enter, turn_long, enter_none, enter_next, enter_all, refused}
use Rattle.basis.specs.BasisLaws.{within_later}
use Rattle.basis.proofs.LagrangeBasis.class_sum.Goals as goal

pub returns-in_err-acc : goal.returns-in_err-acc
unfolding Periodic.class_sum
returns-in_err-acc c = refused _ _ c.from_residual.ensures (long_first _ c.in_err-acc.ensures.told)

pub loop-j-init : goal.loop-j-init
loop-j-init c = enter_none _ _ _ c.in_ok-acc.ensures.told.inside

pub class_turn-requires : goal.class_turn-requires
class_turn-requires c = (
  within_later (c.loop-j.invariant.ran.prime_is ∙ c.in_ok-acc.ensures.told.ran.prime_is) (le_trans c.in_ok-acc.ensures.told.ran.longer c.loop-j.invariant.ran.longer) c.requires,
  c.loop-j-test.true,
  c.loop-j.invariant.inside,
)

pub returns-in_err-acc-2 : goal.returns-in_err-acc-2
unfolding Periodic.class_sum
returns-in_err-acc-2 c = refused _ _ c.from_residual-in_err-acc-2.ensures (then_long _ c.in_ok-acc.ensures.told.ran (turn_long _ _ _ c.loop-j-test.true c.loop-j.invariant.ran c.in_err-acc-2.ensures.told))

pub loop-j-preserved : goal.loop-j-preserved
loop-j-preserved c = enter_next _ _ _ c.loop-j.invariant c.in_ok-acc-2.ensures.told

pub returns : goal.returns
unfolding Periodic.class_sum
returns c = then_enter _ c.in_ok-acc.ensures.told.ran (enter_all _ _ _ (omega arith) c.loop-j-test.false c.loop-j.invariant)
