use native.Mathlib.Omega.{arith}
use Rattle.periodic.specs.Periodic as Periodic
use Rattle.periodic.specs.EnterLaws.{zk_fine}
use Rattle.periodic.specs.RunLaws.{long_first, then_long, then_enter, turn_long, enter_none, enter_next, enter_all, refused}
use Rattle.periodic.proofs.PeriodicBuilder.z_power.Goals as goal

pub enter-requires : goal.enter-requires
enter-requires c = zk_fine _ _

pub returns-in_err-z : goal.returns-in_err-z
unfolding Periodic.z_power
returns-in_err-z c = refused _ _ c.from_residual.ensures (long_first _ c.in_err-z.ensures.told)

pub loop-init : goal.loop-init
loop-init c = enter_none _ _ _ c.in_ok-z.ensures.told.inside

pub returns-in_err-z-2 : goal.returns-in_err-z-2
unfolding Periodic.z_power
returns-in_err-z-2 c = refused _ _ c.from_residual-in_err-z-2.ensures (then_long _ c.in_ok-z.ensures.told.ran (turn_long _ _ _ c.loop-test.true c.loop.invariant.ran c.in_err-z-2.ensures.told))

pub loop-preserved : goal.loop-preserved
loop-preserved c = enter_next _ _ _ c.loop.invariant c.in_ok-z-2.ensures.told

pub returns : goal.returns
unfolding Periodic.z_power
returns c = then_enter _ c.in_ok-z.ensures.told.ran (enter_all _ _ _ (omega arith) c.loop-test.false c.loop.invariant)
