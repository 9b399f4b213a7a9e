use Rattle.std.proofs.Common.{◌∙◌}
use native.Mathlib.Omega.{arith}
use Rattle.periodic.specs.Periodic as Periodic
use Rattle.periodic.specs.RunLaws.{long_first, then_long, then_enter, turn_long, enter_none, enter_next, enter_all, all_later, below_later, refused}
use Rattle.periodic.proofs.PeriodicBuilder.sparse_factor.Goals as goal

pub returns-in_err-factor : goal.returns-in_err-factor
unfolding Periodic.sparse_factor
returns-in_err-factor c = refused _ _ c.from_residual.ensures (long_first _ c.in_err-factor.ensures.told)

pub loop-i-init : goal.loop-i-init
loop-i-init c = enter_none _ _ _ c.in_ok-factor.ensures.told.inside

pub sparse_turn-requires : goal.sparse_turn-requires
sparse_turn-requires c = (
  below_later (c.loop-i.invariant.ran.prime_is ∙ c.in_ok-factor.ensures.told.ran.prime_is) (c.requires.1.low _ c.loop-i-test.true),
  (all_later c.loop-i.invariant.ran.longer (all_later c.in_ok-factor.ensures.told.ran.longer c.requires.0)).at _ (omega arith),
  c.loop-i.invariant.inside,
)

pub returns-in_err-factor-2 : goal.returns-in_err-factor-2
unfolding Periodic.sparse_factor
returns-in_err-factor-2 c = refused _ _ c.from_residual-in_err-factor-2.ensures (then_long _ c.in_ok-factor.ensures.told.ran (turn_long _ _ _ c.loop-i-test.true c.loop-i.invariant.ran c.in_err-factor-2.ensures.told))

pub loop-i-preserved : goal.loop-i-preserved
loop-i-preserved c = enter_next _ _ _ c.loop-i.invariant c.in_ok-factor-2.ensures.told

pub returns : goal.returns
unfolding Periodic.sparse_factor
returns c = then_enter _ c.in_ok-factor.ensures.told.ran (enter_all _ _ _ (omega arith) c.loop-i-test.false c.loop-i.invariant)
