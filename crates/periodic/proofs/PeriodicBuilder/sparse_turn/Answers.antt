use Rattle.periodic.specs.Periodic as Periodic
use Rattle.periodic.specs.RunLaws.{long_first, then_long, then_enter, refused}
use Rattle.periodic.proofs.PeriodicBuilder.sparse_turn.Goals as goal

pub returns-in_err-twiddled : goal.returns-in_err-twiddled
unfolding Periodic.sparse_turn
returns-in_err-twiddled c = refused _ _ c.from_residual.ensures (long_first _ c.in_err-twiddled.ensures.told)

pub returns-in_err-scaled : goal.returns-in_err-scaled
unfolding Periodic.sparse_turn
returns-in_err-scaled c = refused _ _ c.from_residual-in_err-scaled.ensures (then_long _ c.in_ok-twiddled.ensures.told.ran (long_first _ c.in_err-scaled.ensures.told))

pub returns-in_err-one : goal.returns-in_err-one
unfolding Periodic.sparse_turn
returns-in_err-one c =
    refused _ _ c.from_residual-in_err-one.ensures
    (then_long _ c.in_ok-twiddled.ensures.told.ran (then_long _ c.in_ok-scaled.ensures.told.ran (long_first _ c.in_err-one.ensures.told)))

pub returns-in_err-sum : goal.returns-in_err-sum
unfolding Periodic.sparse_turn
returns-in_err-sum c =
    refused _ _ c.from_residual-in_err-sum.ensures
    (then_long _ c.in_ok-twiddled.ensures.told.ran (then_long _ c.in_ok-scaled.ensures.told.ran (then_long _ c.in_ok-one.ensures.told.ran (long_first _ c.in_err-sum.ensures.told))))

pub returns : goal.returns
unfolding Periodic.sparse_turn
returns c =
    then_enter _ c.in_ok-twiddled.ensures.told.ran (then_enter _ c.in_ok-scaled.ensures.told.ran
    (then_enter _ c.in_ok-one.ensures.told.ran (then_enter _ c.in_ok-sum.ensures.told.ran c.mul-2.ensures)))
