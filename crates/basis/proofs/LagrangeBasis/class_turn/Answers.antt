use Rattle.periodic.specs.RunLaws.{long_first, then_enter, enter_done, enter_as, long_as, refused}
use Rattle.basis.specs.BasisLaws.{row_skipped, row_taken}
use Rattle.basis.proofs.LagrangeBasis.class_turn.Goals as goal

pub returns-then-self-j : goal.returns-then-self-j
returns-then-self-j c = enter_as (row_skipped _ _ _ _ _ _ c.if-self-j.true) (enter_done c.requires.2)

pub returns-in_err-element : goal.returns-in_err-element
returns-in_err-element c = refused _ _ c.from_residual.ensures (long_as (row_taken _ _ _ _ _ _ c.if-self-j.false) (long_first _ c.in_err-element.ensures.told))

pub returns : goal.returns
returns c = enter_as (row_taken _ _ _ _ _ _ c.if-self-j.false) (then_enter _ c.in_ok-element.ensures.told.ran c.add.ensures)
