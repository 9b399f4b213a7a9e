use Rattle.std.proofs.Common.{sym, ◌∙◌}
use Rattle.std.proofs.lemmas.Result.{err_from_is_err_and}
use Rattle.columns.specs.PrepareLaws.{check_lengths}
use Rattle.columns.proofs.Columns.new.Goals as goal

pub returns-in_err-lengths_check-clause-checked : goal.returns-in_err-lengths_check-clause-checked
returns-in_err-lengths_check-clause-checked c =
    let p = err_from_is_err_and c.from_residual.result c.from_residual.ensures.1 in
    rw (p.1, p.2) ((check_lengths _ _ _ c.if-lengths-gt-MOST_COLUMNS.false _ (sym c.lengths_check.ensures ∙ c.in_err-lengths_check.was)))
