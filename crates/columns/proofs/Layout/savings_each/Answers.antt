use Rattle.std.proofs.Common.{◌≡◌, ◌∙◌, cond, get_or, sym, ap, rules}
use Rattle.dag.specs.Arrays.{up_to}
use Rattle.columns.specs.Columns as Columns
use Rattle.columns.specs.Prepare as Prepare
use Rattle.columns.specs.Promises as Said
use Rattle.columns.specs.ColumnLaws.{length_columns}
use Rattle.columns.specs.SavingLaws.{counted_is}
use Rattle.columns.proofs.Layout.savings_each.Goals as goal

pub returns : goal.returns
unfolding Said.savings_each Said.counted
returns c m e =
    let l = c.args.self.now in
    let cs = Prepare.columns l.lengths.now l.entries.now in
    c.each.ensures (Columns.saving m cs)
    (λ j r h p. let told : r ≡ cond (Columns.is_among cs j j) 0 (get_or c.args.gains.now j 0) = search rules in told ∙ counted_is m _ _ l.handed _ _ e h)
    ∙ ap (up_to (Columns.saving m cs)) (sym (length_columns l.lengths.now l.entries.now))
