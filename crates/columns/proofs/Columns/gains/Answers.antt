use Rattle.std.proofs.Common.{ℕ, ◌∙◌, sym, ap, length, rules}
use Rattle.field.specs.Field.{modulus_of}
use Rattle.dag.specs.Arrays.{up_to}
use Rattle.columns.specs.Columns as Columns
use Rattle.columns.specs.Prepare as Prepare
use Rattle.columns.specs.Promises as Said
use Rattle.columns.specs.ColumnLaws.{length_columns}
use Rattle.columns.proofs.Columns.gains.Goals as goal

pub returns : goal.returns
unfolding Said.gains
returns c =
    let w = c.args.self.now in
    let saves = λ (j : ℕ). Columns.gain (modulus_of w.prime) (Columns.column (Prepare.columns w.lengths.now w.entries.now) j) in
    c.each.ensures saves (λ j r h p. search rules)
    ∙ (ap (λ l. up_to saves (length l)) c.layout.ensures.0 ∙ ap (up_to saves) (sym (length_columns w.lengths.now w.entries.now)))
