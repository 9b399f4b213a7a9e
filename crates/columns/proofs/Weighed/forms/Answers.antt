use Rattle.std.proofs.Common.{◌∙◌, sym, ap, length, rules}
use Rattle.field.specs.Field.{modulus_of}
use Rattle.dag.specs.Arrays.{up_to}
use Rattle.columns.specs.Columns.{form}
use Rattle.columns.specs.Prepare as Prepare
use Rattle.columns.specs.ColumnLaws.{length_columns}
use Rattle.columns.proofs.Weighed.forms.Goals as goal

pub returns : goal.returns
unfolding Prepare.forms
returns c =
    let w = c.args.self.now.columns in
    let made = form (modulus_of w.prime) (Prepare.columns w.lengths.now w.entries.now) in
    c.each.ensures made (λ j r h p. search rules)
    ∙ (ap (λ l. up_to made (length l)) c.layout.ensures.0 ∙ ap (up_to made) (sym (length_columns w.lengths.now w.entries.now)))
