use Rattle.std.proofs.Common.{◌∙◌, sym, refl, rules, tests, arith}
use Rattle.std.proofs.lemmas.Iterator.{YieldsList-from_range}
use Rattle.std.proofs.lemmas.Iterator.Search.{any_from_yields_List}
use Rattle.columns.specs.Columns.{column, same_entries}
use Rattle.columns.specs.Prepare.{columns}
use Rattle.columns.specs.ColumnLaws.{among_is, same_is}
use Rattle.columns.proofs.Layout.is_repeated.Goals as goal

pub returns : goal.returns
returns c =
    let cs = columns c.args.self.now.lengths.now c.args.self.now.entries.now in
    any_from_yields_List (λ i. same_entries (column cs i) (column cs c.args.j)) _ _ _ c.any.ensures.ran
    (YieldsList-from_range 0 c.args.j c.args.j refl (omega arith)) (λ x b q k. search (rules, tests, same_is))
    ∙ sym (among_is cs c.args.j c.args.j)
