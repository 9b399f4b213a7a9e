use mathlib.Core.Path.{sym, ◌∙◌, ap}
use lib.ListN.{length}
use Rattle.dag.specs.Store.{blanked_behind}
use Rattle.dag.specs.ViewLaws.{same_room}
use Rattle.dag.specs.WordLaws.{copied_blanked}
use Rattle.dag.proofs.store_records.Goals as goal

pub blank_records-requires : goal.blank_records-requires
blank_records-requires c = rw (same_room _ c.args.to.now c.copy_records.auto.to) c.requires.1

pub returns : goal.returns
returns c =
    c.blank_records.ensures
    ∙ (ap (λ t. blanked_behind t c.args.n) c.copy_records.ensures
    ∙ copied_blanked c.args.from.now c.args.to.now c.args.n c.requires.0
    (ap length (sym c.copy_records.ensures) ∙ c.copy_records.auto.to))
