-- Draw: the answer, and every byte of the text store, on all inputs.
use Rattle.std.specs.Prelude.{ℕ, List, leb, length, Result, Ok, Err}
use Rattle.field.specs.Fields.{Field, modulus}
use Rattle.dag.specs.View.{View}
use Rattle.dag.specs.Nodes.{nodes}
use Rattle.dag.specs.Refusals.{Checked, need, ◌then◌, unless_refused}
use Rattle.dag.specs.Check.{list_check}
use Rattle.dag.specs.declared.Refusal.{Refusal}
use Rattle.dag.specs.declared.Refusal.TheVariants.{TextTooShort}
use Rattle.text.specs.Text.{laid}
use Rattle.draw.specs.Drawing.{drawing}

module _ (field : Field) where
  -- the drawing of the list that a store holds
  unfoldable pub drawn : View → ℕ → List ℕ
  drawn s n = drawing (modulus field) (nodes s n)

  -- Draw's tests: the list check, then the text store
  unfoldable pub draw_check : View → ℕ → List ℕ → ℕ → Checked
  draw_check s n roots text_room = list_check field.bounds s n roots then need (leb (length (drawn s n)) text_room) TextTooShort

  -- the text's length
  unfoldable pub draw_answer : View → ℕ → List ℕ → ℕ → Result ℕ Refusal
  draw_answer s n roots text_room = unless_refused (draw_check s n roots text_room) Err (Ok (length (drawn s n)))

  -- the drawing, 0 bytes behind it
  unfoldable pub draw_text : View → ℕ → List ℕ → List ℕ → List ℕ
  draw_text s n roots text = unless_refused (draw_check s n roots (length text)) (λ r. text) (laid (length text) (drawn s n))
