-- What Draw answers and leaves in the text store: where the list is refused, where the store is too short, where it is accepted.
use Rattle.std.specs.Prelude.{ℕ, ◌≤◌, ◌<◌, List, ◌≡◌, length, Ok, Err}
use Rattle.std.proofs.Common.{le-leb}
use Rattle.std.proofs.lemmas.Bool.{lt-leb}
use Rattle.field.specs.Fields.{Field}
use Rattle.dag.specs.View.{View}
use Rattle.dag.specs.Check.{list_check}
use Rattle.dag.specs.declared.Refusal.{Refusal}
use Rattle.dag.specs.declared.Refusal.TheVariants.{TextTooShort}
use Rattle.text.specs.Text.{laid}
use Rattle.draw.specs.Calls.{drawn, draw_check, draw_answer, draw_text}

module _ (field : Field) (s : View) (n : ℕ) (roots text : List ℕ) where
  module _ (r : Refusal) (bad : list_check field.bounds s n roots ≡ Err r) where
    pub list_refused : Err r ≡ draw_answer field s n roots (length text)
    unfolding draw_answer draw_check
    list_refused = rw bad

    pub list_untouched : text ≡ draw_text field s n roots text
    unfolding draw_text draw_check
    list_untouched = rw bad

  module _ (good : list_check field.bounds s n roots ≡ Ok tt) where
    module _ (h : length text < length (drawn field s n)) where
      pub text_refused : Err TextTooShort ≡ draw_answer field s n roots (length text)
      unfolding draw_answer draw_check
      text_refused = rw (good, lt-leb (length (drawn field s n)) (length text) h)

      pub text_untouched : text ≡ draw_text field s n roots text
      unfolding draw_text draw_check
      text_untouched = rw (good, lt-leb (length (drawn field s n)) (length text) h)

    module _ (h : length (drawn field s n) ≤ length text) where
      pub drawn_answer : Ok (length (drawn field s n)) ≡ draw_answer field s n roots (length text)
      unfolding draw_answer draw_check
      drawn_answer = rw (good, le-leb (length (drawn field s n)) (length text) h)

      pub drawn_text : laid (length text) (drawn field s n) ≡ draw_text field s n roots text
      unfolding draw_text draw_check
      drawn_text = rw (good, le-leb (length (drawn field s n)) (length text) h)
