-- The exported call: what its text store holds where it accepts, and that no two lists leave the same drawing there.
use Rattle.std.specs.Prelude.{ℕ, List, ◌≡◌, get_or, length, take, Ok, Some}
use Rattle.std.proofs.Common.{sym, ◌∙◌, ap}
use Rattle.std.proofs.Math.Seq.{take-append_seam}
use Rattle.field.specs.Fields.{field_of}
use Rattle.field.specs.Numbers.{numbered}
use Rattle.field.specs.declared.Prime.{Prime}
use Rattle.dag.specs.View.{interleaved}
use Rattle.dag.specs.Nodes.{nodes}
use Rattle.dag.specs.Check.{list_check}
use Rattle.dag.specs.CheckLaws.{then_good}
use Rattle.text.specs.Text.{laid}
use Rattle.draw.specs.Calls.{drawn, draw_check, draw_answer, draw_text}
use Rattle.legend.specs.Legend.{same_list}
use Rattle.ace.specs.Calls as Calls
use Rattle.demands.specs.Accepted.{outcome, draw_accepts}
use Rattle.demands.specs.Numbered.{draw_known}

module _ (number : ℕ) (prime : Prime) (known : numbered number ≡ Some prime) where
  module _ (list : List ℕ) (n : ℕ) (roots text : List ℕ) where
    abbrev pub answer : List ℕ
    answer = Calls.draw_answer number list n roots text

    -- so many bytes of the text store as the answer says
    abbrev pub front : List ℕ
    front = take (get_or answer 1 0) (Calls.draw_text number list n roots text)

    module _ (accepted : outcome answer ≡ 0) where
      good : draw_check (field_of prime) (interleaved list) n roots (length text) ≡ Ok tt
      good = (draw_accepts (field_of prime) (interleaved list) n roots (length text)).0 (ap outcome (sym (draw_known number prime known list n roots text).0) ∙ accepted)

      -- the answer is the drawing's length
      pub draw_length : get_or answer 1 0 ≡ length (drawn (field_of prime) (interleaved list) n)
      unfolding draw_answer
      draw_length = ap (λ ws. get_or ws 1 0) (draw_known number prime known list n roots text).0 ∙ rw good

      -- so many bytes of the store are the drawing
      pub draw_front : front ≡ drawn (field_of prime) (interleaved list) n
      unfolding draw_text laid
      draw_front = rw (draw_length, (draw_known number prime known list n roots text).1, good) (take-append_seam (drawn (field_of prime) (interleaved list) n) _)

  -- two calls that accept and leave the same drawing were given the same list
  pub draw_same : (list other : List ℕ) (n k : ℕ) (roots tops text text' : List ℕ) → outcome (answer list n roots text) ≡ 0 → outcome (answer other k tops text') ≡ 0
      → front list n roots text ≡ front other k tops text' → (n ≡ k) × (nodes (interleaved list) n ≡ nodes (interleaved other) k)
  unfolding draw_check
  draw_same list other n k roots tops text text' a b e =
      let listed = then_good (list_check (field_of prime).bounds (interleaved list) n roots) _ (good list n roots text a) in
      let listed' = then_good (list_check (field_of prime).bounds (interleaved other) k tops) _ (good other k tops text' b) in
      same_list prime (interleaved list) (interleaved other) n k roots tops listed.0 listed'.0
      (sym (draw_front list n roots text a) ∙ (e ∙ draw_front other k tops text' b))
