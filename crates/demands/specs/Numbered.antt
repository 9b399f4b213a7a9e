-- The calls by their field numbers. A number that names no field is 49 at place 0, whatever else is handed over, and every store stays as it
-- was. For 1 and 2 a call is its field's, so that what is shown of every field holds of these numbers.
use Rattle.dag.specs.Refusals.{Checked}
use Rattle.std.specs.Prelude.{ℕ, ◌-◌, List, ◌∷◌, ◌++◌, ◌↔◌, ◌≡◌, refl, get_or, length, take, drop, replicate, Ok, Option, Some, None}
use mathlib.Core.List as Lists
use Rattle.std.proofs.Common.{sym, ◌∙◌, ap, ap₂, arith}
use Rattle.std.proofs.Math.Seq.{take-append_seam}
use Rattle.field.specs.Fields.{Field, field_of, modulus}
use Rattle.field.specs.NumberLaws.{by_known, by_unknown}
use Rattle.field.specs.Numbers.{numbered, named, in_field}
use Rattle.field.specs.declared.Prime.{Prime}
use Rattle.dag.specs.View.{interleaved}
use Rattle.dag.specs.Nodes.{nodes}
use Rattle.dag.specs.Store.{Alike}
use Rattle.dag.specs.Arrays.{padded}
use Rattle.dag.specs.Roots.{most_roots, roots_of, roots_from}
use Rattle.meaning.specs.Values.{value}
use Rattle.builder.specs.Calls.{step_whole_check, build_check}
use Rattle.builder.specs.Calls as Builder
use Rattle.compact.specs.Calls.{compact_check}
use Rattle.compact.specs.Calls as Compaction
use Rattle.evaluate.specs.Calls.{given, evaluate_check, evaluate_answer}
use Rattle.normalize.specs.Calls.{normalize_check, normalize_answer, normalize_result, normalize_work}
use Rattle.columns.specs.Prepare.{prepare_check, prepare}
use Rattle.lower.specs.Lower.{whole_check}
use Rattle.lower.specs.Lower as Lowering
use Rattle.draw.specs.Calls as Drawing
use Rattle.encode.specs.Calls as Encoding
use Rattle.ace.specs.Answers.{answer_width, list_width, evaluate_width, prepare_width, step_words, list_words, normalize_words, evaluate_words, prepare_words, number_words, encoded_words}
use Rattle.ace.specs.Calls as Calls
use Rattle.demands.specs.Accepted.{outcome, step_accepts, build_accepts, compact_accepts, normalize_accepts, evaluate_accepts, prepare_accepts, lower_accepts, draw_accepts, emit_accepts}
use Rattle.demands.specs.Normalising.{Done, count_of, places_of, rounds_of, answer_done, answer_many}
use Rattle.demands.specs.Evaluating.{Values, evaluate_same}

-- 49 at place 0, 0 behind it, whatever the answer's width
pub forty_nine : (width : ℕ) → Calls.unknown_words width ≡ 49 ∷ 0 ∷ replicate (width - 2) 0
forty_nine width = refl

module _ (number : ℕ) (none : numbered number ≡ None) where
  pub step_unknown : (list : List ℕ) (n t a b : ℕ) → (Calls.step_answer number list n t a b ≡ Calls.unknown_words answer_width) × (Calls.step_list number list n t a b ≡ list)
  unfolding Calls.step_list Calls.step_answer
  step_unknown list n t a b = (by_unknown number _ _ none, by_unknown number _ _ none)

  module _ (list : List ℕ) (n : ℕ) (roots result : List ℕ) where
    pub build_unknown : (map : List ℕ)
        → (Calls.build_answer number list n roots result map ≡ Calls.unknown_words list_width)
        × (Calls.build_result number list n roots result map ≡ result)
        × (Calls.build_map number list n roots result map ≡ map)
    unfolding Calls.build_result Calls.build_map Calls.build_answer
    build_unknown map = (by_unknown number _ _ none, by_unknown number _ _ none, by_unknown number _ _ none)

    pub compact_unknown : (Calls.compact_answer number list n roots result ≡ Calls.unknown_words list_width) × (Calls.compact_result number list n roots result ≡ result)
    unfolding Calls.compact_result Calls.compact_answer
    compact_unknown = (by_unknown number _ _ none, by_unknown number _ _ none)

    pub normalize_unknown : (work : List ℕ)
        → (Calls.normalize_answer number list n roots result work ≡ Calls.unknown_words list_width)
        × (Calls.normalize_result number list n roots result work ≡ result)
        × (Calls.normalize_work number list n roots result work ≡ work)
    unfolding Calls.normalize_result Calls.normalize_work Calls.normalize_answer
    normalize_unknown work = (by_unknown number _ _ none, by_unknown number _ _ none, by_unknown number _ _ none)

  pub evaluate_unknown : (list : List ℕ) (n : ℕ) (roots assignment : List ℕ) (m : ℕ) → Calls.evaluate_answer number list n roots assignment m ≡ Calls.unknown_words evaluate_width
  unfolding Calls.evaluate_answer
  evaluate_unknown list n roots assignment m = by_unknown number _ _ none

  pub prepare_unknown : (lengths entries : List ℕ) → Calls.prepare_answer number lengths entries ≡ Calls.unknown_words prepare_width
  unfolding Calls.prepare_answer
  prepare_unknown lengths entries = by_unknown number _ _ none

  pub lower_unknown : (list : List ℕ) (n : ℕ) (lengths entries : List ℕ) (period : ℕ) (result work places : List ℕ)
      → (Calls.lower_answer number list n lengths entries period result work places ≡ Calls.unknown_words answer_width)
      × (Calls.lower_result number list n lengths entries period result work places ≡ result)
      × (Calls.lower_work number list n lengths entries period result work places ≡ work)
      × (Calls.lower_places number list n lengths entries period result work places ≡ places)
  unfolding Calls.lower_result Calls.lower_work Calls.lower_places Calls.lower_answer
  lower_unknown list n lengths entries period result work places = (by_unknown number _ _ none, by_unknown number _ _ none, by_unknown number _ _ none, by_unknown number _ _ none)

  pub draw_unknown : (list : List ℕ) (n : ℕ) (roots text : List ℕ) → (Calls.draw_answer number list n roots text ≡ Calls.unknown_words answer_width) × (Calls.draw_text number list n roots text ≡ text)
  unfolding Calls.draw_answer Calls.draw_text
  draw_unknown list n roots text = (by_unknown number _ _ none, by_unknown number _ _ none)

  pub emit_unknown : (list : List ℕ) (n : ℕ) (roots layout : List ℕ) (k : ℕ) (result : List ℕ)
      → (Calls.emit_answer number list n roots layout k result ≡ Calls.unknown_words answer_width) × (Calls.emit_result number list n roots layout k result ≡ result)
  unfolding Calls.emit_answer Calls.emit_result
  emit_unknown list n roots layout k result = (by_unknown number _ _ none, by_unknown number _ _ none)

-- For a number that names a field each call is that field's, so that what is shown of every field holds of it.
module _ (number : ℕ) (prime : Prime) (known : numbered number ≡ Some prime) where
  pub step_known : (list : List ℕ) (n t a b : ℕ)
      → (Calls.step_answer number list n t a b ≡ step_words (Builder.step_answer (field_of prime) (interleaved list) n t a b))
      × (Calls.step_list number list n t a b ≡ Builder.step_store (field_of prime) list n t a b)
  unfolding Calls.step_answer Calls.step_list
  step_known list n t a b = (by_known number _ _ known, by_known number _ _ known)

  module _ (list : List ℕ) (n : ℕ) (roots result : List ℕ) where
    pub build_known : (map : List ℕ)
        → (Calls.build_answer number list n roots result map ≡ list_words (Builder.build_answer (field_of prime) (interleaved list) n roots (interleaved result).room (length map)))
        × (Calls.build_result number list n roots result map ≡ Builder.build_result (field_of prime) (interleaved list) n roots result (length map))
        × (Calls.build_map number list n roots result map ≡ Builder.build_map (field_of prime) (interleaved list) n roots (interleaved result).room map)
    unfolding Calls.build_answer Calls.build_result Calls.build_map
    build_known map = (by_known number _ _ known, by_known number _ _ known, by_known number _ _ known)

    pub compact_known :
        (Calls.compact_answer number list n roots result ≡ list_words (Compaction.compact_answer (field_of prime) (interleaved list) n roots (interleaved result).room))
        × (Calls.compact_result number list n roots result ≡ Compaction.compact_result (field_of prime) (interleaved list) n roots result)
    unfolding Calls.compact_answer Calls.compact_result
    compact_known = (by_known number _ _ known, by_known number _ _ known)

    pub normalize_known : (work : List ℕ)
        → (Calls.normalize_answer number list n roots result work
        ≡ normalize_words (normalize_answer (field_of prime) (interleaved list) n roots (interleaved result).room (interleaved work).room))
        × (Calls.normalize_result number list n roots result work ≡ normalize_result (field_of prime) (interleaved list) n roots result (interleaved work).room)
        × (Calls.normalize_work number list n roots result work ≡ normalize_work (field_of prime) (interleaved list) n roots (interleaved result).room work)
    unfolding Calls.normalize_answer Calls.normalize_result Calls.normalize_work
    normalize_known work = (by_known number _ _ known, by_known number _ _ known, by_known number _ _ known)

  pub evaluate_known : (list : List ℕ) (n : ℕ) (roots assignment : List ℕ) (m : ℕ)
      → Calls.evaluate_answer number list n roots assignment m ≡ evaluate_words (evaluate_answer (field_of prime) (interleaved list) n roots assignment m)
  unfolding Calls.evaluate_answer
  evaluate_known list n roots assignment m = by_known number _ _ known

  pub prepare_known : (lengths entries : List ℕ) → Calls.prepare_answer number lengths entries ≡ prepare_words (prepare (modulus (field_of prime)) lengths entries)
  unfolding Calls.prepare_answer
  prepare_known lengths entries = by_known number _ _ known

  module _ (list : List ℕ) (n : ℕ) (lengths entries : List ℕ) (period : ℕ) (result work places : List ℕ) where
    pub lower_known :
        (Calls.lower_answer number list n lengths entries period result work places
        ≡ number_words (Lowering.lower_answer (field_of prime) (interleaved list) n lengths entries period result work places))
        × (Calls.lower_result number list n lengths entries period result work places
        ≡ Lowering.lower_result (field_of prime) (interleaved list) n lengths entries period result work places)
        × (Calls.lower_work number list n lengths entries period result work places
        ≡ Lowering.lower_work (field_of prime) (interleaved list) n lengths entries period result work places)
        × (Calls.lower_places number list n lengths entries period result work places
        ≡ Lowering.lower_places (field_of prime) (interleaved list) n lengths entries period result work places)
    unfolding Calls.lower_answer Calls.lower_result Calls.lower_work Calls.lower_places
    lower_known = (by_known number _ _ known, by_known number _ _ known, by_known number _ _ known, by_known number _ _ known)

  pub draw_known : (list : List ℕ) (n : ℕ) (roots text : List ℕ)
      → (Calls.draw_answer number list n roots text ≡ number_words (Drawing.draw_answer (field_of prime) (interleaved list) n roots (length text)))
      × (Calls.draw_text number list n roots text ≡ Drawing.draw_text (field_of prime) (interleaved list) n roots text)
  unfolding Calls.draw_answer Calls.draw_text
  draw_known list n roots text = (by_known number _ _ known, by_known number _ _ known)

  pub emit_known : (list : List ℕ) (n : ℕ) (roots layout : List ℕ) (k : ℕ) (result : List ℕ)
      → (Calls.emit_answer number list n roots layout k result ≡ encoded_words (Encoding.emit_answer (field_of prime) (interleaved list) n roots layout k (length result)))
      × (Calls.emit_result number list n roots layout k result ≡ Encoding.emit_result (field_of prime) (interleaved list) n roots layout k result)
  unfolding Calls.emit_answer Calls.emit_result
  emit_known list n roots layout k result = (by_known number _ _ known, by_known number _ _ known)

-- the number names a field, and there the tests pass
abbrev pub Accepted : ℕ → (Prime → Checked) → Type 0
Accepted number check = (prime : Prime) × (numbered number ≡ Some prime) × (check prime ≡ Ok tt)

-- an answer's first word is 0 exactly there
module _ (number : ℕ) (unknown : List ℕ) (refuses : outcome unknown ≡ 49) (words : Prime → List ℕ) (check : Prime → Checked)
    (accepts : (prime : Prime) → (outcome (words prime) ≡ 0) ↔ (check prime ≡ Ok tt)) where
  heard : (k : Option Prime) → numbered number ≡ k → outcome (named k unknown words) ≡ 0 → Accepted number check
  heard (Some prime) e z = (prime, e, (accepts prime).0 z)
  heard None e z = absurd (omega (arith, sym refuses ∙ z))

  pub accepted_in : (outcome (in_field number unknown words) ≡ 0) ↔ Accepted number check
  accepted_in = (
    λ z. heard (numbered number) refl z,
    λ a. ap outcome (by_known number unknown words a.1) ∙ (accepts a.0).1 a.2,
  )

module _ (number : ℕ) (list : List ℕ) (n : ℕ) where
  pub step_number : (t a b : ℕ) → (outcome (Calls.step_answer number list n t a b) ≡ 0) ↔ Accepted number (λ prime. step_whole_check (field_of prime) (interleaved list) n t a b)
  unfolding Calls.step_answer
  step_number t a b = accepted_in number (Calls.unknown_words answer_width) refl _ _ (λ prime. step_accepts (field_of prime) (interleaved list) n t a b)

  module _ (roots result : List ℕ) where
    pub build_number : (map : List ℕ)
        → (outcome (Calls.build_answer number list n roots result map) ≡ 0) ↔ Accepted number (λ prime. build_check (field_of prime) (interleaved list) n roots (interleaved result).room (length map))
    unfolding Calls.build_answer
    build_number map = accepted_in number (Calls.unknown_words list_width) refl _ _ (λ prime. build_accepts (field_of prime) (interleaved list) n roots (interleaved result).room (length map))

    pub compact_number : (outcome (Calls.compact_answer number list n roots result) ≡ 0) ↔ Accepted number (λ prime. compact_check (field_of prime) (interleaved list) n roots (interleaved result).room)
    unfolding Calls.compact_answer
    compact_number = accepted_in number (Calls.unknown_words list_width) refl _ _ (λ prime. compact_accepts (field_of prime) (interleaved list) n roots (interleaved result).room)

    pub normalize_number : (work : List ℕ)
        → (outcome (Calls.normalize_answer number list n roots result work) ≡ 0)
        ↔ Accepted number (λ prime. normalize_check (field_of prime) (interleaved list) n roots (interleaved result).room (interleaved work).room)
    unfolding Calls.normalize_answer
    normalize_number work =
        accepted_in number (Calls.unknown_words list_width) refl _ _ (λ prime. normalize_accepts (field_of prime) (interleaved list) n roots (interleaved result).room (interleaved work).room)

  pub evaluate_number : (roots assignment : List ℕ) (m : ℕ)
      → (outcome (Calls.evaluate_answer number list n roots assignment m) ≡ 0) ↔ Accepted number (λ prime. evaluate_check (field_of prime) (interleaved list) n roots assignment m)
  unfolding Calls.evaluate_answer
  evaluate_number roots assignment m = accepted_in number (Calls.unknown_words evaluate_width) refl _ _ (λ prime. evaluate_accepts (field_of prime) (interleaved list) n roots assignment m)

  pub lower_number : (lengths entries : List ℕ) (period : ℕ) (result work places : List ℕ)
      → (outcome (Calls.lower_answer number list n lengths entries period result work places) ≡ 0)
      ↔ Accepted number (λ prime. whole_check (field_of prime) (interleaved list) n lengths entries period result work places)
  unfolding Calls.lower_answer
  lower_number lengths entries period result work places =
      accepted_in number (Calls.unknown_words answer_width) refl _ _ (λ prime. lower_accepts (field_of prime) (interleaved list) n lengths entries period result work places)

  pub draw_number : (roots text : List ℕ) → (outcome (Calls.draw_answer number list n roots text) ≡ 0) ↔ Accepted number (λ prime. Drawing.draw_check (field_of prime) (interleaved list) n roots (length text))
  unfolding Calls.draw_answer
  draw_number roots text = accepted_in number (Calls.unknown_words answer_width) refl _ _ (λ prime. draw_accepts (field_of prime) (interleaved list) n roots (length text))

  pub emit_number : (roots layout : List ℕ) (k : ℕ) (result : List ℕ)
      → (outcome (Calls.emit_answer number list n roots layout k result) ≡ 0) ↔ Accepted number (λ prime. Encoding.emit_check (field_of prime) (interleaved list) n roots layout k (length result))
  unfolding Calls.emit_answer
  emit_number roots layout k result = accepted_in number (Calls.unknown_words answer_width) refl _ _ (λ prime. emit_accepts (field_of prime) (interleaved list) n roots layout k (length result))

pub prepare_number : (number : ℕ) (lengths entries : List ℕ)
    → (outcome (Calls.prepare_answer number lengths entries) ≡ 0) ↔ Accepted number (λ prime. prepare_check (modulus (field_of prime)) lengths entries)
unfolding Calls.prepare_answer
prepare_number number lengths entries = accepted_in number (Calls.unknown_words prepare_width) refl _ _ (λ prime. prepare_accepts (field_of prime) lengths entries)

-- Normalise's answer where it accepts: 0, the count, the rounds kept, the roots' places, 0 behind them
pub words_done : (count : ℕ) (places : List ℕ) (rounds : ℕ) → normalize_words (Done count places rounds) ≡ 0 ∷ count ∷ rounds ∷ padded 0 most_roots places
unfolding roots_of roots_from
words_done count places rounds = refl

-- the first places of an array are those that it was filled with
front_is : (places heard rest : List ℕ) → length heard ≡ length places → padded 0 most_roots places ≡ heard ++ rest → heard ≡ places
unfolding padded
front_is places heard rest e q =
    sym (take-append_seam heard rest) ∙ (ap₂ take e (sym q) ∙ take-append_seam places (replicate (most_roots - length places) 0))

-- In one field: where Normalise and Evaluate both accept a list, Evaluate says the same of the list that came back, from as many of the places as there were roots.
module _ (field : Field) (list : List ℕ) (n : ℕ) (roots result : List ℕ) (work_room : ℕ) (assignment : List ℕ) (m : ℕ) where
  evaluate_values : evaluate_check field (interleaved list) n roots assignment m ≡ Ok tt
      → evaluate_answer field (interleaved list) n roots assignment m ≡ Values (Lists.map (value field.elements (given assignment m) (nodes (interleaved list) n)) roots)
  unfolding evaluate_answer
  evaluate_values e = rw e

  abbrev back : List ℕ
  back = normalize_result field (interleaved list) n roots result work_room

  evaluates_back : (count rounds : ℕ) (places rest values : List ℕ) → length places ≡ length roots
      → normalize_words (normalize_answer field (interleaved list) n roots (interleaved result).room work_room) ≡ 0 ∷ count ∷ rounds ∷ (places ++ rest)
      → evaluate_words (evaluate_answer field (interleaved list) n roots assignment m) ≡ 0 ∷ values
      → evaluate_words (evaluate_answer field (interleaved back) count places assignment m) ≡ 0 ∷ values
  evaluates_back count rounds places rest values many e f =
      let good = (normalize_accepts field (interleaved list) n roots (interleaved result).room work_room).0 (ap outcome e) in
      let done = answer_done field (interleaved list) n roots result work_room good in
      let count' = count_of field (interleaved list) n roots in
      let places' = places_of field (interleaved list) n roots in
      let heard : 0 ∷ count' ∷ rounds_of field (interleaved list) n roots ∷ padded 0 most_roots places' ≡ 0 ∷ count ∷ rounds ∷ (places ++ rest) =
      sym (words_done _ _ _) ∙ (ap normalize_words (sym done) ∙ e) in
      let as_many = many ∙ sym (answer_many field (interleaved list) n roots result work_room good) in
      let same-places : places ≡ places' = front_is places' places rest as_many (ap (drop 3) heard) in
      let worth = evaluate_values ((evaluate_accepts field (interleaved list) n roots assignment m).0 (ap outcome f)) in
      let same = evaluate_same field (interleaved list) n roots result work_room good (interleaved back) alike_self assignment m _ worth in
      let here : evaluate_answer field (interleaved back) count places assignment m ≡ evaluate_answer field (interleaved list) n roots assignment m =
      ap₂ (λ (k : ℕ) (rs : List ℕ). evaluate_answer field (interleaved back) k rs assignment m) (sym (ap (λ ws. get_or ws 1 0) heard)) same-places ∙ (same ∙ sym worth) in
      ap evaluate_words here ∙ f
    where
      alike_self : Alike (interleaved back) (interleaved back) (count_of field (interleaved list) n roots)
      alike_self = record { rooms = refl; words = record { tags = λ i h. refl; firsts = λ i h. refl; seconds = λ i h. refl } }

-- The same by field number.
pub normalize_evaluates : (number : ℕ) (list : List ℕ) (n : ℕ) (roots result work assignment : List ℕ) (m count rounds : ℕ) (places rest values : List ℕ) → length places ≡ length roots
    → Calls.normalize_answer number list n roots result work ≡ 0 ∷ count ∷ rounds ∷ (places ++ rest)
    → Calls.evaluate_answer number list n roots assignment m ≡ 0 ∷ values
    → Calls.evaluate_answer number (Calls.normalize_result number list n roots result work) count places assignment m ≡ 0 ∷ values
unfolding Calls.normalize_answer Calls.normalize_result Calls.evaluate_answer
normalize_evaluates number list n roots result work assignment m count rounds places rest values many e f =
    let a = (normalize_number number list n roots result work).0 (ap outcome e) in
    go a.0 a.1
  where
    go : (prime : Prime) → numbered number ≡ Some prime
        → Calls.evaluate_answer number (Calls.normalize_result number list n roots result work) count places assignment m ≡ 0 ∷ values
    go prime h =
        rw h
        (evaluates_back (field_of prime) list n roots result (interleaved work).room assignment m count rounds places rest values many (rw h at e) (rw h at f))
