-- Accepted is 0: an answer's first word is 0 exactly where the call's tests pass.
use Rattle.std.specs.Prelude.{ℕ, ◌↔◌, ◌≡◌, get_or, Ok, Err}
use mathlib.Core.List.{List}
use Rattle.std.proofs.Math.Path.{refl}
use Rattle.field.specs.Fields.{Field, modulus}
use Rattle.dag.specs.View.{View}
use Rattle.dag.specs.Refusals.{unless_refused, Checked}
use Rattle.dag.specs.RefusalLaws.{zero_accepts}
use Rattle.builder.specs.Calls.{step_whole_check, step_answer, build_check, build_answer}
use Rattle.compact.specs.Calls.{compact_check, compact_answer}
use Rattle.normalize.specs.Calls.{normalize_check, normalize_answer}
use Rattle.evaluate.specs.Calls.{evaluate_check, evaluate_answer}
use Rattle.columns.specs.Prepare.{columns, prepare_check, answer, prepare}
use Rattle.lower.specs.Lower.{whole_check, lower_answer}
use Rattle.draw.specs.Calls.{draw_check, draw_answer}
use Rattle.encode.specs.Calls.{emit_check, emit_answer}
use Rattle.ace.specs.Answers.{step_words, list_words, normalize_words, evaluate_words, prepare_words, number_words, encoded_words}

-- an answer's first word
abbrev pub outcome : List ℕ → ℕ
outcome ws = get_or ws 0 0

module _ (field : Field) where
  module _ (s : View) (n : ℕ) where
    pub step_accepts : (t a b : ℕ) → (outcome (step_words (step_answer field s n t a b)) ≡ 0) ↔ (step_whole_check field s n t a b ≡ Ok tt)
    unfolding step_answer
    step_accepts t a b = zero_accepts (λ w. outcome (step_words w)) Err _ (λ r. refl) refl (step_whole_check field s n t a b)

    module _ (roots : List ℕ) (result_room : ℕ) where
      pub build_accepts : (map_words : ℕ) → (outcome (list_words (build_answer field s n roots result_room map_words)) ≡ 0) ↔ (build_check field s n roots result_room map_words ≡ Ok tt)
      unfolding build_answer
      build_accepts map_words = zero_accepts (λ w. outcome (list_words w)) Err _ (λ r. refl) refl (build_check field s n roots result_room map_words)

      pub compact_accepts : (outcome (list_words (compact_answer field s n roots result_room)) ≡ 0) ↔ (compact_check field s n roots result_room ≡ Ok tt)
      unfolding compact_answer
      compact_accepts = zero_accepts (λ w. outcome (list_words w)) Err _ (λ r. refl) refl (compact_check field s n roots result_room)

      pub normalize_accepts : (work_room : ℕ) → (outcome (normalize_words (normalize_answer field s n roots result_room work_room)) ≡ 0) ↔ (normalize_check field s n roots result_room work_room ≡ Ok tt)
      unfolding normalize_answer
      normalize_accepts work_room =
          zero_accepts (λ w. outcome (normalize_words w)) Err _ (λ r. refl) refl (normalize_check field s n roots result_room work_room)

    pub evaluate_accepts : (roots a : List ℕ) (m : ℕ) → (outcome (evaluate_words (evaluate_answer field s n roots a m)) ≡ 0) ↔ (evaluate_check field s n roots a m ≡ Ok tt)
    unfolding evaluate_answer
    evaluate_accepts roots a m = zero_accepts (λ w. outcome (evaluate_words w)) Err _ (λ r. refl) refl (evaluate_check field s n roots a m)

    pub draw_accepts : (roots : List ℕ) (text_room : ℕ) → (outcome (number_words (draw_answer field s n roots text_room)) ≡ 0) ↔ (draw_check field s n roots text_room ≡ Ok tt)
    unfolding draw_answer
    draw_accepts roots text_room = zero_accepts (λ w. outcome (number_words w)) Err _ (λ r. refl) refl (draw_check field s n roots text_room)

    pub emit_accepts : (roots layout : List ℕ) (k result_words : ℕ)
        → (outcome (encoded_words (emit_answer field s n roots layout k result_words)) ≡ 0) ↔ (emit_check field s n roots layout k result_words ≡ Ok tt)
    unfolding emit_answer
    emit_accepts roots layout k result_words = zero_accepts (λ w. outcome (encoded_words w)) Err _ (λ r. refl) refl (emit_check field s n roots layout k result_words)

    pub lower_accepts : (ls es : List ℕ) (period : ℕ) (result work places : List ℕ)
        → (outcome (number_words (lower_answer field s n ls es period result work places)) ≡ 0) ↔ (whole_check field s n ls es period result work places ≡ Ok tt)
    unfolding lower_answer
    lower_accepts ls es period result work places =
        zero_accepts (λ w. outcome (number_words w)) Err _ (λ r. refl) refl (whole_check field s n ls es period result work places)

  module _ (cs : List (List ℕ)) where
    by_tests : (c : Checked) → answer (modulus field) cs c ≡ unless_refused c (λ r. answer (modulus field) cs (Err r)) (answer (modulus field) cs (Ok tt))
    by_tests (Ok u) = refl
    by_tests (Err r) = refl

    prepared_accepts : (c : Checked) → (outcome (prepare_words (answer (modulus field) cs c)) ≡ 0) ↔ (c ≡ Ok tt)
    unfolding answer
    prepared_accepts c =
        rw (by_tests c)
        (zero_accepts (λ w. outcome (prepare_words w)) (λ r. answer (modulus field) cs (Err r)) (answer (modulus field) cs (Ok tt)) (λ r. refl) refl c)

  pub prepare_accepts : (ls es : List ℕ) → (outcome (prepare_words (prepare (modulus field) ls es)) ≡ 0) ↔ (prepare_check (modulus field) ls es ≡ Ok tt)
  unfolding prepare
  prepare_accepts ls es = prepared_accepts (columns ls es) (prepare_check (modulus field) ls es)
