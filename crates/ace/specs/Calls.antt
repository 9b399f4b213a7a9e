-- What each exported call answers and leaves in its stores, by its field number: 1 for p with u² = 7, 2 for q. Any other number
-- is 49 at place 0 before every other test, and then nothing is written.
use Rattle.std.specs.Prelude.{ℕ, List, length}
use Rattle.field.specs.Field.{modulus_of}
use Rattle.field.specs.Fields.{field_of}
use Rattle.field.specs.Numbers.{in_field}
use Rattle.dag.specs.View.{interleaved}
use Rattle.dag.specs.declared.Refusal.TheVariants as Refusal'
use Rattle.builder.specs.Calls as Builder
use Rattle.compact.specs.Calls as Compaction
use Rattle.normalize.specs.Calls as Normalising
use Rattle.evaluate.specs.Calls as Evaluation
use Rattle.columns.specs.Prepare as Prepare
use Rattle.lower.specs.Lower as Lowering
use Rattle.draw.specs.Calls as Drawing
use Rattle.encode.specs.Calls as Encoding
use Rattle.ace.specs.Answers.{answer_width, list_width, evaluate_width, prepare_width, refused_words, step_words, list_words, normalize_words, evaluate_words, prepare_words, number_words, encoded_words}

-- the answer of a call of unknown field, in so many words
abbrev pub unknown_words : ℕ → List ℕ
unknown_words width = refused_words width Refusal'.FieldNumber

-- Step: the answer's words, and the list store
unfoldable pub step_answer : ℕ → List ℕ → ℕ → ℕ → ℕ → ℕ → List ℕ
step_answer number list n t a b = in_field number (unknown_words answer_width) (λ prime. step_words (Builder.step_answer (field_of prime) (interleaved list) n t a b))

unfoldable pub step_list : ℕ → List ℕ → ℕ → ℕ → ℕ → ℕ → List ℕ
step_list number list n t a b = in_field number list (λ prime. Builder.step_store (field_of prime) list n t a b)

-- Build
unfoldable pub build_answer : ℕ → List ℕ → ℕ → List ℕ → List ℕ → List ℕ → List ℕ
build_answer number list n roots result map =
    in_field number (unknown_words list_width) (λ prime. list_words (Builder.build_answer (field_of prime) (interleaved list) n roots (interleaved result).room (length map)))

unfoldable pub build_result : ℕ → List ℕ → ℕ → List ℕ → List ℕ → List ℕ → List ℕ
build_result number list n roots result map = in_field number result (λ prime. Builder.build_result (field_of prime) (interleaved list) n roots result (length map))

unfoldable pub build_map : ℕ → List ℕ → ℕ → List ℕ → List ℕ → List ℕ → List ℕ
build_map number list n roots result map = in_field number map (λ prime. Builder.build_map (field_of prime) (interleaved list) n roots (interleaved result).room map)

-- Compact
unfoldable pub compact_answer : ℕ → List ℕ → ℕ → List ℕ → List ℕ → List ℕ
compact_answer number list n roots result =
    in_field number (unknown_words list_width) (λ prime. list_words (Compaction.compact_answer (field_of prime) (interleaved list) n roots (interleaved result).room))

unfoldable pub compact_result : ℕ → List ℕ → ℕ → List ℕ → List ℕ → List ℕ
compact_result number list n roots result = in_field number result (λ prime. Compaction.compact_result (field_of prime) (interleaved list) n roots result)

-- Normalise
unfoldable pub normalize_answer : ℕ → List ℕ → ℕ → List ℕ → List ℕ → List ℕ → List ℕ
normalize_answer number list n roots result work =
    in_field number (unknown_words list_width)
    (λ prime. normalize_words (Normalising.normalize_answer (field_of prime) (interleaved list) n roots (interleaved result).room (interleaved work).room))

unfoldable pub normalize_result : ℕ → List ℕ → ℕ → List ℕ → List ℕ → List ℕ → List ℕ
normalize_result number list n roots result work =
    in_field number result (λ prime. Normalising.normalize_result (field_of prime) (interleaved list) n roots result (interleaved work).room)

unfoldable pub normalize_work : ℕ → List ℕ → ℕ → List ℕ → List ℕ → List ℕ → List ℕ
normalize_work number list n roots result work =
    in_field number work (λ prime. Normalising.normalize_work (field_of prime) (interleaved list) n roots (interleaved result).room work)

-- Evaluate
unfoldable pub evaluate_answer : ℕ → List ℕ → ℕ → List ℕ → List ℕ → ℕ → List ℕ
evaluate_answer number list n roots assignment m =
    in_field number (unknown_words evaluate_width) (λ prime. evaluate_words (Evaluation.evaluate_answer (field_of prime) (interleaved list) n roots assignment m))

-- Prepare
unfoldable pub prepare_answer : ℕ → List ℕ → List ℕ → List ℕ
prepare_answer number lengths entries = in_field number (unknown_words prepare_width) (λ prime. prepare_words (Prepare.prepare (modulus_of prime) lengths entries))

-- Lower
module _ (number : ℕ) (list : List ℕ) (n : ℕ) (lengths entries : List ℕ) (period : ℕ) (result work places : List ℕ) where
  unfoldable pub lower_answer : List ℕ
  lower_answer =
      in_field number (unknown_words answer_width) (λ prime. number_words (Lowering.lower_answer (field_of prime) (interleaved list) n lengths entries period result work places))

  unfoldable pub lower_result : List ℕ
  lower_result = in_field number result (λ prime. Lowering.lower_result (field_of prime) (interleaved list) n lengths entries period result work places)

  unfoldable pub lower_work : List ℕ
  lower_work = in_field number work (λ prime. Lowering.lower_work (field_of prime) (interleaved list) n lengths entries period result work places)

  unfoldable pub lower_places : List ℕ
  lower_places = in_field number places (λ prime. Lowering.lower_places (field_of prime) (interleaved list) n lengths entries period result work places)

-- Draw: the answer's words, and the text store
unfoldable pub draw_answer : ℕ → List ℕ → ℕ → List ℕ → List ℕ → List ℕ
draw_answer number list n roots text =
    in_field number (unknown_words answer_width) (λ prime. number_words (Drawing.draw_answer (field_of prime) (interleaved list) n roots (length text)))

unfoldable pub draw_text : ℕ → List ℕ → ℕ → List ℕ → List ℕ → List ℕ
draw_text number list n roots text = in_field number text (λ prime. Drawing.draw_text (field_of prime) (interleaved list) n roots text)

-- Emit
module _ (number : ℕ) (list : List ℕ) (n : ℕ) (roots layout : List ℕ) (k : ℕ) (result : List ℕ) where
  unfoldable pub emit_answer : List ℕ
  emit_answer =
      in_field number (unknown_words answer_width) (λ prime. encoded_words (Encoding.emit_answer (field_of prime) (interleaved list) n roots layout k (length result)))

  unfoldable pub emit_result : List ℕ
  emit_result = in_field number result (λ prime. Encoding.emit_result (field_of prime) (interleaved list) n roots layout k result)
