-- The calls with one root in one field, as they were before a list could carry several: the answers' four words, and the stores.
use Rattle.std.specs.Prelude.{ℕ, List, [], ◌∷◌, ltb, get_or, length, replicate}
use Rattle.field.specs.Fields.{Field}
use Rattle.dag.specs.View.{View, interleaved}
use Rattle.dag.specs.Nodes.{blank, nodes, filled}
use Rattle.dag.specs.Store.{stored}
use Rattle.dag.specs.Refusals.{number, place, need, ◌then◌, unless_refused, Checked}
use Rattle.dag.specs.Check.{rootless_check}
use Rattle.dag.specs.declared.Refusal.{Refusal}
use Rattle.dag.specs.declared.Refusal.TheVariants.{RootOutside}
use Rattle.meaning.specs.Values.{value}
use Rattle.builder.specs.Steps.{place_of, replay}
use Rattle.builder.specs.Calls as Builder
use Rattle.compact.specs.Compact.{compact}
use Rattle.compact.specs.Calls as Compaction
use Rattle.entries.specs.Entries.{entries_check, entry_of, inputs_check}
use Rattle.evaluate.specs.Calls.{entry_words, given}
use Rattle.normalize.specs.Rounds.{normalize}
use Rattle.normalize.specs.Calls as Normalising

-- a refusal in four words
abbrev pub four_words : Refusal → List ℕ
four_words r = number r ∷ place r ∷ 0 ∷ 0 ∷ []

module _ (field : Field) (s : View) (n root : ℕ) where
  -- the list check: last the root, 6
  unfoldable pub list_check : Checked
  list_check = rootless_check field.bounds 1 s n then need (ltb root n) RootOutside

  -- Build: count and the root's place
  module _ (result_room map_words : ℕ) where
    unfoldable pub build_check : Checked
    build_check = list_check then Builder.build_stores n result_room map_words

    unfoldable pub build_answer : List ℕ
    build_answer =
        let r = replay field.elements (nodes s n) n in
        unless_refused build_check four_words (0 ∷ length r.list ∷ place_of r root ∷ 0 ∷ [])

  unfoldable pub build_result : List ℕ → ℕ → List ℕ
  build_result result map_words = unless_refused (build_check (interleaved result).room map_words) (λ r. result) (stored result (replay field.elements (nodes s n) n).list)

  unfoldable pub build_map : ℕ → List ℕ → List ℕ
  build_map result_room map = unless_refused (build_check result_room (length map)) (λ r. map) (filled (length map) (replay field.elements (nodes s n) n).map)

  -- Compact: count and root
  unfoldable pub compact_check : ℕ → Checked
  compact_check result_room = list_check then Compaction.compact_stores n result_room

  unfoldable pub compact_answer : ℕ → List ℕ
  compact_answer result_room =
      let k = compact (nodes s n) (root ∷ []) in
      unless_refused (compact_check result_room) four_words (0 ∷ length k.list ∷ get_or k.roots 0 0 ∷ 0 ∷ [])

  unfoldable pub compact_result : List ℕ → List ℕ
  compact_result result = unless_refused (compact_check (interleaved result).room) (λ r. result) (stored result (compact (nodes s n) (root ∷ [])).list)

  -- Normalise: count, root and rounds kept
  module _ (result_room work_room : ℕ) where
    unfoldable pub normalize_check : Checked
    normalize_check = list_check then Normalising.normalize_stores n result_room work_room

    unfoldable pub normalize_answer : List ℕ
    normalize_answer =
        let a = normalize field.elements (nodes s n) (root ∷ []) in
        unless_refused normalize_check four_words (0 ∷ length a.list ∷ get_or a.roots 0 0 ∷ a.rounds ∷ [])

  unfoldable pub normalize_result : List ℕ → ℕ → List ℕ
  normalize_result result work_room =
      unless_refused (normalize_check (interleaved result).room work_room) (λ r. result) (stored result (normalize field.elements (nodes s n) (root ∷ [])).list)

  unfoldable pub normalize_work : ℕ → List ℕ → List ℕ
  normalize_work result_room work = unless_refused (normalize_check result_room (interleaved work).room) (λ r. work) (replicate (length work) blank)

  -- Evaluate: c0 and c1
  module _ (a : List ℕ) (m : ℕ) where
    unfoldable pub evaluate_check : Checked
    evaluate_check = list_check then entries_check field.bounds entry_words a m then inputs_check (entry_of entry_words a m) (nodes s n) n

    unfoldable pub evaluate_answer : List ℕ
    evaluate_answer =
        let v = value field.elements (given a m) (nodes s n) root in
        unless_refused evaluate_check four_words (0 ∷ v.c0 ∷ v.c1 ∷ 0 ∷ [])
