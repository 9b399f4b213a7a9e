-- Normalise: the answer, and every word of the result and work stores, on all inputs.
use Rattle.std.specs.Prelude.{ℕ, ◌*◌, Result, Ok, Err, List, length, replicate}
use Rattle.field.specs.Fields.{Field}
use Rattle.dag.specs.View.{View, interleaved}
use Rattle.dag.specs.Nodes.{blank, nodes}
use Rattle.dag.specs.Store.{stored}
use Rattle.dag.specs.Refusals.{Checked, ◌then◌, unless_refused}
use Rattle.dag.specs.Roots.{roots_from}
use Rattle.dag.specs.Check.{room_check, list_check}
use Rattle.dag.specs.declared.Refusal.{Refusal}
use Rattle.normalize.specs.Rounds.{normalize, Normal}
use Rattle.normalize.specs.declared.NormalEnd.{NormalEnd}

-- the tests of the result and work stores
abbrev pub normalize_stores : ℕ → ℕ → ℕ → Checked
normalize_stores n result_room work_room = room_check n result_room then room_check (2 * n) work_room

-- count, roots and rounds kept
abbrev pub answer_of : Normal → NormalEnd
answer_of a = record { dag = record { count = length a.list; roots = roots_from a.roots }; rounds = a.rounds }

module _ (field : Field) where
  -- the tests: the list check, then the result and work stores
  unfoldable pub normalize_check : View → ℕ → List ℕ → ℕ → ℕ → Checked
  normalize_check s n roots result_room work_room = list_check field.bounds s n roots then normalize_stores n result_room work_room

  -- the rounds on the list that a store holds, with its roots
  unfoldable pub normalized : View → ℕ → List ℕ → Normal
  normalized s n roots = normalize field.elements (nodes s n) roots

  -- count, roots and rounds kept
  unfoldable pub normalize_answer : View → ℕ → List ℕ → ℕ → ℕ → Result NormalEnd Refusal
  normalize_answer s n roots result_room work_room =
      unless_refused (normalize_check s n roots result_room work_room) Err (Ok (answer_of (normalized s n roots)))

  -- the list answered, blanks behind it
  unfoldable pub normalize_result : View → ℕ → List ℕ → List ℕ → ℕ → List ℕ
  normalize_result s n roots result work_room =
      unless_refused (normalize_check s n roots (interleaved result).room work_room) (λ r. result) (stored result (normalized s n roots).list)

  -- blank throughout
  unfoldable pub normalize_work : View → ℕ → List ℕ → ℕ → List ℕ → List ℕ
  normalize_work s n roots result_room work =
      unless_refused (normalize_check s n roots result_room (interleaved work).room) (λ r. work) (replicate (length work) blank)
