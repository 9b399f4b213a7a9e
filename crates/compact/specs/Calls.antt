-- Compact: the answer, and every word of the result store, on all inputs.
use Rattle.std.specs.Prelude.{ℕ, List, Result, Ok, Err, length}
use Rattle.field.specs.Fields.{Field}
use Rattle.dag.specs.View.{View, interleaved}
use Rattle.dag.specs.Nodes.{nodes}
use Rattle.dag.specs.Store.{stored}
use Rattle.dag.specs.Refusals.{Checked, ◌then◌, unless_refused}
use Rattle.dag.specs.Roots.{roots_from}
use Rattle.dag.specs.Check.{room_check, list_check}
use Rattle.dag.specs.declared.Refusal.{Refusal}
use Rattle.compact.specs.Compact.{compact, Rooted}
use Rattle.dag.specs.declared.RootedDag.{RootedDag}

-- the list that a store holds, compacted to what its roots reach
unfoldable pub compacted : View → ℕ → List ℕ → Rooted
compacted s n roots = compact (nodes s n) roots

-- the count of its records, and its roots' places
unfoldable pub kept_of : Rooted → RootedDag
kept_of r = record { count = length r.list; roots = roots_from r.roots }

-- the test of the result store
abbrev pub compact_stores : ℕ → ℕ → Checked
compact_stores n result_room = room_check n result_room

module _ (field : Field) where
  -- Compact's tests: the list check, then the result store
  unfoldable pub compact_check : View → ℕ → List ℕ → ℕ → Checked
  compact_check s n roots result_room = list_check field.bounds s n roots then compact_stores n result_room

  -- count and roots
  unfoldable pub compact_answer : View → ℕ → List ℕ → ℕ → Result RootedDag Refusal
  compact_answer s n roots result_room =
      unless_refused (compact_check s n roots result_room) Err (Ok (kept_of (compacted s n roots)))

  -- the compacted list, blanks behind it
  unfoldable pub compact_result : View → ℕ → List ℕ → List ℕ → List ℕ
  compact_result s n roots result =
      unless_refused (compact_check s n roots (interleaved result).room) (λ r. result) (stored result (compacted s n roots).list)
