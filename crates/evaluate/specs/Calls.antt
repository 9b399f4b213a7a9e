-- Evaluate (`eval_dag`): each root's value under an assignment, on all inputs.
use Rattle.std.specs.Prelude.{ℕ, List, map, Option, Some, None, Result, Ok, Err}
use Rattle.field.specs.Fields.{Field}
use Rattle.field.specs.Field.{new}
use Rattle.field.specs.declared.QuadFelt.{QuadFelt}
use Rattle.dag.specs.View.{View}
use Rattle.dag.specs.Nodes.{nodes}
use Rattle.dag.specs.Refusals.{Checked, ◌then◌, unless_refused}
use Rattle.dag.specs.Check.{list_check}
use Rattle.dag.specs.declared.Refusal.{Refusal}
use Rattle.meaning.specs.Values.{value}
use Rattle.evaluate.specs.declared.RootValues.{RootValues}
use Rattle.entries.specs.Entries.{element_at, entries_check, entry_of, inputs_check}

-- the words of an assignment's entry: key number, c0, c1
abbrev pub entry_words : ℕ
entry_words = 3

-- the element of an entry, 0 for none
unfoldable pub element_of : List ℕ → Option ℕ → QuadFelt
element_of a (Some i) = element_at entry_words a i
element_of a None = new 0 0

-- the element that an assignment of m entries gives a key
unfoldable pub given : List ℕ → ℕ → ℕ → QuadFelt
given a m key = element_of a (entry_of entry_words a m key)

-- these values
unfoldable pub values_from : List QuadFelt → RootValues
values_from vs = record { values = record { items = vs } }

module _ (field : Field) where
  -- Evaluate's tests: the list check, the entries, then the inputs
  unfoldable pub evaluate_check : View → ℕ → List ℕ → List ℕ → ℕ → Checked
  evaluate_check s n roots a m =
      list_check field.bounds s n roots
      then entries_check field.bounds entry_words a m
      then inputs_check (entry_of entry_words a m) (nodes s n) n

  -- each root's value
  unfoldable pub evaluate_answer : View → ℕ → List ℕ → List ℕ → ℕ → Result RootValues Refusal
  evaluate_answer s n roots a m =
      unless_refused (evaluate_check s n roots a m) Err (Ok (values_from (map (value field.elements (given a m) (nodes s n)) roots)))
