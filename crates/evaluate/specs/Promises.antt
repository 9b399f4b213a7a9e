-- What the functions of evaluation ask of their stores.
use Rattle.std.specs.Prelude.{ℕ, ◌≤◌, ◌<◌, Bool, true, false, List, Option, Some, None, Ok, ◌≡◌, get_or, length}
use Rattle.dag.specs.View.{View}
use Rattle.field.specs.Fields.{Field, Low}
use Rattle.field.specs.Field.{new}
use Rattle.field.specs.declared.QuadFelt.{QuadFelt}
use Rattle.dag.specs.Nodes.{nodes}
use Rattle.dag.specs.declared.NodeKind.{NodeKind}
use Rattle.meaning.specs.Values.{value, value_of}
use Rattle.entries.specs.Entries.{entries_check, entry_of, has_entry}
use Rattle.evaluate.specs.Calls.{entry_words, given}

-- an element where there is an entry
abbrev pub assigned : Bool → QuadFelt → Option QuadFelt
assigned true v = Some v
assigned false v = None

-- the value at a place
abbrev pub at_place : List QuadFelt → ℕ → QuadFelt
at_place values i = get_or values i (new 0 0)

module _ (field : Field) where
  -- the value of a record on the values v of earlier places; none for an input whose key has no entry
  unfoldable pub record_answer : List ℕ → ℕ → (ℕ → QuadFelt) → NodeKind → Option QuadFelt
  record_answer a m v x = assigned (has_entry (entry_of entry_words a m) x) (value_of field.elements (given a m) v x)

  -- the values before place i are stored, in lowest form
  pub record Valued (i : ℕ) (values : List QuadFelt) : Type 0 where
    pub fits : i ≤ length values
    pub low : (j : ℕ) → j < i → Low field (at_place values j)

  -- m entries pass their tests
  abbrev pub Passed : List ℕ → ℕ → Type 0
  Passed a m = entries_check field.bounds entry_words a m ≡ Ok tt

  -- the values of the first i records are stored
  abbrev pub Filled : View → ℕ → List ℕ → ℕ → List QuadFelt → ℕ → Type 0
  Filled s n a m values i = (j : ℕ) → j < i → at_place values j ≡ value field.elements (given a m) (nodes s n) j
