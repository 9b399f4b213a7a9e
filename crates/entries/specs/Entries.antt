-- Entries of keys: `width` words each, a key number and then, from width 3, coordinates; of a key's entries the last counts.
use Rattle.std.specs.Prelude.{ℕ, ◌+◌, ◌*◌, ◌<◌, ◌≤◌, Bool, true, ◌&&◌, ◌||◌, List, Option, is_some, leb, ltb, eqb, get_or, length}
use Rattle.field.specs.Fields.{Bounds}
use Rattle.field.specs.Field.{new}
use Rattle.field.specs.declared.QuadFelt.{QuadFelt}
use Rattle.dag.specs.Check.{lowest}
use Rattle.dag.specs.Keys.{is_key}
use Rattle.dag.specs.Lookup.{greatest}
use Rattle.dag.specs.Nodes.{at}
use Rattle.dag.specs.Refusals.{Checked, need, ◌then◌, first_refused}
use Rattle.dag.specs.declared.NodeKind.{NodeKind}
use Rattle.dag.specs.declared.NodeKind.TheVariants.{Input, Constant, Add, Sub, Mul, Neg}
use Rattle.dag.specs.declared.Refusal.TheVariants.{StoreTooShort, Malformed, TooManyEntries, Unassigned}

-- the most entries
abbrev pub most_entries : ℕ
most_entries = 4096

-- n entries of `width` words, in a store
pub record Lent (width : ℕ) (e : List ℕ) (n : ℕ) : Type 0 where
  pub wide : 0 < width
  pub room : width * n ≤ length e

-- the key number of entry i
abbrev pub key_at : ℕ → List ℕ → ℕ → ℕ
key_at width e i = get_or e (width * i) 0

-- the element of entry i
abbrev pub element_at : ℕ → List ℕ → ℕ → QuadFelt
element_at width e i = new (get_or e (width * i + 1) 0) (get_or e (width * i + 2) 0)

-- the coordinates of entry i are in lowest form, where it holds them
abbrev pub lowest_at : Bounds → ℕ → List ℕ → ℕ → Bool
lowest_at m width e i = ltb width 3 || lowest m (get_or e (width * i + 1) 0) (get_or e (width * i + 2) 0)

-- 4: a number no key has, or coordinates not in lowest form
unfoldable pub entry_check : Bounds → ℕ → List ℕ → ℕ → Checked
entry_check m width e i = need (is_key (key_at width e i) && lowest_at m width e i) (Malformed i)

-- the tests of n entries: 11, 2, then the first bad entry
unfoldable pub entries_check : Bounds → ℕ → List ℕ → ℕ → Checked
entries_check m width e n =
    need (leb n most_entries) TooManyEntries
    then need (leb (width * n) (length e)) StoreTooShort
    then first_refused (entry_check m width e) n

-- the last entry of a key among the first n
unfoldable pub entry_of : ℕ → List ℕ → ℕ → ℕ → Option ℕ
entry_of width e n key = greatest (λ i. eqb (key_at width e i) key) n

-- an input's key has an entry; other records need none
abbrev pub has_entry : (ℕ → Option ℕ) → NodeKind → Bool
has_entry find (Input k) = is_some (find k)
has_entry find (Constant c) = true
has_entry find (Add a b) = true
has_entry find (Sub a b) = true
has_entry find (Mul a b) = true
has_entry find (Neg a) = true

-- 12: the first input among the first n records, reachable or not, whose key has no entry
unfoldable pub inputs_check : (ℕ → Option ℕ) → List NodeKind → ℕ → Checked
inputs_check find l = first_refused (λ i. need (has_entry find (at l i)) (Unassigned i))
