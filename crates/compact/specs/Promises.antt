-- What the functions of compaction ask of their stores.
use Rattle.std.specs.Prelude.{ℕ, ◌≤◌, ◌<◌, Bool, false, List, ◌++◌, ◌≡◌, get_or, length, drop, replicate}
use Rattle.dag.specs.View.{View, interleaved}
use Rattle.dag.specs.Nodes.{nodes}
use Rattle.dag.specs.Roots.{roots_of, Inside}
use Rattle.dag.specs.Store.{Records}
use Rattle.dag.specs.declared.Roots.{Roots}
use Rattle.dag.specs.declared.Dag.{Dag}
use Rattle.compact.specs.Calls.{compacted}
use Rattle.compact.specs.Compact.{rank, ranks, Rooted}
use Rattle.compact.specs.Reach.{marked, sweep, ◌∈◌}

-- a mark for each record of a round's list
abbrev pub most_marks : ℕ
most_marks = 8192

-- a list, compacted to what the roots reach
abbrev pub reached : Dag → Roots → Rooted
reached dag roots = compacted (interleaved dag.list.now) dag.n (roots_of roots)

-- no record is marked yet
abbrev pub Unmarked : List Bool → Type 0
Unmarked m = m ≡ replicate most_marks false

-- n records that decode, roots among them, and k marks for them
pub record Markable (s : View) (n : ℕ) (roots : Roots) (k : ℕ) : Type 0 where
  pub sound : Records s n
  pub inside : Inside n roots
  pub fits : n ≤ k

-- the first n new places that the marks m give stand in a map
pub record Remaps (map : List ℕ) (m : List Bool) (n : ℕ) : Type 0 where
  pub fits : n ≤ length map
  pub places : (i : ℕ) → i < n → get_or map i 0 ≡ rank m i

-- n records that decode, marks and new places for each, and room for those marked in a store of k records
pub record Writing (s : View) (n : ℕ) (m : List Bool) (map : List ℕ) (k : ℕ) : Type 0 where
  pub sound : Records s n
  pub marks : n ≤ length m
  pub remaps : Remaps map m n
  pub room : rank m n ≤ k

-- the marks of what the roots reach among n records, and its new places
pub record Numbered (s : View) (n : ℕ) (roots : Roots) (m : List Bool) (map : List ℕ) : Type 0 where
  pub markable : Markable s n roots most_marks
  pub marks_are : m ≡ sweep (nodes s n) n (marked (replicate most_marks false) (roots_of roots))
  pub marks_fit : n ≤ length m
  pub behind : List ℕ
  pub places_are : map ≡ ranks m n ++ drop n behind
  pub places_fit : n ≤ length map

-- all places of a list are below n
abbrev pub AllBelow : ℕ → List ℕ → Type 0
AllBelow n is = (i : ℕ) → i ∈ is → i < n
