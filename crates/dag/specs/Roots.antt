-- A list's roots, in their order.
use Rattle.std.specs.Prelude.{ℕ, ◌<◌, ◌≤◌, List, get_or, length}
use Rattle.dag.specs.declared.Roots.{Roots}

-- the most roots that a list has
abbrev pub most_roots : ℕ
most_roots = 8

-- the places that are roots
unfoldable pub roots_of : Roots → List ℕ
roots_of r = r

-- these roots
unfoldable pub roots_from : List ℕ → Roots
roots_from is = is

-- the roots of a list of n records: one to eight of its places
pub record Inside (n : ℕ) (r : Roots) : Type 0 where
  pub some : 0 < length (roots_of r)
  pub few : length (roots_of r) ≤ most_roots
  pub below : (j : ℕ) → j < length (roots_of r) → get_or (roots_of r) j 0 < n
