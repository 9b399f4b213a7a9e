-- Compaction: the marked records in order, duplicates included, with their operands' new places.
use Rattle.std.specs.Prelude.{ℕ, zero, suc, ◌+◌, Bool, false, cond, List, [], ◌∷◌, ◌++◌, map, get_or, length}
use Rattle.dag.specs.Nodes.{at, rename}
use Rattle.dag.specs.declared.NodeKind.{NodeKind}
use Rattle.compact.specs.Reach.{marks}

-- a place's new place: the number of marks before it
unfoldable pub rank : List Bool → ℕ → ℕ
rank m zero = 0
rank m (suc i) = rank m i + cond (get_or m i false) 1 0

-- the new places of the first n places
unfoldable pub ranks : List Bool → ℕ → List ℕ
ranks m zero = []
ranks m (suc n) = ranks m n ++ (rank m n ∷ [])

-- the marked ones of the first n records, renamed
unfoldable pub kept : List NodeKind → List Bool → ℕ → List NodeKind
kept l m zero = []
kept l m (suc n) = cond (get_or m n false) (kept l m n ++ (rename (rank m) (at l n) ∷ [])) (kept l m n)

-- a list with its roots
pub record Rooted : Type 0 where
  pub list : List NodeKind
  pub roots : List ℕ

unfoldable pub compact : List NodeKind → List ℕ → Rooted
compact l roots =
    let m = marks l roots in
    record { list = kept l m (length l); roots = map (rank m) roots }
