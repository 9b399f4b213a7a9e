-- Which records a list's roots reach (`AceDag::compact`), over a list of roots.
use Rattle.std.specs.Prelude.{ℕ, zero, suc, Bool, true, false, cond, List, [], ◌∷◌, get_or, length, replicate, set}
use Rattle.dag.specs.Nodes.{at, operands}
use Rattle.dag.specs.declared.NodeKind.{NodeKind}

infix 20 ◌∈◌
-- x stands in the list
pub data ◌∈◌ (x : ℕ) : List ℕ → Type 0 where
  here : {l : List ℕ} → x ∈ (x ∷ l)
  there : {y : ℕ} {l : List ℕ} → x ∈ l → x ∈ (y ∷ l)

-- reachable: the roots, and the operands of what is reachable
pub data Reach (l : List NodeKind) (roots : List ℕ) : ℕ → Type 0 where
  root : {i : ℕ} → i ∈ roots → Reach l roots i
  operand : {i j : ℕ} → Reach l roots i → j ∈ operands (at l i) → Reach l roots j

-- marks with those of some places set
unfoldable pub marked : List Bool → List ℕ → List Bool
marked m [] = m
marked m (i ∷ is) = marked (set m i true) is

-- the sweep downward: from place n to place 0, the operands of each marked record are marked
unfoldable pub sweep : List NodeKind → ℕ → List Bool → List Bool
sweep l zero m = m
sweep l (suc n) m = sweep l n (cond (get_or m n false) (marked m (operands (at l n))) m)

-- the marks of what the roots reach
unfoldable pub marks : List NodeKind → List ℕ → List Bool
marks l roots = sweep l (length l) (marked (replicate (length l) false) roots)
