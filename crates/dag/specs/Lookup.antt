-- The search for the greatest place where a test holds, and the lookup of an equal record by it.
use Rattle.std.specs.Prelude.{ℕ, zero, suc, Bool, cond, List, Some, None, Option}
use Rattle.dag.specs.Nodes.{at, same_node}
use Rattle.dag.specs.declared.NodeKind.{NodeKind}

-- the greatest place below n where a test holds
unfoldable pub greatest : (ℕ → Bool) → ℕ → Option ℕ
greatest test zero = None
greatest test (suc n) = cond (test n) (Some n) (greatest test n)

-- the greatest place below n whose record equals x
abbrev pub lookup : List NodeKind → NodeKind → ℕ → Option ℕ
lookup l x = greatest (λ i. same_node (at l i) x)
