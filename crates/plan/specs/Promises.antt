-- What the functions of a plan ask of their stores, and say of them.
use Rattle.std.specs.Prelude.{ℕ, ◌+◌, ◌*◌, ◌<◌, ◌≤◌, cond, List, [], ◌∷◌, Option, Some, None, ◌≡◌, eqb, get_or, length, set}
use Rattle.dag.specs.View.{View}
use Rattle.dag.specs.Roots.{most_roots, Inside}
use Rattle.dag.specs.Store.{Records}
use Rattle.dag.specs.Nodes.{most_records, at, tag, first, second}
use Rattle.dag.specs.declared.NodeKind.{NodeKind}
use Rattle.dag.specs.declared.Roots.{Roots}
use Rattle.plan.specs.Plan.{is_single, shared_factor}
use Rattle.plan.specs.declared.Rewrite.{Rewrite}
use Rattle.plan.specs.declared.Rewrite.TheVariants.{Factored, Rotated}

-- a place is mentioned at most twice by each record, and by each root
abbrev pub most_mentions : ℕ
most_mentions = 2 * most_records + most_roots

-- each count has room for k mentions more
abbrev pub Countable : ℕ → List ℕ → Type 0
Countable k f = (j : ℕ) → get_or f j 0 + k ≤ most_mentions

-- each mention adds one at its place
unfoldable pub mentioned : List ℕ → List ℕ → List ℕ
mentioned f [] = f
mentioned f (i ∷ is) = mentioned (set f i (get_or f i 0 + 1)) is

-- n records, roots among them, and a count of 0 for each
pub record Counting (s : View) (n : ℕ) (roots : Roots) (f : List ℕ) : Type 0 where
  pub sound : Records s n
  pub inside : Inside n roots
  pub few : n ≤ most_records
  pub fits : n ≤ length f
  pub zeros : (j : ℕ) → get_or f j 0 ≡ 0

-- the factor that two arrays of operands share
abbrev pub shared_in : List ℕ → List ℕ → Option Rewrite
shared_in a b = shared_factor (get_or a 0 0) (get_or a 1 0) (get_or b 0 0) (get_or b 1 0)

-- a record's operands, if it is the operation's
abbrev pub operands_if : (ℕ → ℕ → NodeKind) → NodeKind → Option (List ℕ)
operands_if op x = cond (eqb (tag x) (tag (op 0 0))) (Some (first x ∷ second x ∷ [])) None

-- those of the record at place i, if its fanout is 1 besides
abbrev pub single_at : (ℕ → ℕ → NodeKind) → List NodeKind → (ℕ → ℕ) → ℕ → Option (List ℕ)
single_at op l fan i = cond (is_single op l fan i) (Some (first (at l i) ∷ second (at l i) ∷ [])) None

-- the places of a plan come before the record
abbrev pub PlanFine : ℕ → Option Rewrite → Type 0
PlanFine i (Some (Factored f x y)) = (f < i) × (x < i) × (y < i)
PlanFine i (Some (Rotated e y)) = (e < i) × (y < i)
PlanFine i None = Unit {0}
