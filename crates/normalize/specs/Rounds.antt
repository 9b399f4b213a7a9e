-- Normalising (`normalize_dag` of normalize.rs) on decoded lists, over any ring and a list of roots.
use Rattle.std.specs.Prelude.{ℕ, zero, suc, Bool, true, false, ◌&&◌, ◌||◌, Option, Some, None, List, [], map, ltb, length}
use Rattle.ring.specs.Ring.{Ops}
use Rattle.field.specs.declared.QuadFelt.{QuadFelt}
use Rattle.dag.specs.Nodes.{at, rename, like}
use Rattle.dag.specs.declared.NodeKind.{NodeKind}
use Rattle.dag.specs.declared.NodeKind.TheVariants.{Mul}
use Rattle.builder.specs.Steps.{step, Built, Replay, place_of, recorded}
use Rattle.compact.specs.Compact.{compact, Rooted}
use Rattle.plan.specs.Plan.{fanout, fires, plan_of}
use Rattle.plan.specs.declared.Rewrite.{Rewrite}
use Rattle.plan.specs.declared.Rewrite.TheVariants.{Factored, Rotated}

module _ (F : Ops QuadFelt) where
  -- the record x entered into a round's list by its plan: a factored sum or difference is built inside first
  unfoldable pub planned : Replay → NodeKind → Option Rewrite → Built
  planned r x (Some (Factored f a b)) =
      let inner = step F r.list (like x (place_of r a) (place_of r b)) in
      step F inner.list (Mul (place_of r f) inner.place)
  planned r x (Some (Rotated e rest)) = step F r.list (like x (place_of r e) (place_of r rest))
  planned r x None = step F r.list (rename (place_of r) x)

  -- the first n records of l replayed into an empty list
  unfoldable pub round : List NodeKind → (ℕ → ℕ) → ℕ → Replay
  round l fan zero = record { list = []; map = [] }
  round l fan (suc n) =
      let r = round l fan n in
      recorded r (planned r (at l n) (plan_of l fan n (at l n)))

-- a rewrite fires on one of the first n records
unfoldable pub fired : List NodeKind → (ℕ → ℕ) → ℕ → Bool
fired l fan zero = false
fired l fan (suc n) = fired l fan n || fires (plan_of l fan n (at l n))

-- a list after some rounds, with its roots, and how many were kept
pub record Normal : Type 0 where
  pub list : List NodeKind
  pub roots : List ℕ
  pub rounds : ℕ

module _ (F : Ops QuadFelt) where
  -- what a round leaves: its list compacted
  unfoldable pub rounded : List NodeKind → List ℕ → Rooted
  rounded l roots =
      let r = round F l (fanout l roots) (length l) in
      compact r.list (map (place_of r) roots)

  -- a round is kept if a rewrite fired and the compacted list is strictly shorter
  unfoldable pub is_kept : List NodeKind → List ℕ → Bool
  is_kept l roots = fired l (fanout l roots) (length l) && ltb (length (rounded l roots).list) (length l)

  -- rounds repeat until one isn't kept, at most `fuel` times; k were kept before
  unfoldable pub rounds_from : ℕ → List NodeKind → List ℕ → ℕ → Normal
  rounds_from zero l roots k = record { list = l; roots = roots; rounds = k }
  rounds_from (suc fuel) l roots k =
      elim (is_kept l roots) [
        | true ↦ rounds_from fuel (rounded l roots).list (rounded l roots).roots (suc k)
        | false ↦ record { list = l; roots = roots; rounds = k }
      ]

  -- each round kept is shorter, so a list's length bounds its rounds
  unfoldable pub normalize : List NodeKind → List ℕ → Normal
  normalize l roots = rounds_from (length l) l roots 0
