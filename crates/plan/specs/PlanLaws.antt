-- The places of a round's plan for a record come before the record.
use Rattle.std.specs.Prelude.{ℕ, ◌<◌, List, ◌≡◌}
use Rattle.std.proofs.Common.{sym, ◌∙◌, ap, subst, inl, inr}
use native.Mathlib.Omega.{arith}
use Rattle.field.specs.declared.QuadFelt.{QuadFelt}
use Rattle.dag.specs.Nodes.{at, tag, first, second, decode}
use Rattle.dag.specs.NodeLaws.{decode_words}
use Rattle.dag.specs.WellFormed.{Fine, WellFormed}
use Rattle.dag.specs.declared.NodeKind.{NodeKind}
use Rattle.dag.specs.declared.NodeKind.TheVariants.{Input, Constant, Add, Sub, Mul, Neg}
use Rattle.plan.specs.Plan.{common_factor, either_rotation, plan_of}
use Rattle.plan.specs.SearchLaws.{Splits, Rotates, or_else_lem, factor_elim, rotation_elim}
use Rattle.plan.specs.Promises.{PlanFine}

-- the record of an operation's tag, by its words
pub tag_add : (z : NodeKind) → tag z ≡ tag (Add 0 0) → z ≡ Add (first z) (second z)
unfolding decode
tag_add z e = sym (decode_words z) ∙ ap (λ (t : ℕ). decode t (first z) (second z)) e

pub tag_mul : (z : NodeKind) → tag z ≡ tag (Mul 0 0) → z ≡ Mul (first z) (second z)
unfolding decode
tag_mul z e = sym (decode_words z) ∙ ap (λ (t : ℕ). decode t (first z) (second z)) e

-- an operation's records, by tag, with operands before their place
abbrev BinaryFine : (QuadFelt → Type 0) → (ℕ → ℕ → NodeKind) → Type 0
BinaryFine Low op = (n : ℕ) (z : NodeKind) → tag z ≡ tag (op 0 0) → Fine Low n z → (first z < n) × (second z < n)

add_binary : (Low : QuadFelt → Type 0) → BinaryFine Low Add
unfolding Fine
add_binary Low n z e f = subst (Fine Low n) (tag_add z e) f

mul_binary : (Low : QuadFelt → Type 0) → BinaryFine Low Mul
unfolding Fine
mul_binary Low n z e f = subst (Fine Low n) (tag_mul z e) f

split_below : (n : ℕ) (z : NodeKind) (x y : ℕ) → Splits z x y → (first z < n) × (second z < n) → (x < n) × (y < n)
split_below n z x y (inl s) h = omega arith
split_below n z x y (inr s) h = omega arith

module _ (Low : QuadFelt → Type 0) (l : List NodeKind) (w : WellFormed Low l) (fan : ℕ → ℕ) (i a b : ℕ) (p : a < i) (q : b < i) where
  factor_fine : PlanFine i (common_factor l fan a b)
  unfolding WellFormed
  factor_fine =
      factor_elim (PlanFine i) l fan a b tt
      (λ f x y s.
      let u = split_below a (at l a) f x s.left_splits (mul_binary Low a (at l a) s.left_mul (w a)) in
      let v = split_below b (at l b) f y s.right_splits (mul_binary Low b (at l b) s.right_mul (w b)) in
      omega arith)

  rotates_fine : (op : ℕ → ℕ → NodeKind) → BinaryFine Low op → (inner other : ℕ) → inner < i → (e y : ℕ) → Rotates op l i inner other e y → (e < i) × (y < i)
  unfolding WellFormed
  rotates_fine op bin inner other h e y r =
      let u = split_below inner (at l inner) r.x y r.splits (bin inner (at l inner) r.same_kind (w inner)) in
      let k = r.earlier in
      omega arith

  rotation_fine : (op : ℕ → ℕ → NodeKind) → BinaryFine Low op → PlanFine i (either_rotation op l fan i a b)
  rotation_fine op bin = rotation_elim (PlanFine i) tt op l i fan a b (rotates_fine op bin a b p) (rotates_fine op bin b a q)

pub plan_fine : (Low : QuadFelt → Type 0) (l : List NodeKind) → WellFormed Low l → (fan : ℕ → ℕ) (i : ℕ) (x : NodeKind) → Fine Low i x → PlanFine i (plan_of l fan i x)
unfolding plan_of Fine
plan_fine Low l w fan i (Input k) f = tt
plan_fine Low l w fan i (Constant c) f = tt
plan_fine Low l w fan i (Add a b) f =
    or_else_lem (PlanFine i) (common_factor l fan a b) (either_rotation Add l fan i a b)
    (factor_fine Low l w fan i a b f.0 f.1) (rotation_fine Low l w fan i a b f.0 f.1 Add (add_binary Low))
plan_fine Low l w fan i (Sub a b) f = factor_fine Low l w fan i a b f.0 f.1
plan_fine Low l w fan i (Mul a b) f = rotation_fine Low l w fan i a b f.0 f.1 Mul (mul_binary Low)
plan_fine Low l w fan i (Neg a) f = tt
