-- A round's plan for a record is worth what the record is; fanout has no say in it.
use Rattle.std.specs.Prelude.{ℕ, ◌<◌, ◌≤◌, List, Option, Some, None, ◌≡◌, length}
use Rattle.std.proofs.Math.Path.{refl}
use Rattle.std.proofs.Common.{sym, ◌∙◌, ap, inl, inr, arith}
use Rattle.ring.specs.Ring.{Ops, Laws}
use Rattle.ring.specs.Identities.{right_comm, factor_add, factor_sub}
use Rattle.field.specs.declared.QuadFelt.{QuadFelt}
use Rattle.dag.specs.Nodes.{at, tag, first, second, like}
use Rattle.dag.specs.WellFormed.{Fine, WellFormed}
use Rattle.dag.specs.declared.NodeKind.{NodeKind}
use Rattle.dag.specs.declared.NodeKind.TheVariants.{Input, Constant, Add, Sub, Mul, Neg}
use Rattle.meaning.specs.Values.{value_of, value}
use Rattle.meaning.specs.ValueLaws.{value_at}
use Rattle.builder.specs.Steps.{low_first}
use Rattle.builder.specs.RuleLaws.{low_first_lem}
use Rattle.plan.specs.Plan.{common_factor, either_rotation, plan_of}
use Rattle.plan.specs.SearchLaws.{Splits, Rotates, or_else_lem, factor_elim, rotation_elim}
use Rattle.plan.specs.PlanLaws.{tag_add, tag_mul}
use Rattle.plan.specs.declared.Rewrite.{Rewrite}
use Rattle.plan.specs.declared.Rewrite.TheVariants.{Factored, Rotated}

-- what a plan for z is worth
abbrev pub plan_value : (F : Ops QuadFelt) (given v : ℕ → QuadFelt) → NodeKind → Option Rewrite → QuadFelt
plan_value F given v z (Some (Factored f x y)) = F.mul (v f) (value_of F given v (like z x y))
plan_value F given v z (Some (Rotated e y)) = value_of F given v (like z e y)
plan_value F given v z None = value_of F given v z

-- a commutative operation on either order of operands
split_worth : (g : QuadFelt → QuadFelt → QuadFelt) → ((a b : QuadFelt) → g a b ≡ g b a) → (v : ℕ → QuadFelt) (z : NodeKind) (x y : ℕ) → Splits z x y
    → g (v (first z)) (v (second z)) ≡ g (v x) (v y)
split_worth g comm v z x y (inl s) = rw (s.0, s.1)
split_worth g comm v z x y (inr s) = rw (s.0, s.1) (comm _ _)

module _ (F : Ops QuadFelt) (L : Laws F) (given : ℕ → QuadFelt) (l : List NodeKind) (w : WellFormed L.Low l) where
  module _ (op : ℕ → ℕ → NodeKind) (g : QuadFelt → QuadFelt → QuadFelt)
      (worth : (v : ℕ → QuadFelt) (a b : ℕ) → value_of F given v (op a b) ≡ g (v a) (v b))
      (is : (z : NodeKind) → tag z ≡ tag (op 0 0) → z ≡ op (first z) (second z))
      (comm : (a b : QuadFelt) → g a b ≡ g b a) (assoc : (a b c : QuadFelt) → g (g a b) c ≡ g a (g b c)) where
    -- the value of a place that holds the operation
    holds : (a : ℕ) → a < length l → (x y : ℕ) → tag (at l a) ≡ tag (op 0 0) → Splits (at l a) x y → value F given l a ≡ g (value F given l x) (value F given l y)
    holds a p x y k s =
        value_at F given L.Low l w a p
        ∙ ap (value_of F given (value F given l)) (is (at l a) k)
        ∙ worth (value F given l) (first (at l a)) (second (at l a))
        ∙ split_worth g comm (value F given l) (at l a) x y s

    rotates_worth : (i inner other e y : ℕ) → inner < length l → Rotates op l i inner other e y
        → g (value F given l e) (value F given l y) ≡ g (value F given l inner) (value F given l other)
    rotates_worth i inner other e y p r =
        rw (value_at F given L.Low l w e r.inside, r.there, holds inner p r.x y r.same_kind r.splits)
        (ap (λ (z : QuadFelt). g z (value F given l y)) found ∙ right_comm g comm assoc _ _ _)
      where
        found : value_of F given (value F given l) (low_first op r.x other) ≡ g (value F given l r.x) (value F given l other)
        found =
            low_first_lem (λ z. value_of F given (value F given l) z ≡ g (value F given l r.x) (value F given l other)) op r.x other
            (worth _ _ _) (worth _ _ _ ∙ comm _ _)

    rotation_worth : (fan : ℕ → ℕ) (i a b : ℕ) → a < length l → b < length l → ((e y : ℕ) → like (op a b) e y ≡ op e y)
        → plan_value F given (value F given l) (op a b) (either_rotation op l fan i a b) ≡ value_of F given (value F given l) (op a b)
    rotation_worth fan i a b p q k =
        rotation_elim (λ r. plan_value F given (value F given l) (op a b) r ≡ value_of F given (value F given l) (op a b)) refl op l i fan a b
        (λ e y r. rw (k e y, worth (value F given l) e y, worth (value F given l) a b) (rotates_worth i a b e y p r))
        (λ e y r. rw (k e y, worth (value F given l) e y, worth (value F given l) a b) (rotates_worth i b a e y q r ∙ comm _ _))

  -- the values of places that hold muls with a shared factor
  mul_holds : (a : ℕ) → a < length l → (x y : ℕ) → tag (at l a) ≡ tag (Mul 0 0) → Splits (at l a) x y → value F given l a ≡ F.mul (value F given l x) (value F given l y)
  unfolding value_of
  mul_holds = holds Mul F.mul (λ v a b. refl) tag_mul L.mul_comm L.mul_assoc

  module _ (fan : ℕ → ℕ) (a b : ℕ) (p : a < length l) (q : b < length l) where
    factor_add_worth : plan_value F given (value F given l) (Add a b) (common_factor l fan a b) ≡ F.add (value F given l a) (value F given l b)
    unfolding value_of
    factor_add_worth =
        factor_elim (λ r. plan_value F given (value F given l) (Add a b) r ≡ F.add (value F given l a) (value F given l b)) l fan a b refl
        (λ f x y s. rw (mul_holds a p f x s.left_mul s.left_splits, mul_holds b q f y s.right_mul s.right_splits) (sym (factor_add L _ _ _)))

    factor_sub_worth : plan_value F given (value F given l) (Sub a b) (common_factor l fan a b) ≡ F.sub (value F given l a) (value F given l b)
    unfolding value_of
    factor_sub_worth =
        factor_elim (λ r. plan_value F given (value F given l) (Sub a b) r ≡ F.sub (value F given l a) (value F given l b)) l fan a b refl
        (λ f x y s. rw (mul_holds a p f x s.left_mul s.left_splits, mul_holds b q f y s.right_mul s.right_splits) (sym (factor_sub L _ _ _)))

  pub plan_worth : (fan : ℕ → ℕ) (i : ℕ) → i ≤ length l → (z : NodeKind) → Fine L.Low i z
      → plan_value F given (value F given l) z (plan_of l fan i z) ≡ value_of F given (value F given l) z
  unfolding plan_of Fine value_of
  plan_worth fan i h (Input k) f = refl
  plan_worth fan i h (Constant c) f = refl
  plan_worth fan i h (Add a b) f =
      or_else_lem (λ r. plan_value F given (value F given l) (Add a b) r ≡ F.add (value F given l a) (value F given l b)) (common_factor l fan a b) (either_rotation Add l fan i a b)
      (factor_add_worth fan a b (omega arith) (omega arith))
      (rotation_worth Add F.add (λ v a b. refl) tag_add L.add_comm L.add_assoc fan i a b (omega arith) (omega arith) (λ e y. refl))
  plan_worth fan i h (Sub a b) f = factor_sub_worth fan a b (omega arith) (omega arith)
  plan_worth fan i h (Mul a b) f =
      rotation_worth Mul F.mul (λ v a b. refl) tag_mul L.mul_comm L.mul_assoc fan i a b (omega arith) (omega arith) (λ e y. refl)
  plan_worth fan i h (Neg a) f = refl
