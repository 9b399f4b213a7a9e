-- What a round's searches answer: a shared factor, or a record to rotate onto.
use Rattle.std.specs.Prelude.{ℕ, ◌<◌, true, ◌&&◌, List, Option, Some, None, ◌≡◌, refl, ◌⊎◌, eqb, ltb, length}
use Rattle.std.proofs.Common.{inl, inr, eqb-true, ltb-true}
use Rattle.dag.specs.Nodes.{at, tag, first, second}
use Rattle.dag.specs.Lookup.{lookup}
use Rattle.dag.specs.LookupLaws.{Says, lookup_says}
use Rattle.dag.specs.CaseLaws.{cond_elim, and_true}
use Rattle.dag.specs.declared.NodeKind.{NodeKind}
use Rattle.dag.specs.declared.NodeKind.TheVariants.{Mul}
use Rattle.builder.specs.Steps.{low_first}
use Rattle.plan.specs.Plan.{or_else, is_single, shared_factor, common_factor, onto_before, existing_rotation, either_rotation}
use Rattle.plan.specs.declared.Rewrite.{Rewrite}
use Rattle.plan.specs.declared.Rewrite.TheVariants.{Factored, Rotated}

-- x and y are the operands of z, in one order or the other
abbrev pub Splits : NodeKind → ℕ → ℕ → Type 0
Splits z x y = ((x ≡ first z) × (y ≡ second z)) ⊎ ((x ≡ second z) × (y ≡ first z))

-- places a and b hold muls of f, with x and with y
pub record Shares (l : List NodeKind) (a b f x y : ℕ) : Type 0 where
  pub left_mul : tag (at l a) ≡ tag (Mul 0 0)
  pub right_mul : tag (at l b) ≡ tag (Mul 0 0)
  pub left_splits : Splits (at l a) f x
  pub right_splits : Splits (at l b) f y

-- a record e before place i in place of the inner one and one of its operands, where y remains
pub record Rotates (op : ℕ → ℕ → NodeKind) (l : List NodeKind) (i inner other e y : ℕ) : Type 0 where
  pub same_kind : tag (at l inner) ≡ tag (op 0 0)
  pub earlier : e < i
  pub inside : e < length l
  pub x : ℕ
  pub splits : Splits (at l inner) x y
  pub there : at l e ≡ low_first op x other

pub or_else_lem : (P : Option Rewrite → Type 0) (r s : Option Rewrite) → P r → P s → P (or_else r s)
unfolding or_else
or_else_lem P (Some r) s p q = p
or_else_lem P None s p q = q

single_tag : (op : ℕ → ℕ → NodeKind) (l : List NodeKind) (fan : ℕ → ℕ) (a : ℕ) → is_single op l fan a ≡ true → tag (at l a) ≡ tag (op 0 0)
single_tag op l fan a t = eqb-true (tag (at l a)) (tag (op 0 0)) (and_true (eqb (fan a) 1) (eqb (tag (at l a)) (tag (op 0 0))) t).1

-- what a plain record has, and every record with a shared factor, a common factor has
pub factor_elim : (P : Option Rewrite → Type 0) (l : List NodeKind) (fan : ℕ → ℕ) (a b : ℕ) → P None
    → ((f x y : ℕ) → Shares l a b f x y → P (Some (Factored f x y))) → P (common_factor l fan a b)
unfolding common_factor shared_factor
factor_elim P l fan a b plain shared =
    cond_elim P (is_single Mul l fan a && is_single Mul l fan b) _ None
    (λ e. let s = and_true (is_single Mul l fan a) (is_single Mul l fan b) e in muls (single_tag Mul l fan a s.0) (single_tag Mul l fan b s.1))
    (λ _. plain)
  where
    a₀ : ℕ
    a₀ = first (at l a)

    a₁ : ℕ
    a₁ = second (at l a)

    b₀ : ℕ
    b₀ = first (at l b)

    b₁ : ℕ
    b₁ = second (at l b)

    muls : tag (at l a) ≡ tag (Mul 0 0) → tag (at l b) ≡ tag (Mul 0 0) → P (shared_factor a₀ a₁ b₀ b₁)
    muls h k =
        cond_elim P (eqb a₀ b₀) (Some (Factored a₀ a₁ b₁)) _ (λ e. hit a₀ a₁ b₁ (inl (refl, refl)) (inl (eqb-true a₀ b₀ e, refl)))
        (λ _. cond_elim P (eqb a₀ b₁) (Some (Factored a₀ a₁ b₀)) _ (λ e. hit a₀ a₁ b₀ (inl (refl, refl)) (inr (eqb-true a₀ b₁ e, refl)))
        (λ _. cond_elim P (eqb a₁ b₀) (Some (Factored a₁ a₀ b₁)) _ (λ e. hit a₁ a₀ b₁ (inr (refl, refl)) (inl (eqb-true a₁ b₀ e, refl)))
        (λ _. cond_elim P (eqb a₁ b₁) (Some (Factored a₁ a₀ b₀)) None (λ e. hit a₁ a₀ b₀ (inr (refl, refl)) (inr (eqb-true a₁ b₁ e, refl)))
        (λ _. plain))))
      where
        hit : (f x y : ℕ) → Splits (at l a) f x → Splits (at l b) f y → P (Some (Factored f x y))
        hit f x y s t = shared f x y (record { left_mul = h; right_mul = k; left_splits = s; right_splits = t })

module _ (P : Option Rewrite → Type 0) (plain : P None) (op : ℕ → ℕ → NodeKind) (l : List NodeKind) (i : ℕ) where
  onto_elim : (y : ℕ) (z : NodeKind) (f : Option ℕ) → Says l z (length l) f
      → ((e : ℕ) → e < i → e < length l → at l e ≡ z → P (Some (Rotated e y))) → P (onto_before i y f)
  unfolding onto_before
  onto_elim y z (Some j) s onto = cond_elim P (ltb j i) (Some (Rotated j y)) None (λ t. onto j (ltb-true j i t) s.0 s.1) (λ _. plain)
  onto_elim y z None s onto = plain

  existing_elim : (fan : ℕ → ℕ) (inner other : ℕ) → ((e y : ℕ) → Rotates op l i inner other e y → P (Some (Rotated e y))) → P (existing_rotation op l fan i inner other)
  unfolding existing_rotation
  existing_elim fan inner other onto =
      cond_elim P (is_single op l fan inner) _ None
      (λ t. let k = single_tag op l fan inner t in
      or_else_lem P _ _
      (tried k (first (at l inner)) (second (at l inner)) (inl (refl, refl)))
      (tried k (second (at l inner)) (first (at l inner)) (inr (refl, refl))))
      (λ _. plain)
    where
      tried : tag (at l inner) ≡ tag (op 0 0) → (x y : ℕ) → Splits (at l inner) x y → P (onto_before i y (lookup l (low_first op x other) (length l)))
      tried k x y s =
          onto_elim y (low_first op x other) (lookup l (low_first op x other) (length l)) (lookup_says l (low_first op x other) (length l))
          (λ e p q t. onto e y (record { same_kind = k; earlier = p; inside = q; x = x; splits = s; there = t }))

  -- what a plain record has, and every record that rotates, a rotation has
  pub rotation_elim : (fan : ℕ → ℕ) (a b : ℕ) → ((e y : ℕ) → Rotates op l i a b e y → P (Some (Rotated e y))) → ((e y : ℕ) → Rotates op l i b a e y → P (Some (Rotated e y)))
      → P (either_rotation op l fan i a b)
  unfolding either_rotation
  rotation_elim fan a b first second =
      or_else_lem P (existing_rotation op l fan i a b) (existing_rotation op l fan i b a) (existing_elim fan a b first) (existing_elim fan b a second)
