-- What tests tell, and the places below a bound.
use Rattle.std.specs.Prelude.{ℕ, suc, ◌≤◌, ◌<◌, Bool, true, false, cond, ◌&&◌, ◌||◌, ◌≡◌, refl, ◌⊎◌, ◌↔◌, leb}
use Rattle.std.proofs.Common.{true≢false, sym, ◌∙◌, inl, inr, leb-true, leb-false}
use Rattle.std.proofs.Math.Nat.{le-suc_iff, suc_inj}

-- a choice has what both its answers have
pub cond_elim {ℓ} : {A : Type 0} (P : A → Type ℓ) (t : Bool) (x y : A) → (t ≡ true → P x) → (t ≡ false → P y) → P (cond t x y)
cond_elim P true x y f g = f refl
cond_elim P false x y f g = g refl

pub and_true : (s t : Bool) → s && t ≡ true → (s ≡ true) × (t ≡ true)
and_true true t e = (refl, e)
and_true false t e = absurd (true≢false (sym e))

pub or_true : (s t : Bool) → s || t ≡ true → (s ≡ true) ⊎ (t ≡ true)
or_true true t e = inl refl
or_true false t e = inr e

pub not_both : (t : Bool) → t ≡ true → t ≡ false → ⊥
not_both t p q = true≢false (sym p ∙ q)

pub and_false : (s t : Bool) → (s && t ≡ false) ↔ ((s ≡ false) ⊎ (t ≡ false))
and_false true t = (λ e. inr e, go)
  where
    go : (true ≡ false) ⊎ (t ≡ false) → t ≡ false
    go (inl e) = absurd (not_both true refl e)
    go (inr e) = e
and_false false t = (λ e. inl refl, λ _. refl)

-- a place below n + 1 is below n, or n
pub below_suc : (i n : ℕ) → i < suc n → (i < n) ⊎ (i ≡ n)
below_suc i n h = go (le-suc_iff.0 h)
  where
    go : (i < n) ⊎ (suc i ≡ suc n) → (i < n) ⊎ (i ≡ n)
    go (inl k) = inl k
    go (inr e) = inr (suc_inj e)

-- what holds below n and of n holds below n + 1
pub below_suc_elim {ℓ} : (P : ℕ → Type ℓ) (n : ℕ) → ((i : ℕ) → i < n → P i) → P n → (i : ℕ) → i < suc n → P i
below_suc_elim P n before last i h = go (below_suc i n h)
  where
    go : (i < n) ⊎ (i ≡ n) → P i
    go (inl k) = before i k
    go (inr e) = rw e last

-- n is at most m, or above it
pub le_or_lt : (n m : ℕ) → (n ≤ m) ⊎ (m < n)
le_or_lt n m = go (leb n m) refl
  where
    go : (t : Bool) → leb n m ≡ t → (n ≤ m) ⊎ (m < n)
    go true e = inl (leb-true n m e)
    go false e = inr (leb-false n m e)
