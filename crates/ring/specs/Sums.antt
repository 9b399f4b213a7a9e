-- Finite sums and products in any ring: of f 0, f 1, .., f (n − 1).
use Rattle.std.specs.Prelude.{◌≡◌}
use Rattle.std.proofs.Math.Path.{refl, sym, ap, ap₂}
use Rattle.std.proofs.Common.{◌∙◌, add-zero, add-suc, lt-suc_self}
use Prim.Native.Nat.{ℕ, zero, suc, ◌+◌, ◌<◌}
use Rattle.std.proofs.Math.Nat.{le_step}
use Rattle.ring.specs.Ring.{Ops, Laws}
use Rattle.ring.specs.Identities.{mul_one, mul_zero, left_comm, add_zero as plus-zero}
use Rattle.ring.specs.Residue.{residues}
use Rattle.ring.specs.Power.{pow}

unfoldable pub sum : {A : Type 0} → Ops A → (ℕ → A) → ℕ → A
sum o f zero = o.zero
sum o f (suc n) = o.add (sum o f n) (f n)

unfoldable pub prod : {A : Type 0} → Ops A → (ℕ → A) → ℕ → A
prod o f zero = o.one
prod o f (suc n) = o.mul (prod o f n) (f n)

-- 0 + 1 + 2 + 3 + 4, and 1 · 2 · 3 · 4, modulo 7
sums : (sum (residues 7) (λ i. i) 5 ≡ 3) × (prod (residues 7) (λ i. i + 1) 4 ≡ 3)
unfolding sum prod
sums = (refl, refl)

module _ {A : Type 0} {o : Ops A} (L : Laws o) where
  pub sum_zero : (f : ℕ → A) → sum o f 0 ≡ o.zero
  unfolding sum
  sum_zero f = refl

  pub sum_suc : (f : ℕ → A) (n : ℕ) → sum o f (suc n) ≡ o.add (sum o f n) (f n)
  unfolding sum
  sum_suc f n = refl

  pub low_sum : (f : ℕ → A) (n : ℕ) → L.Low (sum o f n)
  unfolding sum
  low_sum f zero = L.low_zero
  low_sum f (suc n) = L.low_add (sum o f n) (f n)

  -- only the summed terms matter
  pub sum_cong : (f g : ℕ → A) (n : ℕ) → ((i : ℕ) → i < n → f i ≡ g i) → sum o f n ≡ sum o g n
  unfolding sum
  sum_cong f g zero h = refl
  sum_cong f g (suc n) h = ap₂ o.add (sum_cong f g n (λ i k. h i (le_step k))) (h n (lt-suc_self n))

  -- the first m terms, then the next n
  pub sum_split : (f : ℕ → A) (m n : ℕ) → sum o f (m + n) ≡ o.add (sum o f m) (sum o (λ i. f (m + i)) n)
  unfolding sum
  sum_split f m zero = ap (sum o f) (add-zero m) ∙ sym (plus-zero L (sum o f m) (low_sum f m))
  sum_split f m (suc n) =
      ap (sum o f) (add-suc m n)
      ∙ ap (λ (x : A). o.add x (f (m + n))) (sum_split f m n)
      ∙ L.add_assoc (sum o f m) (sum o (λ i. f (m + i)) n) (f (m + n))

  -- the first term, then the terms shifted by one
  pub sum_shift : (f : ℕ → A) (n : ℕ) → sum o f (suc n) ≡ o.add (o.add o.zero (f 0)) (sum o (λ i. f (suc i)) n)
  unfolding sum
  sum_shift f zero = sym (plus-zero L (o.add o.zero (f 0)) (L.low_add o.zero (f 0)))
  sum_shift f (suc n) =
      ap (λ (x : A). o.add x (f (suc n))) (sum_shift f n) ∙ L.add_assoc (o.add o.zero (f 0)) (sum o (λ i. f (suc i)) n) (f (suc n))

  pub sum_of_zeros : (n : ℕ) → sum o (λ i. o.zero) n ≡ o.zero
  unfolding sum
  sum_of_zeros zero = refl
  sum_of_zeros (suc n) = ap (λ (x : A). o.add x o.zero) (sum_of_zeros n) ∙ L.zero_add o.zero L.low_zero

  pub sum_add : (f g : ℕ → A) (n : ℕ) → sum o (λ i. o.add (f i) (g i)) n ≡ o.add (sum o f n) (sum o g n)
  unfolding sum
  sum_add f g zero = sym (L.zero_add o.zero L.low_zero)
  sum_add f g (suc n) = ap (λ (x : A). o.add x (o.add (f n) (g n))) (sum_add f g n) ∙ swap (sum o f n) (sum o g n) (f n) (g n)
    where
      swap : (a b c d : A) → o.add (o.add a b) (o.add c d) ≡ o.add (o.add a c) (o.add b d)
      swap a b c d =
          L.add_assoc a b (o.add c d)
          ∙ ap (λ (x : A). o.add a x) (left_comm o.add L.add_comm L.add_assoc b c d)
          ∙ sym (L.add_assoc a c (o.add b d))

  pub sum_scale : (a : A) (f : ℕ → A) (n : ℕ) → sum o (λ i. o.mul a (f i)) n ≡ o.mul a (sum o f n)
  unfolding sum
  sum_scale a f zero = sym (mul_zero L a)
  sum_scale a f (suc n) = ap (λ (x : A). o.add x (o.mul a (f n))) (sum_scale a f n) ∙ sym (L.mul_distrib_left a (sum o f n) (f n))

  -- two sums may change places
  pub sum_exchange : (f : ℕ → ℕ → A) (m n : ℕ) → sum o (λ i. sum o (f i) n) m ≡ sum o (λ j. sum o (λ i. f i j) m) n
  unfolding sum
  sum_exchange f zero n = sym (sum_of_zeros n)
  sum_exchange f (suc m) n =
      ap (λ (x : A). o.add x (sum o (f m) n)) (sum_exchange f m n) ∙ sym (sum_add (λ j. sum o (λ i. f i j) m) (f m) n)

  pub low_prod : (f : ℕ → A) (n : ℕ) → L.Low (prod o f n)
  unfolding prod
  low_prod f zero = L.low_one
  low_prod f (suc n) = L.low_mul (prod o f n) (f n)

  pub prod_cong : (f g : ℕ → A) (n : ℕ) → ((i : ℕ) → i < n → f i ≡ g i) → prod o f n ≡ prod o g n
  unfolding prod
  prod_cong f g zero h = refl
  prod_cong f g (suc n) h = ap₂ o.mul (prod_cong f g n (λ i k. h i (le_step k))) (h n (lt-suc_self n))

  pub prod_split : (f : ℕ → A) (m n : ℕ) → prod o f (m + n) ≡ o.mul (prod o f m) (prod o (λ i. f (m + i)) n)
  unfolding prod
  prod_split f m zero = ap (prod o f) (add-zero m) ∙ sym (mul_one L (prod o f m) (low_prod f m))
  prod_split f m (suc n) =
      ap (prod o f) (add-suc m n)
      ∙ ap (λ (x : A). o.mul x (f (m + n))) (prod_split f m n)
      ∙ L.mul_assoc (prod o f m) (prod o (λ i. f (m + i)) n) (f (m + n))

  -- the product of n equal factors is their power
  pub prod_const : (a : A) (n : ℕ) → prod o (λ i. a) n ≡ pow o a n
  unfolding prod pow
  prod_const a zero = refl
  prod_const a (suc n) = L.mul_comm (prod o (λ i. a) n) a ∙ ap (λ (x : A). o.mul a x) (prod_const a n)
