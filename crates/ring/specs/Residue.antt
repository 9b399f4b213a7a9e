-- The residues of a modulus, on all natural numbers: every operation answers the least residue.
use Rattle.std.specs.Prelude.{◌≡◌, refl, ℕ, ◌+◌, ◌*◌, ◌-◌, ◌%◌, ◌/◌, ◌<◌}
use Rattle.std.proofs.Common.{sym, ◌∙◌, ap, add_comm, add_assoc, mul_comm, mul_assoc, mul-add, mul_left_comm, zero-add, add-zero, one-mul, zero-mul, mul-zero, mod-lt, mod-eq_of_lt, add-sub_of_le, le_of_lt}
use Rattle.std.proofs.Math.Nat.{zero-mod, mod_self, mod-add-mod, add-mod-mod, mod-add-div, add-mul-mod_self_left}
use Rattle.ring.specs.Ring.{Ops, Laws}

abbrev pub add : ℕ → ℕ → ℕ → ℕ
add m a b = (a + b) % m

abbrev pub sub : ℕ → ℕ → ℕ → ℕ
sub m a b = (a + (m - b % m)) % m

abbrev pub mul : ℕ → ℕ → ℕ → ℕ
mul m a b = a * b % m

abbrev pub neg : ℕ → ℕ → ℕ
neg m a = (m - a % m) % m

abbrev pub residues : ℕ → Ops ℕ
residues m = record { zero = 0; one = 1; add = add m; sub = sub m; mul = mul m; neg = neg m }

-- Modulo 7; an operand need not be reduced.
sums : add 7 5 4 ≡ 2
sums = refl

differences : (sub 7 2 5 ≡ 4) × (sub 7 2 12 ≡ 4) × (sub 7 5 5 ≡ 0)
differences = (refl, refl, refl)

products : mul 7 3 12 ≡ 1
products = refl

negatives : (neg 7 3 ≡ 4) × (neg 7 14 ≡ 0)
negatives = (refl, refl)

pub mul_mod_mod : (a b m : ℕ) → a * (b % m) % m ≡ a * b % m
mul_mod_mod a b m =
    sym (add-mul-mod_self_left (a * (b % m)) m (a * (b / m)))
    ∙ ap (λ (n : ℕ). n % m) (rw (mul_left_comm m a (b / m), ← mul-add) (ap (λ (n : ℕ). a * n) (mod-add-div b m)))

pub mod_mul_mod : (a b m : ℕ) → a % m * b % m ≡ a * b % m
mod_mul_mod a b m = rw (mul_comm (a % m) b, mul_comm a b) (mul_mod_mod b a m)

-- What equals after adding the same is equal modulo m.
module _ (m : ℕ) (positive : 0 < m) where
  pub add_opposite : (a : ℕ) → (a + (m - a % m)) % m ≡ 0
  add_opposite a = sym (mod-add-mod a m (m - a % m)) ∙ ap (λ (n : ℕ). n % m) (add-sub_of_le (le_of_lt (mod-lt a positive))) ∙ mod_self m

  cancel : (x y z : ℕ) → (x + z) % m ≡ (y + z) % m → x % m ≡ y % m
  cancel x y z e = sym (drop x) ∙ ap (λ (n : ℕ). (n + (m - z % m)) % m) e ∙ drop y
    where
      drop : (a : ℕ) → ((a + z) % m + (m - z % m)) % m ≡ a % m
      drop a =
          mod-add-mod (a + z) m (m - z % m)
          ∙ ap (λ (n : ℕ). n % m) (add_assoc a z (m - z % m))
          ∙ sym (add-mod-mod a (z + (m - z % m)) m)
          ∙ ap (λ (n : ℕ). (a + n) % m) (add_opposite z)
          ∙ ap (λ (n : ℕ). n % m) (add-zero a)

  pub add_neg : (a : ℕ) → add m a (neg m a) ≡ 0
  add_neg a = add-mod-mod a (m - a % m) m ∙ add_opposite a

  pub mul_distrib_sub : (a b c : ℕ) → mul m a (sub m b c) ≡ sub m (mul m a b) (mul m a c)
  mul_distrib_sub a b c =
      mul_mod_mod a (b + n) m
      ∙ ap (λ (k : ℕ). k % m) (mul-add a b n)
      ∙ sym (add-mod-mod (a * b) (a * n) m)
      ∙ ap (λ (k : ℕ). (a * b + k) % m) (cancel (a * n) (m - a * c % m % m) (a * c) (left ∙ sym right))
      ∙ add-mod-mod (a * b) (m - a * c % m % m) m
      ∙ sym (mod-add-mod (a * b) m (m - a * c % m % m))
    where
      n : ℕ
      n = m - c % m

      left : (a * n + a * c) % m ≡ 0
      left =
          rw (← mul-add, add_comm n c) (sym (mul_mod_mod a (c + n) m) ∙ rw (add_opposite c, mul-zero) (zero-mod m))

      right : (m - a * c % m % m + a * c) % m ≡ 0
      right = rw (← add-mod-mod, add_comm (m - a * c % m % m)) (add_opposite (a * c % m))

  pub neg_neg : (a : ℕ) → a < m → neg m (neg m a) ≡ a
  neg_neg a h = cancel (m - neg m a % m) a (neg m a) (rw (add_comm (m - neg m a % m)) (add_opposite (neg m a)) ∙ sym (add_neg a)) ∙ mod-eq_of_lt h

pub assoc_add : (m a b c : ℕ) → add m (add m a b) c ≡ add m a (add m b c)
assoc_add m a b c = mod-add-mod (a + b) m c ∙ ap (λ (n : ℕ). n % m) (add_assoc a b c) ∙ sym (add-mod-mod a (b + c) m)

pub assoc_mul : (m a b c : ℕ) → mul m (mul m a b) c ≡ mul m a (mul m b c)
assoc_mul m a b c = mod_mul_mod (a * b) c m ∙ ap (λ (n : ℕ). n % m) (mul_assoc a b c) ∙ sym (mul_mod_mod a (b * c) m)

pub distrib_left : (m a b c : ℕ) → mul m a (add m b c) ≡ add m (mul m a b) (mul m a c)
distrib_left m a b c =
    mul_mod_mod a (b + c) m
    ∙ ap (λ (n : ℕ). n % m) (mul-add a b c)
    ∙ sym (mod-add-mod (a * b) m (a * c))
    ∙ sym (add-mod-mod (a * b % m) (a * c) m)

-- The laws of the residues of any modulus above 1.
abbrev pub residues_laws : (m : ℕ) → 1 < m → Laws (residues m)
residues_laws m h =
    record {
      Low = λ a. a < m;
      low_zero = le_of_lt h;
      low_one = h;
      low_add = λ a b. mod-lt (a + b) (le_of_lt h);
      low_sub = λ a b. mod-lt (a + (m - b % m)) (le_of_lt h);
      low_mul = λ a b. mod-lt (a * b) (le_of_lt h);
      low_neg = λ a. mod-lt (m - a % m) (le_of_lt h);
      add_comm = λ a b. ap (λ (n : ℕ). n % m) (add_comm a b);
      add_assoc = assoc_add m;
      mul_comm = λ a b. ap (λ (n : ℕ). n % m) (mul_comm a b);
      mul_assoc = assoc_mul m;
      mul_distrib_left = distrib_left m;
      mul_distrib_sub = mul_distrib_sub m (le_of_lt h);
      zero_add = λ a l. ap (λ (n : ℕ). n % m) (zero-add a) ∙ mod-eq_of_lt l;
      one_mul = λ a l. ap (λ (n : ℕ). n % m) (one-mul a) ∙ mod-eq_of_lt l;
      zero_mul = λ a. ap (λ (n : ℕ). n % m) (zero-mul a) ∙ zero-mod m;
      sub_self = add_opposite m (le_of_lt h);
      sub_add_neg = λ a b. sym (add-mod-mod a (m - b % m) m);
      add_neg = add_neg m (le_of_lt h);
      neg_neg = neg_neg m (le_of_lt h);
    }
