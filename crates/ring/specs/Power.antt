-- Powers in any ring.
use Rattle.std.specs.Prelude.{◌≡◌}
use Rattle.std.proofs.Math.Path.{refl, sym, ap}
use Rattle.std.proofs.Common.{◌∙◌, zero-add, suc-add, mul-zero, mul-suc, arith}
use Prim.Native.Nat.{ℕ, zero, suc, ◌+◌, ◌*◌, ◌/◌, ◌%◌}
use Rattle.std.proofs.Math.Nat.{add_comm}
use Rattle.ring.specs.Ring.{Ops, Laws}
use Rattle.ring.specs.Identities.{mul_one}
use Rattle.ring.specs.Residue.{residues}

unfoldable pub pow : {A : Type 0} → Ops A → A → ℕ → A
pow o a zero = o.one
pow o a (suc n) = o.mul a (pow o a n)

-- 3^4 modulo 7
powers : pow (residues 7) 3 4 ≡ 4
unfolding pow
powers = refl

module _ {A : Type 0} {o : Ops A} (L : Laws o) where
  pub pow_zero : (a : A) → pow o a 0 ≡ o.one
  unfolding pow
  pow_zero a = refl

  pub pow_suc : (a : A) (n : ℕ) → pow o a (suc n) ≡ o.mul a (pow o a n)
  unfolding pow
  pow_suc a n = refl

  pub low_pow : (a : A) (n : ℕ) → L.Low (pow o a n)
  unfolding pow
  low_pow a zero = L.low_one
  low_pow a (suc n) = L.low_mul a (pow o a n)

  pub pow_one : (a : A) → L.Low a → pow o a 1 ≡ a
  unfolding pow
  pow_one a h = mul_one L a h

  pub one_pow : (n : ℕ) → pow o o.one n ≡ o.one
  unfolding pow
  one_pow zero = refl
  one_pow (suc n) = ap (λ (x : A). o.mul o.one x) (one_pow n) ∙ L.one_mul o.one L.low_one

  pub pow_add : (a : A) (m n : ℕ) → pow o a (m + n) ≡ o.mul (pow o a m) (pow o a n)
  unfolding pow
  pow_add a zero n = ap (pow o a) (zero-add n) ∙ sym (L.one_mul (pow o a n) (low_pow a n))
  pow_add a (suc m) n =
      ap (pow o a) (suc-add m n)
      ∙ ap (λ (x : A). o.mul a x) (pow_add a m n)
      ∙ sym (L.mul_assoc a (pow o a m) (pow o a n))

  pub pow_mul : (a : A) (m n : ℕ) → pow o a (m * n) ≡ pow o (pow o a m) n
  unfolding pow
  pow_mul a m zero = ap (pow o a) (mul-zero m)
  pow_mul a m (suc n) =
      ap (pow o a) (mul-suc m n ∙ add_comm (m * n) m) ∙ pow_add a m (m * n) ∙ ap (λ (x : A). o.mul (pow o a m) x) (pow_mul a m n)

  pub mul_pow : (a b : A) (n : ℕ) → pow o (o.mul a b) n ≡ o.mul (pow o a n) (pow o b n)
  unfolding pow
  mul_pow a b zero = sym (L.one_mul o.one L.low_one)
  mul_pow a b (suc n) = ap (λ (x : A). o.mul (o.mul a b) x) (mul_pow a b n) ∙ swap a b (pow o a n) (pow o b n)
    where
      swap : (a b c d : A) → o.mul (o.mul a b) (o.mul c d) ≡ o.mul (o.mul a c) (o.mul b d)
      swap a b c d =
          L.mul_assoc a b (o.mul c d)
          ∙ ap (λ (x : A). o.mul a x) (sym (L.mul_assoc b c d) ∙ ap (λ (x : A). o.mul x d) (L.mul_comm b c) ∙ L.mul_assoc c b d)
          ∙ sym (L.mul_assoc a c (o.mul b d))

  -- the powers of an inverse are inverses of the powers
  pub pow_inverse : (a b : A) → o.mul a b ≡ o.one → (n : ℕ) → o.mul (pow o a n) (pow o b n) ≡ o.one
  pow_inverse a b e n = sym (mul_pow a b n) ∙ ap (λ (x : A). pow o x n) e ∙ one_pow n

  -- a to the power n + n is the square's power n
  pub square_pow : (a : A) (n : ℕ) → pow o (o.mul a a) n ≡ pow o a (n + n)
  square_pow a n = mul_pow a a n ∙ sym (pow_add a n n)

  -- one round of the power by squaring: r · s^e, with the lowest bit of e taken off
  pub pow_halve : (r s : A) (e : ℕ) → o.mul (o.mul r (pow o s (e % 2))) (pow o (o.mul s s) (e / 2)) ≡ o.mul r (pow o s e)
  pow_halve r s e =
      L.mul_assoc r (pow o s (e % 2)) (pow o (o.mul s s) (e / 2))
      ∙ ap (λ (x : A). o.mul r x)
      (ap (λ (x : A). o.mul (pow o s (e % 2)) x) (square_pow s (e / 2))
      ∙ sym (pow_add s (e % 2) (e / 2 + e / 2))
      ∙ ap (pow o s) (halves e))
    where
      halves : (n : ℕ) → n % 2 + (n / 2 + n / 2) ≡ n
      halves n = omega arith
