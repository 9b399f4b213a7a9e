-- The power by squaring: what holds at the start, in a round, and at the end.
use Rattle.std.proofs.Common.{◌≡◌, ℕ, ◌/◌, ◌%◌, ◌<◌, ◌≤◌, sym, ap, ◌∙◌, arith}
use Rattle.ring.specs.Identities.{mul_one}
use Rattle.ring.specs.Power.{pow, pow_zero, pow_one, low_pow, pow_halve}
use Rattle.field.specs.Field.{modulus_of, felt, felt_laws}
use Rattle.field.specs.declared.Prime.{Prime}

module _ (prime : Prime) where
  pub even : (r s e : ℕ) → r < modulus_of prime → e % 2 ≡ 0 → r ≡ (felt prime).mul r (pow (felt prime) s (e % 2))
  even r s e h z = sym (ap (λ (n : ℕ). (felt prime).mul r (pow (felt prime) s n)) z ∙ ap ((felt prime).mul r) (pow_zero (felt_laws prime) s) ∙ mul_one (felt_laws prime) r h)

  pub odd : (r s e : ℕ) → s < modulus_of prime → ¬ (e % 2 ≡ 0) → (felt prime).mul r s ≡ (felt prime).mul r (pow (felt prime) s (e % 2))
  odd r s e h z = ap ((felt prime).mul r) (sym (ap (pow (felt prime) s) (one_left e z) ∙ pow_one (felt_laws prime) s h))
    where
      one_left : (n : ℕ) → ¬ (n % 2 ≡ 0) → n % 2 ≡ 1
      one_left n k = omega arith

  pub start : (b e : ℕ) → (felt prime).mul 1 (pow (felt prime) b e) ≡ pow (felt prime) b e
  unfolding felt
  start b e = (felt_laws prime).one_mul (pow (felt prime) b e) (low_pow (felt_laws prime) b e)

  pub round : (r s e r' s' t : ℕ) → r' ≡ (felt prime).mul r (pow (felt prime) s (e % 2)) → s' ≡ (felt prime).mul s s → (felt prime).mul r (pow (felt prime) s e) ≡ t
      → (felt prime).mul r' (pow (felt prime) s' (e / 2)) ≡ t
  round r s e r' s' t f g h = rw (f, g) (pow_halve (felt_laws prime) r s e ∙ h)

  pub end : (r s e t : ℕ) → r < modulus_of prime → e ≤ 0 → (felt prime).mul r (pow (felt prime) s e) ≡ t → r ≡ t
  end r s e t h z k = even r s 0 h (omega arith) ∙ ap (λ (n : ℕ). (felt prime).mul r (pow (felt prime) s n)) (sym (zero e z)) ∙ k
    where
      zero : (n : ℕ) → n ≤ 0 → n ≡ 0
      zero n l = omega arith
