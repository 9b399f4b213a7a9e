-- The turns of the loops.
use Rattle.std.specs.Prelude.{◌≡◌, ℕ, ◌+◌, ◌%◌, ◌^◌, ◌<◌, List, slice_index}
use Rattle.std.proofs.Math.Path.{refl}
use Rattle.std.proofs.Common.{sym, ◌∙◌, ap}
use Rattle.std.proofs.Math.Numerals.{add-one}
use Rattle.ring.specs.Identities.{mul_one}
use Rattle.ring.specs.Power.{pow, pow_zero, pow_suc}
use Rattle.field.specs.Field.{modulus_of, felt, felt_laws}
use Rattle.field.specs.declared.Prime.{Prime}
use Rattle.products.specs.Products.{product, independent}

module _ (prime : Prime) where
  -- no factor yet
  pub power_none : (value factor : ℕ) → value < modulus_of prime → value ≡ (felt prime).mul value (pow (felt prime) factor 0)
  power_none value factor h = sym (ap ((felt prime).mul value) (pow_zero (felt_laws prime) factor) ∙ mul_one (felt_laws prime) value h)

  -- one factor more
  pub power_more : (value factor k : ℕ) → (felt prime).mul ((felt prime).mul value (pow (felt prime) factor k)) factor ≡ (felt prime).mul value (pow (felt prime) factor (k + 1))
  power_more value factor k =
      (felt_laws prime).mul_assoc value (pow (felt prime) factor k) factor
      ∙ ap ((felt prime).mul value) ((felt_laws prime).mul_comm (pow (felt prime) factor k) factor ∙ (sym (pow_suc (felt_laws prime) factor k) ∙ ap (pow (felt prime) factor) (sym (add-one k))))

  -- one product more
  pub sum_none : (w : List ℕ) → independent prime w 0 ≡ 0
  unfolding independent
  sum_none w = refl

  pub sum_more : (w : List ℕ) (i : ℕ) → independent prime w (i + 1) ≡ (independent prime w i + product prime (slice_index w i) (slice_index w (i + 1))) % 2 ^ 64
  unfolding independent
  sum_more w i = rw (add-one i)
