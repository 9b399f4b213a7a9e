-- What a field number gives, once its field is known.
use Rattle.std.specs.Prelude.{◌≡◌, ℕ, refl, Option, Some, None}
use Rattle.std.proofs.Common.{ap, ne_eqb}
use Rattle.field.specs.Numbers.{numbered, named, in_field}
use Rattle.field.specs.declared.Prime.{Prime}
use Rattle.field.specs.declared.Prime.TheVariants.{Goldilocks, BabyBear}

-- the numbers
pub number_one : numbered 1 ≡ Some Goldilocks
unfolding numbered
number_one = refl

pub number_two : numbered 2 ≡ Some BabyBear
unfolding numbered
number_two = refl

pub number_other : (n : ℕ) → ¬ (n ≡ 1) → ¬ (n ≡ 2) → numbered n ≡ None
unfolding numbered
number_other n h k = rw (ne_eqb n 1 h, ne_eqb n 2 k)

module _ {A : Type 0} (number : ℕ) (unknown : A) (known : Prime → A) where
  pub by_known : {prime : Prime} → numbered number ≡ Some prime → in_field number unknown known ≡ known prime
  by_known e = ap (λ (i : Option Prime). named i unknown known) e

  pub by_unknown : numbered number ≡ None → in_field number unknown known ≡ unknown
  by_unknown e = ap (λ (i : Option Prime). named i unknown known) e
