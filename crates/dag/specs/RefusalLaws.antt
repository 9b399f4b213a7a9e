-- No refusal has number 0, so an answer begins with 0 exactly where the tests pass.
use Rattle.std.specs.Prelude.{ℕ, ◌<◌, ◌↔◌, ◌≡◌, refl, Ok, Err}
use Rattle.std.proofs.Common.{sym, ◌∙◌, arith}
use Rattle.dag.specs.Refusals.{number, unless_refused, Checked}
use Rattle.dag.specs.declared.Refusal.{Refusal}
use Rattle.dag.specs.declared.Refusal.TheVariants.{CountOutOfRange, StoreTooShort, UnknownTag, Malformed, OperandNotEarlier, RootOutside, NoRoom, TooManyEntries, Unassigned, TooManyColumns, ColumnLength, SharedPeriod}
use Rattle.dag.specs.declared.Refusal.TheVariants.{FileTooShort, FileVersion, FileCount, FileLength, TextTooShort, NoOperations, RootNotLast, OddLayout, RootCount, FieldNumber}

pub number_positive : (r : Refusal) → 0 < number r
number_positive CountOutOfRange = omega arith
number_positive StoreTooShort = omega arith
number_positive (UnknownTag i) = omega arith
number_positive (Malformed i) = omega arith
number_positive (OperandNotEarlier i) = omega arith
number_positive RootOutside = omega arith
number_positive NoRoom = omega arith
number_positive TooManyEntries = omega arith
number_positive (Unassigned i) = omega arith
number_positive TooManyColumns = omega arith
number_positive (ColumnLength i) = omega arith
number_positive SharedPeriod = omega arith
number_positive FileTooShort = omega arith
number_positive FileVersion = omega arith
number_positive FileCount = omega arith
number_positive FileLength = omega arith
number_positive TextTooShort = omega arith
number_positive NoOperations = omega arith
number_positive RootNotLast = omega arith
number_positive OddLayout = omega arith
number_positive RootCount = omega arith
number_positive FieldNumber = omega arith

-- `word` is an answer's first word: a refusal's number, and 0 for what is given
module _ {A : Type 0} (word : A → ℕ) (refuse : Refusal → A) (given : A) (refused-word : (r : Refusal) → word (refuse r) ≡ number r) (given_word : word given ≡ 0) where
  pub zero_accepts : (c : Checked) → (word (unless_refused c refuse given) ≡ 0) ↔ (c ≡ Ok tt)
  zero_accepts (Ok u) = (λ e. refl, λ e. given_word)
  zero_accepts (Err r) = (
    λ e. absurd (omega (arith, number_positive r, sym (refused-word r) ∙ e)),
    λ e. let z : ◌≡◌ {A = ℕ} 0 1 = cc in absurd (omega arith),
  )
