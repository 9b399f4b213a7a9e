-- Field numbers: 1 names p with u² = 7, 2 names q, any other number no field.
use Rattle.std.specs.Prelude.{ℕ, cond, ◌==◌, Option, Some, None}
use Rattle.field.specs.declared.Prime.{Prime}
use Rattle.field.specs.declared.Prime.TheVariants.{Goldilocks, BabyBear}

unfoldable pub numbered : ℕ → Option Prime
numbered n = cond (n == 1) (Some Goldilocks) (cond (n == 2) (Some BabyBear) None)

-- what the named field gives, or else `unknown`
abbrev pub named : {A : Type 0} → Option Prime → A → (Prime → A) → A
named (Some prime) unknown known = known prime
named None unknown known = unknown

abbrev pub in_field : {A : Type 0} → ℕ → A → (Prime → A) → A
in_field number unknown known = named (numbered number) unknown known
