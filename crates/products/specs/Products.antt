-- What the timed loops answer.
use Rattle.std.specs.Prelude.{ℕ, zero, suc, ◌+◌, ◌*◌, ◌%◌, ◌^◌, cond, ◌&&◌, List, nat_lt, slice_index}
use Rattle.ring.specs.Power.{pow}
use Rattle.field.specs.Field.{p, q, modulus_of, felt}
use Rattle.field.specs.declared.Prime.{Prime}
use Rattle.field.specs.declared.Prime.TheVariants.{Goldilocks, BabyBear}

-- value · factor^count; 0 where an operand is not below the prime
unfoldable pub dependent : Prime → ℕ → ℕ → ℕ → ℕ
dependent prime value factor count =
    cond (nat_lt value (modulus_of prime) && nat_lt factor (modulus_of prime)) ((felt prime).mul value (pow (felt prime) factor count)) 0

-- the product of two words modulo p, of their low halves modulo q
abbrev pub product : Prime → ℕ → ℕ → ℕ
product Goldilocks a b = a * b % p
product BabyBear a b = a % 2 ^ 32 * (b % 2 ^ 32) % q

-- the sum modulo 2^64 of the products of the first n words, each with the next
unfoldable pub independent : Prime → List ℕ → ℕ → ℕ
independent prime w zero = 0
independent prime w (suc n) = (independent prime w n + product prime (slice_index w n) (slice_index w (suc n))) % 2 ^ 64
