-- A signed number in decimal: its sign and its magnitude, and how long it is.
use Rattle.std.specs.Prelude.{ℕ, suc, ◌+◌, ◌^◌, ◌≤◌, ◌<◌, [], ◌∷◌, ◌++◌, ◌≡◌, refl, length, true, false, ℤ, pos, negsuc, unsigned_abs}
use lib.Signed.{lt_z}
use Rattle.std.proofs.Common.{ap, arith}
use Rattle.text.specs.Text.{ascii, decimal, integer}
use Rattle.text.specs.DecimalLaws.{decimal_short}

-- with its sign before it, or without one
pub integer_below : (z : ℤ) → lt_z z (pos 0) ≡ true → (45 ∷ []) ++ decimal (unsigned_abs z) ≡ integer z
unfolding integer ascii
integer_below (pos n) h = absurd (grind arith)
integer_below (negsuc n) h = refl

pub integer_above : (z : ℤ) → lt_z z (pos 0) ≡ false → decimal (unsigned_abs z) ≡ integer z
unfolding integer
integer_above (pos n) h = refl
integer_above (negsuc n) h = absurd (grind arith)

-- how long it is
pub length_below : (z : ℤ) → lt_z z (pos 0) ≡ true → 1 + length (decimal (unsigned_abs z)) ≡ length (integer z)
length_below z h = omega (arith, ap length (integer_below z h))

pub length_above : (z : ℤ) → lt_z z (pos 0) ≡ false → length (decimal (unsigned_abs z)) ≡ length (integer z)
length_above z h = ap length (integer_above z h)

pub integer_short : (k : ℕ) (z : ℤ) → unsigned_abs z < 10 ^ suc k → length (integer z) ≤ k + 2
unfolding integer ascii
integer_short k (pos n) h = let s = decimal_short k n h in omega arith
integer_short k (negsuc n) h = let s = decimal_short k (suc n) h in omega arith
