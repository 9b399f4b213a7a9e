-- A coordinate c as a signed number: c up to (m − 1)/2, c − m above it.
use Rattle.std.specs.Prelude.{ℕ, ◌-◌, ◌/◌, cond, leb, ◌≡◌, ℤ, pos, ◌+ℤ◌, ◌-ℤ◌, ◌*ℤ◌, neg_ℤ, ◌≤ℤ◌}

-- half an odd modulus, rounded down
abbrev pub half : ℕ → ℕ
half m = (m - 1) / 2

-- the signed number of a coordinate below the modulus m
unfoldable pub signed : ℕ → ℕ → ℤ
signed m c = cond (leb c (half m)) (pos c) (pos c -ℤ pos m)

-- a signed number and a coordinate agree modulo m: they differ by a multiple of it
pub record Agrees (m : ℕ) (z : ℤ) (c : ℕ) : Type 0 where
  pub times : ℤ
  pub differs : pos c ≡ z +ℤ (times *ℤ pos m)

-- a signed number lies in the range of m: from −(m−1)/2 to (m−1)/2
pub record InRange (m : ℕ) (z : ℤ) : Type 0 where
  pub from : neg_ℤ (pos (half m)) ≤ℤ z
  pub to : z ≤ℤ pos (half m)
