-- Signed numbers: they agree with their coordinates, lie in the range, and no two coordinates have the same.
use Rattle.std.specs.Prelude.{ℕ, ◌+◌, ◌-◌, ◌*◌, ◌^◌, ◌<◌, ◌≤◌, ◌≡◌, refl, pos, ◌-ℤ◌, neg_ℤ, unsigned_abs}
use Rattle.std.proofs.Common.{sym, ◌∙◌, arith, lit<, le-leb}
use Rattle.std.proofs.lemmas.Bool.{lt-leb}
use Rattle.std.proofs.lemmas.Int.{ints}
use Rattle.std.proofs.Math.Decide.{dec_le}
use Rattle.field.specs.Field.{modulus_of}
use Rattle.field.specs.declared.Prime.{Prime}
use Rattle.field.specs.declared.Prime.TheVariants.{Goldilocks, BabyBear}
use Rattle.signed.specs.Signed.{half, signed, Agrees, InRange}

-- half of each modulus fits an i64
pub half_small : (prime : Prime) → half (modulus_of prime) < 2 ^ 63
half_small Goldilocks = lit< tt
half_small BabyBear = lit< tt

-- the greatest signed number of field 1
pub half_p : half (modulus_of Goldilocks) ≡ 9223372034707292160
half_p = refl

-- the moduli are odd
pub odd : (prime : Prime) → modulus_of prime ≡ 2 * half (modulus_of prime) + 1
odd Goldilocks = refl
odd BabyBear = refl

module _ (m c : ℕ) where
  low : c ≤ half m → signed m c ≡ pos c
  unfolding signed
  low l = rw (le-leb c (half m) l)

  high : half m < c → signed m c ≡ pos c -ℤ pos m
  unfolding signed
  high l = rw (lt-leb c (half m) l)

  -- they differ by no modulus or by one
  pub agrees : Agrees m (signed m c) c
  agrees = go (dec_le c (half m))
    where
      go : Dec (c ≤ half m) → Agrees m (signed m c) c
      go (yes l) = record { times = pos 0; differs = rw (low l) (omega (arith, ints)) }
      go (no l) = record { times = pos 1; differs = rw (high (omega arith)) (omega (arith, ints)) }

  module _ (odd : m ≡ 2 * half m + 1) (h : c < m) where
    pub in_range : InRange m (signed m c)
    in_range = go (dec_le c (half m))
      where
        go : Dec (c ≤ half m) → InRange m (signed m c)
        go (yes l) = record { from = rw (low l) (omega (arith, ints)); to = rw (low l) (omega (arith, ints)) }
        go (no l) = record { from = rw (high (omega arith)) (omega (arith, ints)); to = rw (high (omega arith)) (omega (arith, ints)) }

    -- its magnitude is at most half the modulus
    pub magnitude : unsigned_abs (signed m c) ≤ half m
    magnitude = let r = in_range in let f = r.from in let t = r.to in omega (arith, ints, f, t)

-- no two coordinates have the same
pub signed_same : (m a b : ℕ) → a < m → b < m → signed m a ≡ signed m b → a ≡ b
signed_same m a b h k e = go (dec_le a (half m)) (dec_le b (half m))
  where
    go : Dec (a ≤ half m) → Dec (b ≤ half m) → a ≡ b
    go (yes l) (yes r) = let f : pos a ≡ pos b = sym (low m a l) ∙ (e ∙ low m b r) in omega (arith, ints)
    go (yes l) (no r) = let f : pos a ≡ pos b -ℤ pos m = sym (low m a l) ∙ (e ∙ high m b (omega arith)) in absurd (omega (arith, ints))
    go (no l) (yes r) = let f : pos a -ℤ pos m ≡ pos b = sym (high m a (omega arith)) ∙ (e ∙ low m b r) in absurd (omega (arith, ints))
    go (no l) (no r) = let f : pos a -ℤ pos m ≡ pos b -ℤ pos m = sym (high m a (omega arith)) ∙ (e ∙ high m b (omega arith)) in omega (arith, ints)

-- exact at zero and at both ends
pub at_zero : (m : ℕ) → signed m 0 ≡ pos 0
at_zero m = low m 0 (omega arith)

module _ (m : ℕ) where
  pub at_top : signed m (half m) ≡ pos (half m)
  at_top = low m (half m) (omega arith)

  pub at_bottom : m ≡ 2 * half m + 1 → signed m (half m + 1) ≡ neg_ℤ (pos (half m))
  at_bottom odd = rw (high m (half m + 1) (omega arith)) (omega (arith, ints))

  pub at_last : 2 < m → m ≡ 2 * half m + 1 → signed m (m - 1) ≡ neg_ℤ (pos 1)
  at_last h odd = rw (high m (m - 1) (omega arith)) (omega (arith, ints))
