-- A word of digits fits, tests of operands, and a line more.
use Prim.Native.Nat.{ℕ, zero, suc, ◌+◌, ◌*◌, ◌-◌, ◌^◌, ◌<◌, ◌≤◌}
use Rattle.std.specs.Prelude.{Bool, ◌&&◌, List, ◌≡◌, ltb, get_or}
use Rattle.std.proofs.Math.Bool.{true, false, cond, and-eq-true_iff}
use Rattle.std.proofs.Math.Path.{refl}
use Rattle.std.proofs.Common.{sym}
use Rattle.std.proofs.Math.Nat.{pow-le-pow_right, pow-succ'}
use Rattle.std.proofs.Math.Numerals.{add-one}
use native.Mathlib.Omega.{arith}
use borrow.Author.Tests.{leb-true, ltb-true}
use Rattle.std.proofs.Math.Dec.{leb}
use Rattle.std.proofs.Math.ListN.{get_or-eq_default}
use Rattle.field.specs.Field.{modulus_of, second_below, Below}
use Rattle.field.specs.Fields.{field_of}
use Rattle.field.specs.Generators.{most_log, generator, generators}
use Rattle.field.specs.declared.Prime.{Prime}
use Rattle.field.specs.declared.Prime.TheVariants.{Goldilocks, BabyBear}
use Rattle.field.specs.declared.QuadFelt.{QuadFelt}
use Rattle.dag.specs.Check.{lowest}
use Rattle.field_vectors.specs.Vectors.{line, digit, digits, score, matched}

-- the value of a digit
module _ (b : ℕ) where
  digit_low : digit b < 16
  unfolding digit
  digit_low = go (leb 48 b && leb b 57) (leb 97 b && leb b 102) refl refl
    where
      go : (t u : Bool) → (leb 48 b && leb b 57) ≡ t → (leb 97 b && leb b 102) ≡ u → cond t (b - 48) (cond u (b - 87) 0) < 16
      go true u e q = omega (arith, leb-true b 57 ((and-eq-true_iff (leb 48 b) (leb b 57)).0 e).1)
      go false true e q = omega (arith, leb-true b 102 ((and-eq-true_iff (leb 97 b) (leb b 102)).0 q).1)
      go false false e q = omega arith

-- a digit more
module _ (s : List ℕ) (at : ℕ) where
  low : (n : ℕ) → digits s at n < 16 ^ n
  unfolding digits
  low zero = omega arith
  low (suc n) = omega (arith, low n, digit_low (get_or s (at + n) 0), pow-succ' 16 n)

  -- fifteen digits are below 2^60
  pub digits_low : (i : ℕ) → i < 16 → digits s at i < 1152921504606846976
  digits_low i h = let room : 16 ^ i ≤ 1152921504606846976 = pow-le-pow_right {n = 16} (omega arith) {i = i} {j = 15} (omega arith) in omega (arith, low i)

  pub digits_none : digits s at 0 ≡ 0
  unfolding digits
  digits_none = refl

  pub digits_more : (i : ℕ) → digits s at (i + 1) ≡ digits s at i * 16 + digit (get_or s (at + i) 0)
  unfolding digits
  digits_more i = rw (add-one i)

pub generator_past : (prime : Prime) (k : ℕ) → most_log prime < k → 0 ≡ generator prime k
unfolding generator generators
generator_past Goldilocks k h = sym (get_or-eq_default (generators Goldilocks) 0 h)
generator_past BabyBear k h = sym (get_or-eq_default (generators BabyBear) 0 h)

module _ (prime : Prime) where
  pub low_below : (a : QuadFelt) → lowest (field_of prime).bounds a.c0 a.c1 ≡ true → Below prime a
  low_below a e =
      let t = (and-eq-true_iff (ltb a.c0 (modulus_of prime)) (ltb a.c1 (second_below prime))).0 e in
      (ltb-true a.c0 (modulus_of prime) t.0, ltb-true a.c1 (second_below prime) t.1)

-- a line more
pub matched_none : (s : List ℕ) → matched s 0 ≡ 0
unfolding matched
matched_none s = refl

pub matched_more : (s : List ℕ) (n : ℕ) → matched s (n + 1) ≡ matched s n + score s (line * n)
unfolding matched
matched_more s n = rw (add-one n)
