-- Residues by a witness, and the product of two words by halves of 32 bits.
use Rattle.std.proofs.Common.{◌≡◌, ℕ, ◌+◌, ◌-◌, ◌*◌, ◌/◌, ◌%◌, ◌^◌, ◌<◌, ◌≤◌, sym, ap, ◌∙◌, ap₂, mod-lt, mod-eq_of_lt, div-lt_iff_lt-mul, mul-le-mul, div-add-mod', mul-add, arith, lit<}
use native.Mathlib.Nat.{add-mul-mod_self_left}
use Rattle.field.specs.Field.{p}

-- 2^32, the base of a word's halves
abbrev pub base : ℕ
base = 4294967296

-- two numbers agree modulo m where multiples of m make them equal
pub congruent : (m x y u v : ℕ) → x + m * u ≡ y + m * v → x % m ≡ y % m
congruent m x y u v e = sym (add-mul-mod_self_left x m u) ∙ ap (λ (k : ℕ). k % m) e ∙ add-mul-mod_self_left y m v

pub residue : (m r n u v : ℕ) → r < m → r + m * u ≡ n + m * v → r ≡ n % m
residue m r n u v h e = sym (mod-eq_of_lt h) ∙ congruent m r n u v e

half_product : (x y : ℕ) → x < base → y < base → x * y ≤ 18446744065119617025
half_product x y h k = mul-le-mul {n₂ = 4294967295} {m₂ = 4294967295} (omega arith) (omega arith)

pub short_fits : (x y : ℕ) → x < base → y < base → x * y < 2 ^ 64
short_fits x y h k = go (x * y) (half_product x y h k)
  where
    go : (n : ℕ) → n ≤ 18446744065119617025 → n < 2 ^ 64
    go n l = omega arith

-- how large the four products of two words' halves are
pub record Halves (a b : ℕ) : Type 0 where
  pub high_high : a / base * (b / base) ≤ 18446744065119617025
  pub high_low : a / base * (b % base) ≤ 18446744065119617025
  pub low_high : a % base * (b / base) ≤ 18446744065119617025
  pub low_low : a % base * (b % base) ≤ 18446744065119617025

pub halves : (a b : ℕ) → a < 2 ^ 64 → b < 2 ^ 64 → Halves a b
halves a b h k =
    record {
      high_high = half_product (a / base) (b / base) (omega arith) (omega arith);
      high_low = half_product (a / base) (b % base) (omega arith) (omega arith);
      low_high = half_product (a % base) (b / base) (omega arith) (omega arith);
      low_low = half_product (a % base) (b % base) (omega arith) (omega arith);
    }

-- the product of two words from the four products of their halves
pub product : (a b : ℕ)
    → a / base * (b / base) * 2 ^ 64
    + (a / base * (b % base) + a % base * (b / base)) * base
    + a % base * (b % base)
    ≡ a * b
product a b = sym (expand (a / base) (a % base) (b / base) (b % base)) ∙ ap₂ ◌*◌ (div-add-mod' a base) (div-add-mod' b base)
  where
    expand : (w x y z : ℕ) → (w * base + x) * (y * base + z) ≡ w * y * 2 ^ 64 + (w * z + x * y) * base + x * z
    expand w x y z = omega arith

-- the high word of the product: the four products, added with their carries
pub high_carried : (a b : ℕ)
    → a / base * (b / base)
    + (a / base * (b % base) + a % base * (b % base) / base) / base
    + (a % base * (b / base) + (a / base * (b % base) + a % base * (b % base) / base) % base) / base
    ≡ a * b / 2 ^ 64
high_carried a b =
    add_up (a / base * (b / base)) (a / base * (b % base)) (a % base * (b / base)) (a % base * (b % base))
    ∙ ap (λ (n : ℕ). n / 2 ^ 64) (product a b)
  where
    add_up : (hh hl lh ll : ℕ)
        → hh + (hl + ll / base) / base + (lh + (hl + ll / base) % base) / base ≡ (hh * 2 ^ 64 + (hl + lh) * base + ll) / 2 ^ 64
    add_up hh hl lh ll = omega arith

-- its low word: the product of the high halves counts 2^64 times
pub low_carried : (a b cross : ℕ) → cross ≡ (a / base * (b % base) + a % base * (b / base)) % 2 ^ 64
    → (cross % base * base + a % base * (b % base)) % 2 ^ 64 ≡ a * b % 2 ^ 64
low_carried a b cross e =
    add_up (a / base * (b / base)) (a / base * (b % base)) (a % base * (b / base)) (a % base * (b % base)) e
    ∙ ap (λ (n : ℕ). n % 2 ^ 64) (product a b)
  where
    add_up : (hh hl lh ll : ℕ) → cross ≡ (hl + lh) % 2 ^ 64 → (cross % base * base + ll) % 2 ^ 64 ≡ (hh * 2 ^ 64 + (hl + lh) * base + ll) % 2 ^ 64
    add_up hh hl lh ll e = omega arith

-- p is 2^64 − 2^32 + 1, and p · (2^32 + 1) is 2^96 + 1
pub folded : (high low t v : ℕ) → t + high / base ≡ low + p * v
    → (t + high % base * 4294967295) % p ≡ (high * 2 ^ 64 + low) % p
folded high low t v e =
    congruent p (t + middle * 4294967295) (high * 2 ^ 64 + low) (top * 4294967297 + middle) v
    (ap (λ (n : ℕ). t + middle * 4294967295 + n) (mul-add p (top * 4294967297) middle ∙ ap (λ (n : ℕ). n + p * middle) (times_p top))
    ∙ gather (top * 2 ^ 96) e
    ∙ ap (λ (n : ℕ). n + low + p * v) (split top middle ∙ ap (λ (n : ℕ). n * 2 ^ 64) (div-add-mod' high base)))
  where
    top : ℕ
    top = high / base

    middle : ℕ
    middle = high % base

    times_p : (x : ℕ) → p * (x * 4294967297) ≡ x * 2 ^ 96 + x
    times_p x = omega arith

    gather : (x : ℕ) → t + top ≡ low + p * v → t + middle * 4294967295 + (x + top + p * middle) ≡ x + middle * 2 ^ 64 + low + p * v
    gather x e = omega arith

    split : (x y : ℕ) → x * 2 ^ 96 + y * 2 ^ 64 ≡ (x * base + y) * 2 ^ 64
    split x y = omega arith

pub room : (high low : ℕ) → low < 2 ^ 64 → low - high / base + high % base * 4294967295 < 2 * p
room high low h = go (high / base) (high % base) (mod-lt high (lit< tt))
  where
    go : (x y : ℕ) → y < base → low - x + y * 4294967295 < 2 * p
    go x y k = omega arith

pub borrowed : (high low : ℕ) → high < 2 ^ 64 → p - high / base + low + high / base ≡ low + p * 1
borrowed high low h = go (high / base) ((div-lt_iff_lt-mul {k = base} (lit< tt)).1 h)
  where
    go : (x : ℕ) → x < base → p - x + low + x ≡ low + p * 1
    go x k = omega arith
