-- The moduli are prime: the powers of the last generator are apart modulo every divisor above 1, so there are no two such whose product is the modulus.
use Prim.Native.Nat.{◌∣◌}
use Rattle.std.specs.Prelude.{ℕ, zero, suc, ◌+◌, ◌-◌, ◌*◌, ◌/◌, ◌%◌, ◌^◌, ◌<◌, ◌≤◌, Bool, true, false, cond, eqb, ◌≡◌, ◌⊎◌, refl}
use Rattle.std.proofs.Common.{sym, ◌∙◌, ap, inl, inr, arith, add-one, one-mul, eqb-true, lit<}
use Rattle.std.proofs.Math.Decide.{dec_le}
use Rattle.std.proofs.lemmas.Bool.{eqb-false}
use Rattle.std.proofs.lemmas.Nat.{mul-mod, mul-mod_second}
use Rattle.std.proofs.Math.Nat.{two-pow-succ, mod-lt, eq-zero_of_zero-dvd, mod-eq_of_lt, mod-mod_of_dvd, mod-add-mod, mod-add-div, add-mul-mod_self_left, mul-mod_left, mul-mod_right, mul-le-mul}
use Rattle.std.proofs.lemmas.Nat.Gcd.{le_of_dvd, dvd_of_mod-eq-zero, mod-eq-zero_of_dvd}
use Rattle.ring.specs.Ring.{Ops}
use Rattle.ring.specs.Power.{pow, pow_add, one_pow, low_pow, square_pow}
use Rattle.ring.specs.Identities.{mul_one}
use Rattle.field.specs.Field.{modulus_of, felt, felt_laws, large}
use Rattle.field.specs.Generators.{generator, most_log, generator_square, generator_order, generator_below, generators, one_is}
use Rattle.field.specs.declared.Prime.{Prime}
use Rattle.field.specs.declared.Prime.TheVariants.{Goldilocks, BabyBear}

-- n numbers below m that are apart are at most m
crowded : (n m : ℕ) (f : ℕ → ℕ) → ((i : ℕ) → i < n → f i < m) → ((i j : ℕ) → i < j → j < n → f i ≡ f j → ⊥) → n ≤ m
crowded zero m f below apart = omega arith
crowded (suc n) zero f below apart = let h = below 0 (omega arith) in absurd (omega arith)
crowded (suc n) (suc m) f below apart = omega (arith, crowded n m moved moved_below moved_apart)
  where
    -- the last one's number in place of m
    choose : ℕ → Bool → ℕ
    choose i t = cond t (f n) (f i)

    moved : ℕ → ℕ
    moved i = choose i (eqb (f i) m)

    -- they are below m and apart too
    chosen_below : (i : ℕ) → i < n → (t : Bool) → eqb (f i) m ≡ t → choose i t < m
    chosen_below i h true e =
        let other : f n ≡ m → ⊥ = λ q. apart i n h (omega arith) (eqb-true (f i) m e ∙ sym q) in
        omega (arith, below n (omega arith), other)
    chosen_below i h false e = omega (arith, below i (omega arith), eqb-false (f i) m e)

    chosen_apart : (i j : ℕ) → i < j → j < n → (s t : Bool) → eqb (f i) m ≡ s → eqb (f j) m ≡ t → choose i s ≡ choose j t → ⊥
    chosen_apart i j h k true true a b e = apart i j h (omega arith) (eqb-true (f i) m a ∙ sym (eqb-true (f j) m b))
    chosen_apart i j h k true false a b e = apart j n k (omega arith) (sym e)
    chosen_apart i j h k false true a b e = apart i n (omega arith) (omega arith) e
    chosen_apart i j h k false false a b e = apart i j h (omega arith) e

    moved_below : (i : ℕ) → i < n → moved i < m
    moved_below i h = chosen_below i h (eqb (f i) m) refl

    moved_apart : (i j : ℕ) → i < j → j < n → moved i ≡ moved j → ⊥
    moved_apart i j h k e = chosen_apart i j h k (eqb (f i) m) (eqb (f j) m) refl refl e

-- the first two entries are 1 and −1
ends : (prime : Prime) → (generator prime 0 ≡ 1) × (generator prime 1 ≡ modulus_of prime - 1)
unfolding generator generators
ends Goldilocks = (refl, refl)
ends BabyBear = (refl, refl)

-- the moduli are odd
odd : (prime : Prime) → modulus_of prime % 2 ≡ 1
odd Goldilocks = refl
odd BabyBear = refl

module _ (prime : Prime) where
  -- the modulus, and the residues' operations
  abbrev m : ℕ
  m = modulus_of prime

  abbrev F : Ops ℕ
  F = felt prime

  -- an even power of an entry is one of the entry before
  doubled : (k e : ℕ) → k < most_log prime → pow F (generator prime (suc k)) (e + e) ≡ pow F (generator prime k) e
  doubled k e h = sym (square_pow (felt_laws prime) (generator prime (suc k)) e) ∙ ap (λ (x : ℕ). pow F x e) (sym (generator_square prime k h ∙ ap (λ j. F.mul (generator prime j) (generator prime j)) (add-one k)))

  -- modulo a divisor above 1
  module _ (d : ℕ) (big : 1 < d) (divides : d ∣ modulus_of prime) where
    -- a product is the same modulo d
    product : (a b : ℕ) → F.mul a b % d ≡ a * b % d
    unfolding felt
    product a b = mod-mod_of_dvd d (a * b) divides

    -- what is 1 has the square 1
    one_squared : (x : ℕ) → x % d ≡ 1 → F.mul x x % d ≡ 1
    one_squared x e = product x x ∙ (mul-mod x x d ∙ (rw e (mod-eq_of_lt big)))

    -- −1 isn't 1
    minus_one : (m - 1) % d ≡ 1 → ⊥
    minus_one e =
        let top : modulus_of prime ≡ suc (m - 1) = let h = large prime in omega arith in
        let none : m % d ≡ 0 = mod-eq-zero_of_dvd d divides in
        let two : 2 % d ≡ 0 = sym (ap (λ n. (n + 1) % d) e) ∙ (mod-add-mod (m - 1) d 1 ∙ (ap (λ n. n % d) (add-one (m - 1) ∙ sym top) ∙ none)) in
        let least : d ≤ 2 = le_of_dvd (omega arith) (dvd_of_mod-eq-zero d two) in
        let is : d ≡ 2 = omega arith in
        let even : m % 2 ≡ 0 = rw is at none in
        omega (arith, even, odd prime)

    -- no odd power of an entry but the first is 1: squared again and again it is an odd power of −1
    odd_powers : (k e : ℕ) → k < most_log prime → pow F (generator prime (suc k)) (suc (e + e)) % d ≡ 1 → ⊥
    unfolding pow felt
    odd_powers zero e h q =
        let even : pow F (generator prime 1) (e + e) ≡ 1 = doubled 0 e h ∙ (ap (λ (x : ℕ). pow F x e) (ends prime).0 ∙ one_pow (felt_laws prime) e) in
        let all : pow F (generator prime 1) (suc (e + e)) ≡ m - 1 = ap (F.mul (generator prime 1)) even ∙ (mul_one (felt_laws prime) (generator prime 1) (generator_below prime 1 h) ∙ (ends prime).1) in
        minus_one (rw all at q)
    odd_powers (suc k) e h q =
        let n = suc (e + e) in
        let x = pow F (generator prime (suc (suc k))) n in
        odd_powers k e (omega arith)
        (rw (← doubled (suc k) n h, pow_add (felt_laws prime) (generator prime (suc (suc k))) n n) (one_squared x q))

    -- so a power of an entry is 1 only if one of the entry before is
    module _ (k e : ℕ) (h : k < most_log prime) (positive : 0 < e) (before : 0 < e / 2 → pow F (generator prime k) (e / 2) % d ≡ 1 → ⊥) where
      by_parity : (b : ℕ) → e % 2 ≡ b → pow F (generator prime (suc k)) e % d ≡ 1 → ⊥
      by_parity zero f r = let parts : e ≡ e / 2 + e / 2 = omega arith in before (omega arith) (rw (ap (pow F (generator prime (suc k))) parts ∙ doubled k (e / 2) h) at r)
      by_parity (suc b) f r = let parts : e ≡ suc (e / 2 + e / 2) = omega arith in odd_powers k (e / 2) h (rw (ap (pow F (generator prime (suc k))) parts) at r)

    -- no power of entry k below 2^k but the first is 1
    powers_apart : (k e : ℕ) → k ≤ most_log prime → 0 < e → e < 2 ^ k → pow F (generator prime k) e % d ≡ 1 → ⊥
    powers_apart zero e h p q r = absurd (omega arith)
    powers_apart (suc k) e h p q r =
        let less : e < 2 ^ k + 2 ^ k = rw two-pow-succ at q in
        by_parity k e h p (λ s. powers_apart k (e / 2) (omega arith) s (omega arith)) (e % 2) refl r

    -- the last entry
    abbrev g : ℕ
    g = generator prime (most_log prime)

    -- its powers below its order are apart
    values_apart : (i j : ℕ) → i < j → j < 2 ^ most_log prime → pow F g i % d ≡ pow F g j % d → ⊥
    values_apart i j h k e =
        let back : ℕ = 2 ^ most_log prime - i in
        let whole : pow F g (back + i) ≡ 1 = let n : back + i ≡ 2 ^ most_log prime = omega arith in rw n (generator_order prime (most_log prime) (omega arith)) in
        let n : back + j ≡ (back + i) + (j - i) = omega arith in
        let laws = felt_laws prime in
        let further : pow F g (back + j) ≡ pow F g (j - i) = rw n (pow_add laws g (back + i) (j - i) ∙ (ap (λ x. F.mul x (pow F g (j - i))) (whole ∙ sym (one_is prime)) ∙ laws.one_mul (pow F g (j - i)) (low_pow laws g (j - i)))) in
        let y = pow F g back in
        let same : y * pow F g j % d ≡ y * pow F g i % d = sym (mul-mod_second y (pow F g j) d) ∙ (ap (λ x. y * x % d) (sym e) ∙ mul-mod_second y (pow F g i) d) in
        let one : pow F g (j - i) % d ≡ 1 =
        ap (λ x. x % d) (sym further ∙ pow_add laws g back j) ∙ (product y (pow F g j) ∙ (same ∙ (sym (product y (pow F g i)) ∙ (ap (λ x. x % d) (sym (pow_add laws g back i) ∙ whole) ∙ mod-eq_of_lt big)))) in
        powers_apart (most_log prime) (j - i) (omega arith) (omega arith) (omega arith) one

    -- so d is no less than its order
    divisor_large : 2 ^ most_log prime ≤ d
    divisor_large = crowded (2 ^ most_log prime) d (λ i. pow F g i % d) (λ i h. mod-lt (pow F g i) (omega arith)) values_apart

-- two as large have a greater product than the modulus
too_large : (prime : Prime) → modulus_of prime < 2 ^ most_log prime * 2 ^ most_log prime
too_large Goldilocks = lit< tt
too_large BabyBear = lit< tt

-- where a product is above one factor, the other is above 1
other_factor : (a c n : ℕ) → a * c ≡ n → a < n → 1 < c
other_factor a zero n e h = omega arith
other_factor a (suc zero) n e h = omega arith
other_factor a (suc (suc c)) n e h = omega arith

module _ (prime : Prime) where
  -- so no divisor below the modulus is above 1
  divisor_one : (a : ℕ) → 0 < a → a < m prime → m prime % a ≡ 0 → a ≡ 1
  divisor_one a p h e = go (dec_le 2 a)
    where
      c : ℕ
      c = m prime / a

      whole : a * c ≡ m prime
      whole = omega (arith, e, mod-add-div (m prime) a)

      go : Dec (2 ≤ a) → a ≡ 1
      go (no k) = omega arith
      go (yes k) =
          let left = divisor_large prime a k (dvd_of_mod-eq-zero a e) in
          let right = divisor_large prime c (other_factor a c (m prime) whole h) (dvd_of_mod-eq-zero c (rw whole at (mul-mod_left a c))) in
          absurd (omega (arith, whole, too_large prime, mul-le-mul left right))

  -- what the rest by a factor tells
  by_rest : (a b : ℕ) → 0 < a → a < m prime → a * b % m prime ≡ 0 → (0 < m prime % a → b % m prime ≡ 0) → Dec (1 ≤ m prime % a) → b % m prime ≡ 0
  by_rest a b p q e less (yes k) = less k
  by_rest a b p q e less (no k) =
      let one : a ≡ 1 = divisor_one a p q (omega arith) in
      ap (λ x. x % m prime) (sym (one-mul b)) ∙ rw one at e

  -- a product is divisible by the modulus only where one factor is: by descent on the other
  euclid : (k a b : ℕ) → a < k → 0 < a → a < m prime → a * b % m prime ≡ 0 → b % m prime ≡ 0
  euclid zero a b h p q e = absurd (omega arith)
  euclid (suc k) a b h p q e =
      let r = m prime % a in
      let less : r < a = mod-lt (m prime) p in
      let c = a * b / m prime in
      let product : m prime * c ≡ a * b = omega (arith, e, mod-add-div (a * b) (m prime)) in
      let scaled : m prime * c * (m prime / a) ≡ a * b * (m prime / a) = ap (λ x. x * (m prime / a)) product in
      let parts : (r + a * (m prime / a)) * b ≡ m prime * b = ap (λ x. x * b) (mod-add-div (m prime) a) in
      let sum : r * b + m prime * (c * (m prime / a)) ≡ m prime * b = omega arith in
      let left : r * b % m prime ≡ 0 = sym (add-mul-mod_self_left (r * b) (m prime) (c * (m prime / a))) ∙ (ap (λ x. x % m prime) sum ∙ mul-mod_right (m prime) b) in
      by_rest a b p q e (λ s. euclid k r b (omega arith) s (omega arith) left) (dec_le 1 r)

  -- where a product of numbers below the modulus is divisible by it, so is the second if the first isn't 0
  pub prime_divides : (a b : ℕ) → 0 < a → a < m prime → a * b % m prime ≡ 0 → b % m prime ≡ 0
  prime_divides a b p q e = euclid (suc a) a b (omega arith) p q e

  -- or one of them is 0
  pub prime_factor : (a b : ℕ) → a < m prime → b < m prime → a * b % m prime ≡ 0 → (a ≡ 0) ⊎ (b ≡ 0)
  prime_factor a b h k e = go (dec_le 1 a)
    where
      go : Dec (1 ≤ a) → (a ≡ 0) ⊎ (b ≡ 0)
      go (no n) = inl (omega arith)
      go (yes p) = inr (sym (mod-eq_of_lt k) ∙ prime_divides a b p h e)

  -- 1 and itself are its only divisors
  pub only_divisors : (d : ℕ) → d ∣ m prime → (d ≡ 1) ⊎ (d ≡ m prime)
  only_divisors d e = go (dec_le 1 d) (dec_le (suc d) (m prime))
    where
      least : d ≤ m prime
      least = let h = large prime in le_of_dvd (omega arith) e

      go : Dec (1 ≤ d) → Dec (suc d ≤ m prime) → (d ≡ 1) ⊎ (d ≡ m prime)
      go (yes k) (yes h) = inl (divisor_one d k h (mod-eq-zero_of_dvd d e))
      go (yes k) (no h) = inr (omega (arith, least))
      go (no k) t = let z : d ≡ 0 = omega arith in inr (z ∙ sym (eq-zero_of_zero-dvd (rw z at e)))
