-- A number's digits: those of a tenth and one more, and how many there are.
use Rattle.std.specs.Prelude.{ℕ, zero, suc, ◌+◌, ◌/◌, ◌%◌, ◌^◌, ◌≤◌, ◌<◌, List, [], ◌∷◌, ◌++◌, ◌≡◌, length}
use Rattle.std.proofs.Common.{sym, ◌∙◌, ap, pow-suc, arith, lt-ltb, le-ltb, length-append, lt_of_lt_of_le, lit≤}
use Rattle.std.proofs.Math.Decide.{dec_le}
use Rattle.std.proofs.Math.Nat.{pow-zero}
use Rattle.text.specs.Text.{digits, decimal, ended, named, space}
use Rattle.text.specs.WritingLaws.{length_ended}

-- one digit, or those of a tenth and one more
module _ (k n : ℕ) where
  digits_one : n < 10 → digits (suc k) n ≡ (48 + n) ∷ []
  unfolding digits
  digits_one h = rw (lt-ltb n 10 h, digits)

  digits_more : 10 ≤ n → digits (suc k) n ≡ digits k (n / 10) ++ ((48 + n % 10) ∷ [])
  unfolding digits
  digits_more h = rw (le-ltb n 10 h, digits)

-- fuel past the number doesn't matter
digits_fuel : (f g n : ℕ) → n < f → n < g → digits f n ≡ digits g n
digits_fuel zero g n h k = absurd (omega arith)
digits_fuel (suc f) zero n h k = absurd (omega arith)
digits_fuel (suc f) (suc g) n h k = go (dec_le 10 n) (digits_fuel f g (n / 10))
  where
    go : Dec (10 ≤ n) → (n / 10 < f → n / 10 < g → digits f (n / 10) ≡ digits g (n / 10)) → digits (suc f) n ≡ digits (suc g) n
    go (yes l) tenth = digits_more f n l ∙ (ap (λ t. t ++ ((48 + n % 10) ∷ [])) (tenth (omega arith) (omega arith)) ∙ sym (digits_more g n l))
    go (no l) tenth = digits_one f n (omega arith) ∙ sym (digits_one g n (omega arith))

pub decimal_one : (n : ℕ) → n < 10 → (48 + n % 10) ∷ [] ≡ decimal n
unfolding decimal
decimal_one n h = let e : n % 10 ≡ n = omega arith in rw e (sym (digits_one n n h))

pub decimal_more : (n : ℕ) → 10 ≤ n → decimal (n / 10) ++ ((48 + n % 10) ∷ []) ≡ decimal n
unfolding decimal
decimal_more n h = ap (λ t. t ++ ((48 + n % 10) ∷ [])) (digits_fuel (suc (n / 10)) n (n / 10) (omega arith) (omega arith)) ∙ sym (digits_more n n h)

pub decimal_longer : (n : ℕ) → 10 ≤ n → length (decimal (n / 10)) + 1 ≡ length (decimal n)
decimal_longer n h = sym (length-append (decimal (n / 10)) ((48 + n % 10) ∷ [])) ∙ ap length (decimal_more n h)

-- a number below 10^k, k from 1, has at most k digits
digits_short : (f k n : ℕ) → n < 10 ^ suc k → length (digits f n) ≤ suc k
unfolding digits
digits_short zero k n h = omega arith
digits_short (suc f) k n h = go k h (dec_le 10 n) (λ j. digits_short f j (n / 10))
  where
    go : (k : ℕ) → n < 10 ^ suc k → Dec (10 ≤ n) → ((j : ℕ) → n / 10 < 10 ^ suc j → length (digits f (n / 10)) ≤ suc j) → length (digits (suc f) n) ≤ suc k
    go k h (no l) tenth = rw (digits_one f n (omega arith)) (omega arith)
    go zero h (yes l) tenth = absurd (omega (arith, pow-suc 10 0, pow-zero 10))
    go (suc k) h (yes l) tenth =
        let s = tenth k (omega (arith, pow-suc 10 (suc k))) in
        rw (digits_more f n l) (omega (arith, length-append (digits f (n / 10)) ((48 + n % 10) ∷ [])))

pub decimal_short : (k n : ℕ) → n < 10 ^ suc k → length (decimal n) ≤ suc k
unfolding decimal
decimal_short k n h = digits_short (suc n) k n h

pub number_short : (k n end : ℕ) → n < 10 ^ suc k → length (ended (decimal n) end) ≤ k + 2
number_short k n end h = let s = decimal_short k n h in omega (arith, length_ended (decimal n) end)

-- a 64-bit word has at most 20 digits
pub word_digits : (n : ℕ) → n < 2 ^ 64 → length (decimal n) ≤ 20
word_digits n h = decimal_short 19 n (lt_of_lt_of_le h (lit≤ tt))

pub word_short : (n end : ℕ) → n < 2 ^ 64 → length (ended (decimal n) end) ≤ 21
word_short n end h = omega (arith, length_ended (decimal n) end, word_digits n h)

pub length_named : (word : List ℕ) (n end : ℕ) → length (named word n end) ≡ length (ended word space) + length (ended (decimal n) end)
unfolding named
length_named word n end = length-append (ended word space) (ended (decimal n) end)

-- a number of at most four digits behind a word
pub named_short : (word : List ℕ) (n end : ℕ) → n < 10000 → length (named word n end) ≤ length word + 6
named_short word n end h = omega (arith, length_named word n end, length_ended word space, number_short 3 n end h)
