-- The generators of `two_adic_generator`: entry k generates the subgroup of order 2^k, 33 of them modulo p and 28 modulo q.
use Rattle.std.specs.Prelude.{◌≡◌, ℕ, zero, suc, ◌+◌, ◌-◌, ◌*◌, ◌/◌, ◌^◌, ◌<◌, ◌≤◌, Bool, ◌&&◌, ◌||◌, T, List, [], ◌∷◌, length, ◌==◌, nat_le, nat_lt, slice_index, refl}
use Rattle.std.proofs.Common.{sym, ◌∙◌, ap, ap₂, arith, two-mul, add-one, lit<}
use Rattle.std.proofs.Math.Nat.{two-pow-succ}
use Rattle.std.proofs.Math.Dec.{eqb→eq, ltb→lt}
use Rattle.std.proofs.Math.Facts.{and_yes}
use Rattle.std.proofs.lemmas.Bool.{lt-leb}
use Rattle.ring.specs.Power.{pow, pow_add, pow_one, square_pow, pow_inverse}
use Rattle.field.specs.Field.{p, modulus_of, felt, felt_laws}
use Rattle.field.specs.Table.{every, at}
use Rattle.field.specs.declared.Prime.{Prime}
use Rattle.field.specs.declared.Prime.TheVariants.{Goldilocks, BabyBear}

unfoldable pub generators : Prime → List ℕ
generators Goldilocks =
    1 ∷ 18446744069414584320 ∷ 281474976710656 ∷ 18446744069397807105 ∷ 17293822564807737345 ∷
    70368744161280 ∷ 549755813888 ∷ 17870292113338400769 ∷ 13797081185216407910 ∷ 1803076106186727246 ∷
    11353340290879379826 ∷ 455906449640507599 ∷ 17492915097719143606 ∷ 1532612707718625687 ∷
    16207902636198568418 ∷ 17776499369601055404 ∷ 6115771955107415310 ∷ 12380578893860276750 ∷
    9306717745644682924 ∷ 18146160046829613826 ∷ 3511170319078647661 ∷ 17654865857378133588 ∷
    5416168637041100469 ∷ 16905767614792059275 ∷ 9713644485405565297 ∷ 5456943929260765144 ∷
    17096174751763063430 ∷ 1213594585890690845 ∷ 6414415596519834757 ∷ 16116352524544190054 ∷
    9123114210336311365 ∷ 4614640910117430873 ∷ 1753635133440165772 ∷ []
generators BabyBear =
    1 ∷ 2013265920 ∷ 1728404513 ∷ 1592366214 ∷ 196396260 ∷ 760005850 ∷ 1721589904 ∷ 397765732 ∷
    1732600167 ∷ 1753498361 ∷ 341742893 ∷ 1340477990 ∷ 1282623253 ∷ 298008106 ∷ 1657000625 ∷
    2009781145 ∷ 1421947380 ∷ 1286330022 ∷ 1559589183 ∷ 1049899240 ∷ 195061667 ∷ 414040701 ∷
    570250684 ∷ 1267047229 ∷ 1003846038 ∷ 1149491290 ∷ 975630072 ∷ 440564289 ∷ []

unfoldable pub generator : Prime → ℕ → ℕ
generator prime k = slice_index (generators prime) k

-- the last entry's place: its order is 2^most_log
abbrev pub most_log : Prime → ℕ
most_log Goldilocks = 32
most_log BabyBear = 27

pub columns_fit : (prime : Prime) → 7 ≤ most_log prime
columns_fit Goldilocks = omega arith
columns_fit BabyBear = omega arith

pub log_fits : (prime : Prime) → most_log prime ≤ 32
log_fits Goldilocks = omega arith
log_fits BabyBear = omega arith

-- An entry is below the prime, and the square of the entry behind it, of which the last has none.
good : Prime → ℕ → ℕ → Bool
good prime k x = nat_lt x (modulus_of prime) && (nat_le (most_log prime) k || x == (felt prime).mul (generator prime (suc k)) (generator prime (suc k)))

-- computed once over each table
all_good : (prime : Prime) → T (every (good prime) 0 (generators prime))
unfolding good generator generators felt
all_good Goldilocks = tt
all_good BabyBear = tt

entries : (prime : Prime) → length (generators prime) ≡ suc (most_log prime)
unfolding generators
entries Goldilocks = refl
entries BabyBear = refl

module _ (prime : Prime) where
  entry : (k : ℕ) → k ≤ most_log prime → T (good prime k (generator prime k))
  unfolding generator
  entry k h = at (good prime) (generators prime) (all_good prime) k (let e = entries prime in omega arith)

  pub generator_below : (k : ℕ) → k ≤ most_log prime → generator prime k < modulus_of prime
  unfolding good
  generator_below k h = ltb→lt (generator prime k) (modulus_of prime) (and_yes (nat_lt (generator prime k) (modulus_of prime)) _ (entry k h)).0

  below_last : (k : ℕ) (t : Bool) → k < most_log prime → T (nat_le (most_log prime) k || t) → T t
  below_last k t h = rw (lt-leb (most_log prime) k h) (λ x. x)

  square : (k : ℕ) → k < most_log prime → generator prime k ≡ (felt prime).mul (generator prime (suc k)) (generator prime (suc k))
  unfolding good
  square k h =
      eqb→eq (generator prime k) ((felt prime).mul (generator prime (suc k)) (generator prime (suc k)))
      (below_last k _ h (and_yes (nat_lt (generator prime k) (modulus_of prime)) _ (entry k (omega arith))).1)

  pub generator_square : (k : ℕ) → k < most_log prime → generator prime k ≡ (felt prime).mul (generator prime (k + 1)) (generator prime (k + 1))
  generator_square k h = rw (add-one k) (square k h)

  -- An even power of an entry is half that power of the entry before it.
  halved : (k n : ℕ) → k < most_log prime → pow (felt prime) (generator prime (suc k)) (n + n) ≡ pow (felt prime) (generator prime k) n
  halved k n h = sym (square_pow (felt_laws prime) (generator prime (suc k)) n) ∙ ap (λ (x : ℕ). pow (felt prime) x n) (sym (square k h))

  -- Entry k is the power 2^(most_log − k) of the last.
  pub generator_power : (k : ℕ) → k ≤ most_log prime → generator prime k ≡ pow (felt prime) (generator prime (most_log prime)) (2 ^ (most_log prime - k))
  generator_power k h = go (most_log prime - k) k (omega arith)
    where
      go : (d k : ℕ) → k + d ≡ most_log prime → generator prime k ≡ pow (felt prime) (generator prime (most_log prime)) (2 ^ d)
      go zero k e =
          ap (generator prime) (omega arith)
          ∙ sym (pow_one (felt_laws prime) (generator prime (most_log prime)) (generator_below (most_log prime) (omega arith)))
      go (suc d) k e =
          square k (omega arith)
          ∙ ap₂ (felt prime).mul (go d (suc k) (omega arith)) (go d (suc k) (omega arith))
          ∙ sym (pow_add (felt_laws prime) (generator prime (most_log prime)) (2 ^ d) (2 ^ d))
          ∙ ap (pow (felt prime) (generator prime (most_log prime))) (sym (two-pow-succ d))

-- Entries 0, 1, 8 and 32 of the public table modulo p.
pub generator_ends :
    (generator Goldilocks 0 ≡ 1) × (generator Goldilocks 1 ≡ p - 1) × (generator Goldilocks 8 ≡ 0xbf79143ce60ca966)
    × (generator Goldilocks 32 ≡ 1753635133440165772)
unfolding generator generators
generator_ends = (refl, refl, refl, refl)

-- the first two entries are 1 and −1
first_is : (prime : Prime) → (generator prime 0 ≡ 1) × (generator prime 1 ≡ modulus_of prime - 1)
unfolding generator generators
first_is Goldilocks = (refl, refl)
first_is BabyBear = (refl, refl)

module _ (prime : Prime) where
  -- Entry k has order 2^k: its power 2^k is 1, and half that power is −1.
  pub generator_order : (k : ℕ) → k ≤ most_log prime → pow (felt prime) (generator prime k) (2 ^ k) ≡ 1
  generator_order zero h =
      pow_one (felt_laws prime) (generator prime 0) (generator_below prime 0 h) ∙ (first_is prime).0
  generator_order (suc k) h =
      ap (pow (felt prime) (generator prime (suc k))) (two-pow-succ k) ∙ halved prime k (2 ^ k) h ∙ generator_order k (omega arith)

  pub generator_primitive : (k : ℕ) → k < most_log prime → pow (felt prime) (generator prime (k + 1)) (2 ^ k) ≡ modulus_of prime - 1
  generator_primitive zero h =
      pow_one (felt_laws prime) (generator prime 1) (generator_below prime 1 h) ∙ (first_is prime).1
  generator_primitive (suc k) h =
      ap (λ (n : ℕ). pow (felt prime) (generator prime n) (2 ^ suc k)) (add-one (suc k))
      ∙ ap (pow (felt prime) (generator prime (suc (suc k)))) (two-pow-succ k)
      ∙ halved prime (suc k) (2 ^ k) h
      ∙ ap (λ (n : ℕ). pow (felt prime) (generator prime n) (2 ^ k)) (sym (add-one k))
      ∙ generator_primitive k (omega arith)

-- The power 2^n − 1 of seven, by squaring.
step : ℕ → ℕ
step x = (felt Goldilocks).mul 7 ((felt Goldilocks).mul x x)

sevens : ℕ → ℕ
sevens zero = 1
sevens (suc n) = step (sevens n)

ones : ℕ → ℕ
ones zero = 0
ones (suc n) = suc (2 * ones n)

sevens_pow : (n : ℕ) → sevens n ≡ pow (felt Goldilocks) 7 (ones n)
unfolding sevens step ones pow felt
sevens_pow zero = refl
sevens_pow (suc n) =
    ap step (sevens_pow n)
    ∙ ap (λ (x : ℕ). (felt Goldilocks).mul 7 x) (sym (pow_add (felt_laws Goldilocks) 7 (ones n) (ones n)) ∙ ap (pow (felt Goldilocks) 7) (sym (two-mul (ones n))))

last_by_squaring : generator Goldilocks 32 ≡ sevens 32
unfolding generator generators sevens step felt
last_by_squaring = refl

exponent : ones 32 ≡ (p - 1) / 2 ^ 32
unfolding ones
exponent = refl

-- The last entry modulo p is the power (p − 1) / 2^32 of seven; modulo q it is 31^15.
pub generator_last : generator Goldilocks 32 ≡ pow (felt Goldilocks) 7 ((p - 1) / 2 ^ 32)
generator_last = last_by_squaring ∙ sevens_pow 32 ∙ ap (pow (felt Goldilocks) 7) exponent

pub generator_last_q : generator BabyBear 27 ≡ pow (felt BabyBear) 31 15
unfolding generator generators pow felt
generator_last_q = refl

-- (Twelve) The generator of order 2^k modulo q is 31^15 raised to 2^(27−k).
pub generator_q : (k : ℕ) → k ≤ 27 → generator BabyBear k ≡ pow (felt BabyBear) (pow (felt BabyBear) 31 15) (2 ^ (27 - k))
generator_q k h = generator_power BabyBear k h ∙ ap (λ (x : ℕ). pow (felt BabyBear) x (2 ^ (27 - k))) generator_last_q

-- One half; the powers of two and of one half are inverses.
abbrev pub half : Prime → ℕ
half prime = modulus_of prime / 2 + 1

two_halves : (prime : Prime) → (felt prime).mul 2 (half prime) ≡ (felt prime).one
unfolding felt
two_halves Goldilocks = refl
two_halves BabyBear = refl

pub one_is : (prime : Prime) → (felt prime).one ≡ 1
unfolding felt
one_is prime = refl

pub half_inverse : (prime : Prime) (n : ℕ) → (felt prime).mul (pow (felt prime) 2 n) (pow (felt prime) (half prime) n) ≡ 1
half_inverse prime n = pow_inverse (felt_laws prime) 2 (half prime) (two_halves prime) n ∙ one_is prime

pub half_below : (prime : Prime) → half prime < modulus_of prime
half_below Goldilocks = lit< tt
half_below BabyBear = lit< tt
