-- Laws of key numbers.
use Rattle.std.specs.Prelude.{ℕ, zero, suc, ◌+◌, ◌*◌, ◌/◌, ◌%◌, ◌^◌, ◌<◌, ◌≤◌, List, [], ◌∷◌, Bool, true, ◌&&◌, ◌≡◌, refl, leb, ltb, eqb, get_or}
use Rattle.std.proofs.Common.{sym, ◌∙◌, arith, lt-ltb, le-ltb, ltb-true, leb-true, ne_eqb}
use Rattle.dag.specs.CaseLaws.{and_true}
use Rattle.dag.specs.Keys.{field_counts, key_number, is_key, Fields}

-- what lies below a variant stays under 2^16 for each field
abbrev pub limit : ℕ → ℕ
limit n = 2 ^ (16 * n)

-- a number that c fields hold, by their count
module _ (c n : ℕ) where
  pub no_field : c ≡ 0 → eqb n 0 ≡ ltb n (limit c)
  no_field e = rw e (go n)
    where
      go : (n : ℕ) → eqb n 0 ≡ ltb n 1
      go zero = refl
      go (suc n) = ne_eqb (suc n) 0 (omega arith) ∙ sym (le-ltb (suc n) 1 (omega arith))

  pub one_field : c ≡ 1 → ltb n 65536 ≡ ltb n (limit c)
  one_field e = rw e refl

  pub two_fields : c ≡ 2 → ltb n 4294967296 ≡ ltb n (limit c)
  two_fields e = rw e refl

  pub all_fields : (c ≡ 0 → ⊥) → (c ≡ 1 → ⊥) → (c ≡ 2 → ⊥) → c ≤ 3 → n < 2 ^ 48 → true ≡ ltb n (limit c)
  all_fields a b d h k = let e : c ≡ 3 = omega arith in rw e (sym (lt-ltb n 281474976710656 k))

-- no entry of a table is above k, tested entry by entry
every_most : ℕ → List ℕ → Bool
every_most k [] = true
every_most k (x ∷ l) = leb x k && every_most k l

most_at : (k : ℕ) (l : List ℕ) → every_most k l ≡ true → (i : ℕ) → get_or l i 0 ≤ k
unfolding every_most
most_at k [] e i = omega arith
most_at k (x ∷ l) e zero = leb-true x k (and_true (leb x k) (every_most k l) e).0
most_at k (x ∷ l) e (suc i) = most_at k l (and_true (leb x k) (every_most k l) e).1 i

pub three_fields : (v : ℕ) → get_or field_counts v 0 ≤ 3
unfolding every_most
three_fields v = most_at 3 field_counts refl v

-- c fields, and the number below a variant that they make
module _ (f₁ f₂ f₃ : ℕ) (a : f₁ < 65536) (b : f₂ < 65536) (d : f₃ < 65536) where
  fields_under : (c : ℕ) → c ≤ 3 → (c ≤ 0 → f₁ ≡ 0) → (c ≤ 1 → f₂ ≡ 0) → (c ≤ 2 → f₃ ≡ 0) → f₁ + f₂ * 2 ^ 16 + f₃ * 2 ^ 32 < limit c
  fields_under zero h p q r = let x = p (omega arith) in let y = q (omega arith) in let z = r (omega arith) in omega arith
  fields_under (suc zero) h p q r = let y = q (omega arith) in let z = r (omega arith) in omega arith
  fields_under (suc (suc zero)) h p q r = let z = r (omega arith) in omega arith
  fields_under (suc (suc (suc zero))) h p q r = omega arith
  fields_under (suc (suc (suc (suc c)))) h p q r = absurd (omega arith)

  under_fields : (c : ℕ) → c ≤ 3 → f₁ + f₂ * 2 ^ 16 + f₃ * 2 ^ 32 < limit c → (c ≤ 0 → f₁ ≡ 0) × (c ≤ 1 → f₂ ≡ 0) × (c ≤ 2 → f₃ ≡ 0)
  under_fields zero h u = (λ p. omega arith, λ p. omega arith, λ p. omega arith)
  under_fields (suc zero) h u = (λ p. omega arith, λ p. omega arith, λ p. omega arith)
  under_fields (suc (suc zero)) h u = (λ p. omega arith, λ p. omega arith, λ p. omega arith)
  under_fields (suc (suc (suc zero))) h u = (λ p. omega arith, λ p. omega arith, λ p. omega arith)
  under_fields (suc (suc (suc (suc c)))) h u = absurd (omega arith)

-- a key's number is a number that a key has
pub key_number_lem : (v f₁ f₂ f₃ : ℕ) → Fields v f₁ f₂ f₃ → is_key (key_number v f₁ f₂ f₃) ≡ true
unfolding is_key key_number
key_number_lem v f₁ f₂ f₃ h =
    let a : v < 22 = h.variant in
    let b : f₁ < 65536 = omega (arith, h.first) in
    let c : f₂ < 65536 = omega (arith, h.second) in
    let d : f₃ < 65536 = omega (arith, h.third) in
    let high : (v * 2 ^ 48 + f₁ + f₂ * 2 ^ 16 + f₃ * 2 ^ 32) / 2 ^ 48 ≡ v = omega arith in
    let low : (v * 2 ^ 48 + f₁ + f₂ * 2 ^ 16 + f₃ * 2 ^ 32) % 2 ^ 48 ≡ f₁ + f₂ * 2 ^ 16 + f₃ * 2 ^ 32 = omega arith in
    rw (high, low, lt-ltb v 22 a) (lt-ltb (f₁ + f₂ * 2 ^ 16 + f₃ * 2 ^ 32) (limit (get_or field_counts v 0))
    (fields_under f₁ f₂ f₃ b c d (get_or field_counts v 0) (three_fields v)
    (λ q. h.no_first (omega arith)) (λ q. h.no_second (omega arith)) (λ q. h.no_third (omega arith))))

-- and every such number is a key's
pub number_key : (k : ℕ) → is_key k ≡ true → k < 2 ^ 64 → Fields (k / 2 ^ 48) (k % 2 ^ 16) (k / 2 ^ 16 % 2 ^ 16) (k / 2 ^ 32 % 2 ^ 16) × (key_number (k / 2 ^ 48) (k % 2 ^ 16) (k / 2 ^ 16 % 2 ^ 16) (k / 2 ^ 32 % 2 ^ 16) ≡ k)
unfolding is_key key_number
number_key k e h =
    let both = and_true (ltb (k / 2 ^ 48) 22) (ltb (k % 2 ^ 48) (limit (get_or field_counts (k / 2 ^ 48) 0))) e in
    let parts : k % 2 ^ 16 + k / 2 ^ 16 % 2 ^ 16 * 2 ^ 16 + k / 2 ^ 32 % 2 ^ 16 * 2 ^ 32 ≡ k % 2 ^ 48 = omega arith in
    let zeros = under_fields (k % 2 ^ 16) (k / 2 ^ 16 % 2 ^ 16) (k / 2 ^ 32 % 2 ^ 16) (omega arith) (omega arith) (omega arith) (get_or field_counts (k / 2 ^ 48) 0) (three_fields (k / 2 ^ 48))
    (rw parts (ltb-true (k % 2 ^ 48) (limit (get_or field_counts (k / 2 ^ 48) 0)) both.1)) in (
      record {
        variant = ltb-true (k / 2 ^ 48) 22 both.0;
        first = omega arith;
        second = omega arith;
        third = omega arith;
        no_first = λ q. zeros.0 (omega arith);
        no_second = λ q. zeros.1 (omega arith);
        no_third = λ q. zeros.2 (omega arith);
      },
      omega arith,
    )

-- different keys have different numbers
pub numbers_tell : (v f₁ f₂ f₃ w g₁ g₂ g₃ : ℕ) → Fields v f₁ f₂ f₃ → Fields w g₁ g₂ g₃ → key_number v f₁ f₂ f₃ ≡ key_number w g₁ g₂ g₃
    → (v ≡ w) × (f₁ ≡ g₁) × (f₂ ≡ g₂) × (f₃ ≡ g₃)
unfolding key_number
numbers_tell v f₁ f₂ f₃ w g₁ g₂ g₃ h k e = (omega arith, omega arith, omega arith, omega arith)

-- a key's number is a word
pub key_word : (k : ℕ) → is_key k ≡ true → k < 2 ^ 64
unfolding is_key
key_word k e =
    let v = ltb-true (k / 2 ^ 48) 22 (and_true (ltb (k / 2 ^ 48) 22) (ltb (k % 2 ^ 48) (2 ^ (16 * get_or field_counts (k / 2 ^ 48) 0))) e).0 in
    omega arith
