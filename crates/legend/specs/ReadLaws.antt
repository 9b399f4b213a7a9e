-- What is read back from a text: numbers from their digits, words from what parts them.
use Rattle.std.specs.Prelude.{ℕ, zero, suc, ◌+◌, ◌-◌, ◌*◌, ◌/◌, ◌%◌, ◌<◌, Bool, true, List, [], ◌∷◌, ◌++◌, ◌≡◌, refl, ltb, ℤ, pos, negsuc}
use Rattle.std.specs.List.{list_all}
use Rattle.std.proofs.Common.{sym, ◌∙◌, ap, arith, lt-ltb, eq-eqb, ne_eqb, ltb-true, true≢false}
use Rattle.std.proofs.Math.Decide.{dec_le}
use Rattle.std.proofs.lemmas.List.{append_cancel_left}
use Rattle.std.proofs.lemmas.List.Folds.{list_all-append}
use Rattle.dag.specs.CaseLaws.{and_true}
use Rattle.text.specs.Text.{ascii, decimal, integer}
use Rattle.text.specs.DecimalLaws.{decimal_one, decimal_more}
use Rattle.legend.specs.Lines.{grow, cut}

-- every byte is above e
abbrev pub above : ℕ → List ℕ → Bool
above e w = list_all (λ b. ltb e b) w

pub above_both : (e : ℕ) (u v : List ℕ) → above e u ≡ true → above e v ≡ true → above e (u ++ v) ≡ true
above_both e u v h k = rw (list_all-append (λ b. ltb e b) u v, h, k)

-- the first piece of a text
pub cut_piece : (e : ℕ) (w s : List ℕ) → above e w ≡ true → cut e (w ++ (e ∷ s)) ≡ w ∷ cut e s
unfolding cut grow
cut_piece e [] s h = rw (eq-eqb e e refl)
cut_piece e (b ∷ w) s h =
    let both = and_true (ltb e b) (above e w) h in
    let l = ltb-true e b both.0 in
    rw (ne_eqb b e (λ q. omega arith), cut_piece e w s both.1)

-- words that a byte ends are told from what is behind it
pub parted : (e : ℕ) (u v r s : List ℕ) → above e u ≡ true → above e v ≡ true → u ++ (e ∷ r) ≡ v ++ (e ∷ s) → (u ≡ v) × (r ≡ s)
parted e u v r s h k q =
    let cuts : u ∷ cut e r ≡ v ∷ cut e s = sym (cut_piece e u r h) ∙ (ap (cut e) q ∙ cut_piece e v s k) in
    let same : u ≡ v = cc in
    let tails : e ∷ r ≡ e ∷ s = append_cancel_left u (e ∷ r) (e ∷ s) (q ∙ ap (λ t. t ++ (e ∷ s)) (sym same)) in
    (same, cc)

-- what holds of one digit, and of a text and one digit more, holds of every number's text
by_digits : (P : ℕ → List ℕ → Type 0) → ((n : ℕ) → n < 10 → P n ((48 + n % 10) ∷ [])) → ((n : ℕ) (w : List ℕ) → P (n / 10) w → P n (w ++ ((48 + n % 10) ∷ []))) → (n : ℕ) → P n (decimal n)
by_digits P one more n = go (suc n) n (omega arith)
  where
    go : (k n : ℕ) → n < k → P n (decimal n)
    go zero n h = absurd (omega arith)
    go (suc k) n h =
        elim (dec_le 10 n) [
          | yes l ↦ rw (← (decimal_more n l)) (more n (decimal (n / 10)) (go k (n / 10) (omega arith)))
          | no l ↦ let low : n < 10 = omega arith in rw (← (decimal_one n low)) (one n low)
        ]

-- digits are bytes from 48
pub decimal_above : (e n : ℕ) → e < 48 → above e (decimal n) ≡ true
decimal_above e n h =
    let digit : (n : ℕ) → above e ((48 + n % 10) ∷ []) ≡ true = λ n. rw (lt-ltb e (48 + n % 10) (omega arith)) in
    by_digits (λ n w. above e w ≡ true) (λ n l. digit n) (λ n w before. above_both e w ((48 + n % 10) ∷ []) before (digit n)) n

pub integer_above : (e : ℕ) (z : ℤ) → e < 45 → above e (integer z) ≡ true
unfolding integer ascii
integer_above e (pos n) h = decimal_above e n (omega arith)
integer_above e (negsuc n) h = rw (lt-ltb e 45 h, decimal_above e (suc n) (omega arith))

-- the number that digits write, behind the number n
value : ℕ → List ℕ → ℕ
value n [] = n
value n (d ∷ w) = value (10 * n + (d - 48)) w

value_snoc : (n : ℕ) (w : List ℕ) (d : ℕ) → value n (w ++ (d ∷ [])) ≡ 10 * value n w + (d - 48)
unfolding value
value_snoc n [] d = refl
value_snoc n (c ∷ w) d = value_snoc (10 * n + (c - 48)) w d

value_decimal : (n : ℕ) → value 0 (decimal n) ≡ n
unfolding value
value_decimal n = by_digits (λ n w. value 0 w ≡ n) (λ n l. omega arith) (λ n w tenth. rw (value_snoc 0 w (48 + n % 10), tenth) (omega arith)) n

-- no two numbers have the same text
pub decimal_same : (a b : ℕ) → decimal a ≡ decimal b → a ≡ b
decimal_same a b e = sym (value_decimal a) ∙ (ap (value 0) e ∙ value_decimal b)

-- no digit is a minus sign
digit_first : (n : ℕ) (w : List ℕ) → ¬ (decimal n ≡ 45 ∷ w)
digit_first n w e = true≢false (sym (decimal_above 45 n (omega arith)) ∙ ap (above 45) e)

pub integer_same : (y z : ℤ) → integer y ≡ integer z → y ≡ z
unfolding integer ascii
integer_same (pos a) (pos b) e = ap pos (decimal_same a b e)
integer_same (pos a) (negsuc b) e = absurd (digit_first a (decimal (suc b)) e)
integer_same (negsuc a) (pos b) e = absurd (digit_first b (decimal (suc a)) (sym e))
integer_same (negsuc a) (negsuc b) e = let h : decimal (suc a) ≡ decimal (suc b) = cc in ap negsuc (let q = decimal_same (suc a) (suc b) h in omega arith)
