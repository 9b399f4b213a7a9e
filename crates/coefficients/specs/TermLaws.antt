-- A column's numbers, as they are worked out.
use Rattle.std.specs.Prelude.{ℕ, zero, suc, ◌+◌, ◌*◌, ◌-◌, ◌^◌, ◌≤◌, ◌<◌, Bool, ◌≡◌, eqb, get_or, take, drop, replicate}
use Rattle.std.proofs.Math.Bool.{true, false, cond, not}
use mathlib.Core.List.{List, [], ◌∷◌, ◌++◌, append-nil, append_assoc}
use Rattle.std.proofs.Math.Path.{refl, ap}
use Rattle.std.proofs.Common.{sym, ◌∙◌, ap₂, arith, drop_of_length-le, drop-cons}
use Rattle.std.proofs.Math.Seq.{take-suc, take-length}
use Rattle.std.proofs.lemmas.List.{drop-replicate}
use Rattle.std.proofs.Math.Nat.{two-pow-succ}
use Rattle.std.proofs.Math.Numerals.{add-one}
use borrow.Author.Tests.{eq-eqb, ne_eqb}
use Rattle.std.proofs.Math.ListN.{length, length-append}
use Rattle.field.specs.Fields.{Field, modulus, coordinate_laws}
use Rattle.ring.specs.Power.{pow, pow_zero, pow_suc, pow_add, pow_mul}
use Rattle.columns.specs.Columns.{log_length, count, others, places_from, support}
use Rattle.dag.specs.Arrays.{up_to, padded}
use Rattle.dag.specs.ArrayLaws.{length_up_to}
use Rattle.coefficients.specs.Terms.{root_inverse, size_inverse, scaled_value, twiddle}
use Rattle.coefficients.specs.Arrays.{placed, squares, copied, twiddles}

up_to_cong : {A : Type 0} (f g : ℕ → A) (n : ℕ) → ((i : ℕ) → f i ≡ g i) → up_to f n ≡ up_to g n
unfolding up_to
up_to_cong f g zero h = refl
up_to_cong f g (suc n) h = ap₂ (λ l x. l ++ (x ∷ [])) (up_to_cong f g n h) (h n)

-- one more at the end, and all
pub up_to_next : (f : ℕ → ℕ) (i v : ℕ) (s t : List ℕ) → s ≡ up_to f i → v ≡ f i → t ≡ s ++ (v ∷ []) → t ≡ up_to f (i + 1)
unfolding up_to
up_to_next f i v s t e q h = rw (add-one i) (h ∙ ap₂ (λ l x. l ++ (x ∷ [])) e q)

pub up_to_all : (f : ℕ → ℕ) (i k : ℕ) (s : List ℕ) → s ≡ up_to f i → i ≤ k → k ≤ i → s ≡ up_to f k
up_to_all f i k s e h j = let q : i ≡ k = omega arith in e ∙ ap (up_to f) q

pub up_to_short : (f : ℕ → ℕ) (i n : ℕ) (s : List ℕ) → s ≡ up_to f i → i < n → length s < n
up_to_short f i n s e h = omega (arith, ap length e, length_up_to f i)

-- the first n entries
pub up_to_entries : (c : List ℕ) (n : ℕ) → n ≤ length c → up_to (λ i. get_or c i 0) n ≡ take n c
unfolding up_to
up_to_entries c zero h = refl
up_to_entries c (suc n) h = ap (λ l. l ++ (get_or c n 0 ∷ [])) (up_to_entries c n (omega arith)) ∙ sym (take-suc c n 0 h)

-- a column copied to the front of a blank array
pub copied_is : (c row : List ℕ) → row ≡ c → row ++ drop (length c) (replicate 128 0) ≡ copied c
unfolding copied padded
copied_is c row e =
    ap₂ (λ l r. l ++ r) e (drop-replicate {X = ℕ} (length c) 128 0)
    ∙ ap (λ l. l ++ replicate {A = ℕ} (128 - length l) 0) (sym (up_to_entries c (length c) (omega arith) ∙ take-length c))

-- the places found before place j, and those from there on
module _ (c : List ℕ) (j : ℕ) (h : j < length c) where
  places_next : places_from (λ v. not (eqb v 0)) j (drop j c) ≡ placed j (get_or c j 0) ++ places_from (λ v. not (eqb v 0)) (j + 1) (drop (j + 1) c)
  unfolding places_from placed
  places_next = rw (drop-cons c j 0 h, add-one j) (go (eqb (get_or c j 0) 0) (places_from (λ v. not (eqb v 0)) (suc j) (drop (suc j) c)))
    where
      go : (t : Bool) (l : List ℕ) → cond (not t) (j ∷ l) l ≡ cond t [] (j ∷ []) ++ l
      go true l = refl
      go false l = refl

  pub place_next : (ps qs t : List ℕ) → qs ≡ ps ++ placed j (get_or c j 0) → ps ++ places_from (λ v. not (eqb v 0)) j (drop j c) ≡ t → qs ++ places_from (λ v. not (eqb v 0)) (j + 1) (drop (j + 1) c) ≡ t
  place_next ps qs t e inv = rw (e, append_assoc ps (placed j (get_or c j 0)) (places_from (λ v. not (eqb v 0)) (j + 1) (drop (j + 1) c)), ← places_next) inv

  -- a nonzero entry needs one more word
  pub place_room : (ps : List ℕ) (n k : ℕ) → length ps ≡ n → ps ++ places_from (λ v. not (eqb v 0)) j (drop j c) ≡ support c → length (support c) ≤ k → (get_or c j 0 ≡ 0 → ⊥) → n < k
  unfolding placed
  place_room ps n k e inv le nz =
      let one = rw (places_next, ne_eqb (get_or c j 0) 0 nz) at inv in
      let two = length-append ps (j ∷ places_from (λ v. not (eqb v 0)) (j + 1) (drop (j + 1) c)) in
      omega (arith, ap length one)

pub place_end : (c ps t : List ℕ) (j : ℕ) → length c ≤ j → ps ++ places_from (λ v. not (eqb v 0)) j (drop j c) ≡ t → ps ≡ t
unfolding places_from
place_end c ps t j h inv = rw (drop_of_length-le c {i = j} h, append-nil ps) at inv

-- the places found with place j tested
module _ (ps : List ℕ) (j v : ℕ) where
  pub place_none : v ≡ 0 → ps ≡ ps ++ placed j v
  unfolding placed
  place_none e = rw (eq-eqb v 0 e) (sym (append-nil ps))

  pub place_one : (qs : List ℕ) → (v ≡ 0 → ⊥) → qs ≡ ps ++ (j ∷ []) → qs ≡ ps ++ placed j v
  unfolding placed
  place_one qs e q = rw (ne_eqb v 0 e) q

-- each place is inside, and there are as many as nonzero entries
places_inside : (c : List ℕ) (i k : ℕ) → k < length (places_from (λ v. not (eqb v 0)) i c) → get_or (places_from (λ v. not (eqb v 0)) i c) k 0 < i + length c
unfolding places_from
places_inside [] i k h = absurd (omega arith)
places_inside (v ∷ c) i k h = go (eqb v 0) k (λ k l. places_inside c (suc i) k l) h
  where
    go : (t : Bool) (k : ℕ) → ((k : ℕ) → k < length (places_from (λ v. not (eqb v 0)) (suc i) c) → get_or (places_from (λ v. not (eqb v 0)) (suc i) c) k 0 < suc i + length c)
        → k < length (cond (not t) (i ∷ places_from (λ v. not (eqb v 0)) (suc i) c) (places_from (λ v. not (eqb v 0)) (suc i) c))
        → get_or (cond (not t) (i ∷ places_from (λ v. not (eqb v 0)) (suc i) c) (places_from (λ v. not (eqb v 0)) (suc i) c)) k 0 < i + suc (length c)
    go true k rest h = omega (arith, rest k h)
    go false zero rest h = omega arith
    go false (suc k) rest h = omega (arith, rest k (omega arith))

pub support_inside : (c ps : List ℕ) (k : ℕ) → ps ≡ support c → k < length ps → get_or ps k 0 < length c
support_inside c ps k e h = rw e (omega (arith, places_inside c 0 k (rw (← e) h)))

places_many : (c : List ℕ) (i : ℕ) → length (places_from (λ v. not (eqb v 0)) i c) + count 0 c ≡ length c
unfolding places_from count
places_many [] i = refl
places_many (v ∷ c) i = go (eqb v 0) (places_many c (suc i))
  where
    go : (t : Bool) → length (places_from (λ v. not (eqb v 0)) (suc i) c) + count 0 c ≡ length c
        → length (cond (not t) (i ∷ places_from (λ v. not (eqb v 0)) (suc i) c) (places_from (λ v. not (eqb v 0)) (suc i) c)) + cond t (suc (count 0 c)) (count 0 c) ≡ suc (length c)
    go true e = omega arith
    go false e = omega arith

pub length_support : (c : List ℕ) → length (support c) ≡ others c 0
length_support c = omega (arith, places_many c 0)

module _ (field : Field) where
  pub pow_start : (a : ℕ) → 1 ≡ pow field.coordinates a 0
  pow_start a = sym (pow_zero (coordinate_laws field) a ∙ field.one_is)

  pub pow_next : (a x j r : ℕ) → x ≡ pow field.coordinates a j → r ≡ field.coordinates.mul a x → r ≡ pow field.coordinates a (j + 1)
  pow_next a x j r ex er = rw (add-one j) (er ∙ (ap (field.coordinates.mul a) ex ∙ sym (pow_suc (coordinate_laws field) a j)))

  -- squaring
  pub square_start : (a : ℕ) → a < modulus field → a ≡ pow field.coordinates a (2 ^ 0)
  square_start a h = sym (Rattle.ring.specs.Power.pow_one (coordinate_laws field) a h)

  pub square_next : (a x i r : ℕ) → x ≡ pow field.coordinates a (2 ^ i) → r ≡ field.coordinates.mul x x → r ≡ pow field.coordinates a (2 ^ (i + 1))
  square_next a x i r ex er = rw (add-one i, two-pow-succ i) (er ∙ (ap₂ field.coordinates.mul ex ex ∙ sym (pow_add (coordinate_laws field) a (2 ^ i) (2 ^ i))))

  -- the twiddles of the term at place j
  pub row_told : (c : List ℕ) (k j v b L : ℕ) (row : List ℕ) → j ≡ get_or (support c) k 0 → v ≡ root_inverse field c → b ≡ pow field.coordinates v j → L ≡ log_length c → row ≡ squares field.coordinates b L
      → row ≡ twiddles field c k
  unfolding squares twiddles twiddle
  row_told c k j v b L row ej ev eb eL er =
      er ∙ (ap (λ n. squares field.coordinates b n) eL ∙ ap (padded 0 7) (up_to_cong (λ i. pow field.coordinates b (2 ^ i)) (λ i. pow field.coordinates (root_inverse field c) (get_or (support c) k 0 * 2 ^ i)) (log_length c) one))
    where
      one : (i : ℕ) → pow field.coordinates b (2 ^ i) ≡ pow field.coordinates (root_inverse field c) (get_or (support c) k 0 * 2 ^ i)
      one i = rw (eb, ev, ej) (sym (pow_mul (coordinate_laws field) (root_inverse field c) (get_or (support c) k 0) (2 ^ i)))

  -- the scaled value of the term at a place of the list ps
  pub value_told : (c ps : List ℕ) (k s r : ℕ) → ps ≡ support c → s ≡ size_inverse field c → r ≡ field.coordinates.mul (get_or c (get_or ps k 0) 0) s → r ≡ scaled_value field c (get_or (support c) k 0)
  unfolding scaled_value
  value_told c ps k s r ep es er = er ∙ rw (ep, es)
