-- Laws of a list's values, over any ring and any element given to each key.
use Prim.Native.Nat.{ℕ, zero, suc, ◌<◌, ◌≤◌}
use mathlib.Core.List.{List, [], ◌∷◌, ◌++◌}
use Rattle.std.specs.Prelude.{◌≡◌, ◌⊎◌, get_or}
use Rattle.std.proofs.Math.Path.{refl, sym, ap, ap₂, fun_ext}
use Rattle.std.proofs.Common.{◌∙◌, inl, inr, le_refl, arith}
use Rattle.std.proofs.Math.Nat.{le-suc_iff}
use Rattle.std.proofs.Math.Decide.{dec_le}
use Rattle.std.proofs.Math.ListN.{length, get_or-append, get_or-eq_default}
use Rattle.std.proofs.Math.Seq.{get_or_at}
use Rattle.ring.specs.Ring.{Ops, Laws}
use Rattle.field.specs.declared.QuadFelt.{QuadFelt}
use Rattle.dag.specs.Nodes.{at, rename}
use Rattle.dag.specs.NodeLaws.{at_left, at_last, length_snoc}
use Rattle.dag.specs.CaseLaws.{below_suc_elim}
use Rattle.dag.specs.WellFormed.{Fine, WellFormed}
use Rattle.dag.specs.declared.NodeKind.{NodeKind}
use Rattle.dag.specs.declared.NodeKind.TheVariants.{Input, Constant, Add, Sub, Mul, Neg}
use Rattle.meaning.specs.Values.{value_of, values, value}

module _ (F : Ops QuadFelt) (given : ℕ → QuadFelt) where
  -- a record's value depends on its operands' values alone
  pub value_of_cong : (Low : QuadFelt → Type 0) (v w : ℕ → QuadFelt) (n : ℕ) (x : NodeKind)
      → Fine Low n x → ((i : ℕ) → i < n → v i ≡ w i) → value_of F given v x ≡ value_of F given w x
  unfolding value_of Fine
  value_of_cong Low v w n (Input k) f e = refl
  value_of_cong Low v w n (Constant c) f e = refl
  value_of_cong Low v w n (Add a b) f e = ap₂ F.add (e a f.0) (e b f.1)
  value_of_cong Low v w n (Sub a b) f e = ap₂ F.sub (e a f.0) (e b f.1)
  value_of_cong Low v w n (Mul a b) f e = ap₂ F.mul (e a f.0) (e b f.1)
  value_of_cong Low v w n (Neg a) f e = ap F.neg (e a f)

  pub value_of_rename : (v : ℕ → QuadFelt) (m : ℕ → ℕ) (x : NodeKind) → value_of F given v (rename m x) ≡ value_of F given (λ i. v (m i)) x
  unfolding value_of rename
  value_of_rename v m (Input k) = refl
  value_of_rename v m (Constant c) = refl
  value_of_rename v m (Add a b) = refl
  value_of_rename v m (Sub a b) = refl
  value_of_rename v m (Mul a b) = refl
  value_of_rename v m (Neg a) = refl

  length_values : (l : List NodeKind) (n : ℕ) → length (values F given l n) ≡ n
  unfolding values
  length_values l zero = refl
  length_values l (suc n) = length_snoc (values F given l n) _ ∙ ap suc (length_values l n)

  -- the value at place i, among the first n values
  among : List NodeKind → ℕ → ℕ → QuadFelt
  among l n i = get_or (values F given l n) i F.zero

  among_suc : (l : List NodeKind) (n i : ℕ) → i < n → among l (suc n) i ≡ among l n i
  unfolding among values
  among_suc l n i h = get_or-append (values F given l n) _ F.zero i (omega (arith, length_values l n))

  among_last : (l : List NodeKind) (n : ℕ) → among l (suc n) n ≡ value_of F given (among l n) (at l n)
  unfolding among values
  among_last l n = get_or_at (values F given l n) _ [] F.zero n (length_values l n)

  -- with more values the earlier ones stay
  among_more : (l : List NodeKind) (n m i : ℕ) → i < n → n ≤ m → among l m i ≡ among l n i
  among_more l n zero i h k = absurd (omega arith)
  among_more l n (suc m) i h k = go (le-suc_iff.0 k) (among_more l n m i h)
    where
      go : (n ≤ m) ⊎ (n ≡ suc m) → (n ≤ m → among l m i ≡ among l n i) → among l (suc m) i ≡ among l n i
      go (inl k) earlier = among_suc l m i (omega arith) ∙ earlier k
      go (inr e) earlier = rw e

  -- the value of a place is its record's, on earlier values
  pub value_at : (Low : QuadFelt → Type 0) (l : List NodeKind) → WellFormed Low l → (i : ℕ) → i < length l
      → value F given l i ≡ value_of F given (value F given l) (at l i)
  unfolding value among WellFormed
  value_at Low l w i h =
      among_more l (suc i) (length l) i (le_refl (suc i)) h
      ∙ among_last l i
      ∙ value_of_cong Low (among l i) (value F given l) i (at l i) (w i) (λ j k. sym (among_more l i (length l) j k (omega arith)))

  -- two solutions of that equation agree
  pub values_agree : (Low : QuadFelt → Type 0) (l : List NodeKind) → WellFormed Low l → (v w : ℕ → QuadFelt) (n : ℕ)
      → ((i : ℕ) → i < n → v i ≡ value_of F given v (at l i)) → ((i : ℕ) → i < n → w i ≡ value_of F given w (at l i))
      → (i : ℕ) → i < n → v i ≡ w i
  unfolding WellFormed
  values_agree Low l f v w zero p q i h = absurd (omega arith)
  values_agree Low l f v w (suc n) p q i h =
      let before : (i : ℕ) → i < n → v i ≡ w i = values_agree Low l f v w n (λ i h. p i (omega arith)) (λ i h. q i (omega arith)) in
      below_suc_elim (λ i. v i ≡ w i) n before
      (p n (omega arith) ∙ value_of_cong Low v w n (at l n) (f n) before ∙ sym (q n (omega arith)))
      i h

  -- records behind place n don't matter to the values before it
  among_append : (l t : List NodeKind) (n i : ℕ) → n ≤ length l → among (l ++ t) n i ≡ among l n i
  unfolding among values
  among_append l t n i h = rw (same n h)
    where
      same : (n : ℕ) → n ≤ length l → values F given (l ++ t) n ≡ values F given l n
      same zero h = refl
      same (suc n) h = rw (same n (omega arith), at_left l t n h)

  -- one record more: earlier values stay
  pub value_snoc : (l : List NodeKind) (x : NodeKind) (i : ℕ) → i < length l → value F given (l ++ (x ∷ [])) i ≡ value F given l i
  unfolding value among
  value_snoc l x i h =
      ap (λ n. among (l ++ (x ∷ [])) n i) (length_snoc l x)
      ∙ among_suc (l ++ (x ∷ [])) (length l) i h
      ∙ among_append l (x ∷ []) (length l) i (le_refl (length l))

  -- the last one's value
  pub value_last : (l : List NodeKind) (x : NodeKind) → value F given (l ++ (x ∷ [])) (length l) ≡ value_of F given (value F given l) x
  unfolding value among
  value_last l x =
      ap (λ n. among (l ++ (x ∷ [])) n (length l)) (length_snoc l x)
      ∙ among_last (l ++ (x ∷ [])) (length l)
      ∙ ap₂ (value_of F given) (fun_ext (λ i. among_append l (x ∷ []) (length l) i (le_refl (length l)))) (at_last l x)

-- values stay in lowest form
module _ (F : Ops QuadFelt) (L : Laws F) (given : ℕ → QuadFelt) (low-given : (k : ℕ) → L.Low (given k)) where
  pub value_of_low : (v : ℕ → QuadFelt) (n : ℕ) (x : NodeKind) → Fine L.Low n x → L.Low (value_of F given v x)
  unfolding value_of Fine
  value_of_low v n (Input k) f = low-given k
  value_of_low v n (Constant c) f = f
  value_of_low v n (Add a b) f = L.low_add (v a) (v b)
  value_of_low v n (Sub a b) f = L.low_sub (v a) (v b)
  value_of_low v n (Mul a b) f = L.low_mul (v a) (v b)
  value_of_low v n (Neg a) f = L.low_neg (v a)

  pub value_low : (l : List NodeKind) → WellFormed L.Low l → (i : ℕ) → L.Low (value F given l i)
  unfolding WellFormed value
  value_low l w i = go (dec_le (suc i) (length l))
    where
      go : Dec (i < length l) → L.Low (value F given l i)
      go (yes h) = rw (value_at F given L.Low l w i h) (value_of_low (value F given l) i (at l i) (w i))
      go (no k) = rw (get_or-eq_default (values F given l (length l)) F.zero {n = i} (omega (arith, length_values F given l (length l)))) L.low_zero
