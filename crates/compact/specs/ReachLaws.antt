-- The sweep marks exactly the records that the roots reach.
use Prim.Native.Nat.{ℕ, zero, suc, ◌<◌, ◌≤◌}
use Rattle.std.specs.Prelude.{Bool, true, cond, List, [], ◌∷◌, ◌≡◌, refl, ◌⊎◌, ◌↔◌, get_or, replicate, set}
use Rattle.std.proofs.Math.Bool.{false}
use Rattle.std.proofs.Common.{sym, ◌∙◌, inl, inr, eq-or-lt_of_le, arith, length-set, get_or-set_same, get_or-set_other}
use Rattle.std.proofs.Math.Decide.{dec_le, ℕ_discrete}
use Rattle.std.proofs.Math.ListN.{length, length-replicate, get_or-eq_default}
use Rattle.std.proofs.lemmas.List.{get_or-replicate}
use Rattle.field.specs.declared.QuadFelt.{QuadFelt}
use Rattle.dag.specs.Nodes.{at, operands}
use Rattle.dag.specs.CaseLaws.{cond_elim, not_both}
use Rattle.dag.specs.WellFormed.{WellFormed}
use Rattle.dag.specs.declared.NodeKind.{NodeKind}
use Rattle.compact.specs.Reach.{◌∈◌, Reach, marked, sweep, marks}
use Rattle.compact.specs.Reach.◌∈◌.{here, there}
use Rattle.compact.specs.Reach.Reach.{root, operand}
use Rattle.compact.specs.OperandLaws.{in_nil, in_cons, operands_below}
use Rattle.compact.specs.Promises.{AllBelow}

-- place i is marked
abbrev pub Marked : List Bool → ℕ → Type 0
Marked m i = get_or m i false ≡ true

-- marks stand inside
pub marked_inside : (m : List Bool) (i : ℕ) → Marked m i → i < length m
marked_inside m i h = go (dec_le (suc i) (length m))
  where
    go : Dec (i < length m) → i < length m
    go (yes k) = k
    go (no k) = absurd (not_both (get_or m i false) h (get_or-eq_default m false {n = i} (omega arith)))

set_keeps : (m : List Bool) (i j : ℕ) → Marked m i → Marked (set m j true) i
set_keeps m i j h = go (ℕ_discrete i j)
  where
    go : Dec (i ≡ j) → Marked (set m j true) i
    go (yes e) = rw (← e) (get_or-set_same m i true false (marked_inside m i h))
    go (no k) = get_or-set_other m j i true false k ∙ h

set_only : (m : List Bool) (i j : ℕ) → Marked (set m j true) i → Marked m i ⊎ (i ≡ j)
set_only m i j h = go (ℕ_discrete i j)
  where
    go : Dec (i ≡ j) → Marked m i ⊎ (i ≡ j)
    go (yes e) = inr e
    go (no k) = inl (sym (get_or-set_other m j i true false k) ∙ h)

pub length_marked : (m : List Bool) (is : List ℕ) → length (marked m is) ≡ length m
unfolding marked
length_marked m [] = refl
length_marked m (i ∷ is) = length_marked (set m i true) is ∙ length-set m i true

marked_keeps : (m : List Bool) (is : List ℕ) (i : ℕ) → Marked m i → Marked (marked m is) i
unfolding marked
marked_keeps m [] i h = h
marked_keeps m (j ∷ is) i h = marked_keeps (set m j true) is i (set_keeps m i j h)

marked_marks : (m : List Bool) (is : List ℕ) (i : ℕ) → i < length m → i ∈ is → Marked (marked m is) i
unfolding marked
marked_marks m [] i k p = absurd (in_nil p)
marked_marks m (j ∷ is) i k p = go (in_cons p) (marked_marks (set m j true) is i)
  where
    go : (i ≡ j) ⊎ (i ∈ is) → (i < length (set m j true) → i ∈ is → Marked (marked (set m j true) is) i) → Marked (marked (set m j true) is) i
    go (inl e) later = marked_keeps (set m j true) is i (rw e (get_or-set_same m j true false (omega arith)))
    go (inr q) later = later (omega (arith, length-set m j true)) q

marked_only : (m : List Bool) (is : List ℕ) (i : ℕ) → Marked (marked m is) i → Marked m i ⊎ (i ∈ is)
unfolding marked
marked_only m [] i h = inl h
marked_only m (j ∷ is) i h = go (marked_only (set m j true) is i h)
  where
    first : Marked m i ⊎ (i ≡ j) → Marked m i ⊎ (i ∈ (j ∷ is))
    first (inl k) = inl k
    first (inr e) = inr (rw e here)

    go : Marked (set m j true) i ⊎ (i ∈ is) → Marked m i ⊎ (i ∈ (j ∷ is))
    go (inl k) = first (set_only m i j k)
    go (inr p) = inr (there p)

-- the marks after place n is swept
abbrev pub swept_at : List NodeKind → ℕ → List Bool → List Bool
swept_at l n m = cond (get_or m n false) (marked m (operands (at l n))) m

pub length_swept_at : (l : List NodeKind) (n : ℕ) (m : List Bool) → length (swept_at l n m) ≡ length m
length_swept_at l n m =
    cond_elim (λ (r : List Bool). length r ≡ length m) (get_or m n false) (marked m (operands (at l n))) m (λ _. length_marked m (operands (at l n))) (λ _. refl)

length_sweep : (l : List NodeKind) (n : ℕ) (m : List Bool) → length (sweep l n m) ≡ length m
unfolding sweep
length_sweep l zero m = refl
length_sweep l (suc n) m = length_sweep l n (swept_at l n m) ∙ length_swept_at l n m

sweep_keeps : (l : List NodeKind) (n : ℕ) (m : List Bool) (i : ℕ) → Marked m i → Marked (sweep l n m) i
unfolding sweep
sweep_keeps l zero m i h = h
sweep_keeps l (suc n) m i h =
    sweep_keeps l n (swept_at l n m) i
    (cond_elim (λ (r : List Bool). Marked r i) (get_or m n false) (marked m (operands (at l n))) m (λ _. marked_keeps m (operands (at l n)) i h) (λ _. h))

-- what is marked is reachable
sweep_sound : (l : List NodeKind) (roots : List ℕ) (n : ℕ) (m : List Bool) → ((i : ℕ) → Marked m i → Reach l roots i)
    → (i : ℕ) → Marked (sweep l n m) i → Reach l roots i
unfolding sweep
sweep_sound l roots zero m f = f
sweep_sound l roots (suc n) m f =
    sweep_sound l roots n (swept_at l n m)
    (cond_elim (λ (r : List Bool). (i : ℕ) → Marked r i → Reach l roots i) (get_or m n false) (marked m (operands (at l n))) m
    (λ e i h. go e i (marked_only m (operands (at l n)) i h)) (λ _. f))
  where
    go : Marked m n → (i : ℕ) → Marked m i ⊎ (i ∈ operands (at l n)) → Reach l roots i
    go e i (inl k) = f i k
    go e i (inr p) = operand (f n e) p

-- the operands of marked records from place n on are marked
abbrev Closed : List NodeKind → ℕ → List Bool → Type 0
Closed l n m = (i j : ℕ) → n ≤ i → Marked m i → j ∈ operands (at l i) → Marked m j

module _ (Low : QuadFelt → Type 0) (l : List NodeKind) (w : WellFormed Low l) where
  before : (i j : ℕ) → j ∈ operands (at l i) → j < i
  unfolding WellFormed
  before i j p = operands_below Low i (at l i) (w i) j p

  closed_step : (n : ℕ) (m : List Bool) → n < length m → Closed l (suc n) m → Closed l n (swept_at l n m)
  closed_step n m k c =
      cond_elim (λ (r : List Bool). Closed l n r) (get_or m n false) (marked m (operands (at l n))) m
      (λ e i j h q p. swept e i j h p (marked_only m (operands (at l n)) i q))
      (λ e i j h q p. unswept e i j q p (eq-or-lt_of_le h))
    where
      swept_from : Marked m n → (i j : ℕ) → j ∈ operands (at l i) → Marked m i → (n ≡ i) ⊎ (n < i) → Marked (marked m (operands (at l n))) j
      swept_from e i j p q (inl s) =
          marked_marks m (operands (at l n)) j (let h = before i j p in omega arith) (rw s p)
      swept_from e i j p q (inr h) = marked_keeps m (operands (at l n)) j (c i j h q p)

      swept : Marked m n → (i j : ℕ) → n ≤ i → j ∈ operands (at l i) → Marked m i ⊎ (i ∈ operands (at l n)) → Marked (marked m (operands (at l n))) j
      swept e i j h p (inl q) = swept_from e i j p q (eq-or-lt_of_le h)
      swept e i j h p (inr r) = absurd (let k = before n i r in omega arith)

      unswept : get_or m n false ≡ false → (i j : ℕ) → Marked m i → j ∈ operands (at l i) → (n ≡ i) ⊎ (n < i) → Marked m j
      unswept e i j q p (inl s) = absurd (not_both (get_or m n false) (rw s q) e)
      unswept e i j q p (inr h) = c i j h q p

  sweep_closed : (n : ℕ) (m : List Bool) → n ≤ length m → Closed l n m → Closed l 0 (sweep l n m)
  unfolding sweep
  sweep_closed zero m k c = c
  sweep_closed (suc n) m k c = sweep_closed n (swept_at l n m) (omega (arith, length_swept_at l n m)) (closed_step n m k c)

pub blank_marks : (n i : ℕ) → get_or (replicate n false) i false ≡ false
blank_marks n i = go (dec_le (suc i) n)
  where
    go : Dec (i < n) → get_or (replicate n false) i false ≡ false
    go (yes h) = get_or-replicate n i false false h
    go (no h) = get_or-eq_default (replicate n false) false {n = i} (omega (arith, length-replicate n false))

module _ (l : List NodeKind) (roots : List ℕ) where
  pub length_marks : length (marks l roots) ≡ length l
  unfolding marks
  length_marks =
      length_sweep l (length l) (marked (replicate (length l) false) roots)
      ∙ length_marked (replicate (length l) false) roots
      ∙ length-replicate (length l) false

  pub marks_reach : (i : ℕ) → Marked (marks l roots) i → Reach l roots i
  unfolding marks
  marks_reach = sweep_sound l roots (length l) (marked (replicate (length l) false) roots) (λ i h. go i (marked_only (replicate (length l) false) roots i h))
    where
      go : (i : ℕ) → Marked (replicate (length l) false) i ⊎ (i ∈ roots) → Reach l roots i
      go i (inl h) = absurd (not_both (get_or (replicate (length l) false) i false) h (blank_marks (length l) i))
      go i (inr p) = root p

  module _ (Low : QuadFelt → Type 0) (w : WellFormed Low l) (inside : AllBelow (length l) roots) where
    pub marks_roots : (i : ℕ) → i ∈ roots → Marked (marks l roots) i
    unfolding marks
    marks_roots i p =
        sweep_keeps l (length l) (marked (replicate (length l) false) roots) i
        (marked_marks (replicate (length l) false) roots i (let h = inside i p in omega (arith, length-replicate (length l) false)) p)

    pub marks_operands : (i j : ℕ) → Marked (marks l roots) i → j ∈ operands (at l i) → Marked (marks l roots) j
    unfolding marks
    marks_operands i j h p = sweep_closed Low l w (length l) (marked (replicate (length l) false) roots) (omega (arith, long)) past i j (omega arith) h p
      where
        long : length (marked (replicate (length l) false) roots) ≡ length l
        long = length_marked (replicate (length l) false) roots ∙ length-replicate (length l) false

        past : Closed l (length l) (marked (replicate (length l) false) roots)
        past i j k h p = absurd (let q = marked_inside (marked (replicate (length l) false) roots) i h in omega (arith, long))

    pub reach_marks : (i : ℕ) → Reach l roots i → Marked (marks l roots) i
    reach_marks i (root p) = marks_roots i p
    reach_marks i (operand {i = j} r p) = marks_operands j i (reach_marks j r) p

    -- the sweep marks exactly what the roots reach
    pub marks_exact : (i : ℕ) → (get_or (marks l roots) i false ≡ true) ↔ Reach l roots i
    marks_exact i = (marks_reach i, reach_marks i)
