-- Marks and new places in arrays longer than the list.
use Prim.Native.Nat.{ℕ, zero, suc, ◌+◌, ◌-◌, ◌≤◌, ◌<◌}
use Rattle.std.specs.Prelude.{Bool, ◌≡◌, get_or, drop, set, replicate}
use Rattle.std.proofs.Math.Bool.{true, false, cond}
use mathlib.Core.List.{List, [], ◌∷◌, ◌++◌}
use Rattle.std.proofs.Math.Path.{refl, ap, fun_ext}
use Rattle.std.proofs.Common.{sym, ◌∙◌, add-one, length-set}
use native.Mathlib.Omega.{arith}
use Rattle.std.proofs.Math.ListN.{length, length-replicate, replicate-append-replicate, get_or-append}
use Rattle.std.proofs.lemmas.List.{set-append_left, get_or_at}
use Rattle.std.proofs.Math.Seq.{drop-cons, set_at, append_snoc}
use Rattle.field.specs.declared.QuadFelt.{QuadFelt}
use Rattle.dag.specs.Nodes.{at, operands}
use Rattle.dag.specs.NodeLaws.{length_snoc}
use Rattle.dag.specs.CaseLaws.{below_suc_elim}
use Rattle.dag.specs.WellFormed.{WellFormed}
use Rattle.dag.specs.declared.NodeKind.{NodeKind}
use Rattle.compact.specs.Reach.{marked, sweep, marks}
use Rattle.compact.specs.Reach.◌∈◌.{here, there}
use Rattle.compact.specs.Compact.{rank, ranks, kept}
use Rattle.compact.specs.OperandLaws.{operands_below}
use Rattle.std.specs.Int.{from_bool}
use Rattle.compact.specs.ReachLaws.{length_marked, length_swept_at, swept_at, blank_marks}
use Rattle.compact.specs.Promises.{AllBelow}

-- marks behind the places that are marked stay as they are
module _ (t : List Bool) where
  marked_append : (m : List Bool) (is : List ℕ) → AllBelow (length m) is → marked (m ++ t) is ≡ marked m is ++ t
  unfolding marked
  marked_append m [] h = refl
  marked_append m (i ∷ is) h =
      rw (set-append_left m t i true (h i here)) (marked_append (set m i true) is (rw (length-set m i true) (λ j p. h j (there p))))

  module _ (Low : QuadFelt → Type 0) (l : List NodeKind) (w : WellFormed Low l) where
    swept_append : (n : ℕ) (m : List Bool) → n < length m → swept_at l n (m ++ t) ≡ swept_at l n m ++ t
    unfolding WellFormed
    swept_append n m h = rw (get_or-append m t false n h) (go (get_or m n false))
      where
        go : (b : Bool) → cond b (marked (m ++ t) (operands (at l n))) (m ++ t) ≡ cond b (marked m (operands (at l n))) m ++ t
        go true = marked_append m (operands (at l n)) (λ j p. let k = operands_below Low n (at l n) (w n) j p in omega arith)
        go false = refl

    sweep_append : (n : ℕ) (m : List Bool) → n ≤ length m → sweep l n (m ++ t) ≡ sweep l n m ++ t
    unfolding sweep
    sweep_append zero m h = refl
    sweep_append (suc n) m h = rw (swept_append n m h) (sweep_append n (swept_at l n m) (omega (arith, length_swept_at l n m)))

-- marks that agree at every place
abbrev pub Same : List Bool → List Bool → Type 0
Same m o = (i : ℕ) → get_or m i false ≡ get_or o i false

unmarked_behind : (m : List Bool) (j i : ℕ) → get_or (m ++ replicate j false) i false ≡ get_or m i false
unmarked_behind [] j i = blank_marks j i
unmarked_behind (b ∷ m) j zero = refl
unmarked_behind (b ∷ m) j (suc i) = unmarked_behind m j i

module _ (Low : QuadFelt → Type 0) (l : List NodeKind) (w : WellFormed Low l) (roots : List ℕ) (inside : AllBelow (length l) roots) (k : ℕ) (long : length l ≤ k) where
  -- in an array of k marks: the list's marks, then none
  pub sweep_array : sweep l (length l) (marked (replicate k false) roots) ≡ marks l roots ++ replicate (k - length l) false
  unfolding marks
  sweep_array =
      let e : k ≡ length l + (k - length l) = omega arith in
      ap (λ j. sweep l (length l) (marked (replicate j false) roots)) e
      ∙ rw (
        ← replicate-append-replicate (length l) (k - length l) false,
        marked_append (replicate (k - length l) false) (replicate (length l) false) roots (rw (length-replicate (length l) false) inside),
      )
      (sweep_append (replicate (k - length l) false) Low l w (length l) (marked (replicate (length l) false) roots)
      (omega (arith, length_marked (replicate (length l) false) roots, length-replicate (length l) false)))

  pub sweep_same : (m : List Bool) → m ≡ sweep l (length l) (marked (replicate k false) roots) → Same m (marks l roots)
  sweep_same m e i = rw (e, sweep_array) (unmarked_behind (marks l roots) (k - length l) i)

module _ (m o : List Bool) (same : Same m o) where
  pub rank_same : (i : ℕ) → rank m i ≡ rank o i
  unfolding rank
  rank_same zero = refl
  rank_same (suc i) = rw (same i, rank_same i)

  pub kept_same : (l : List NodeKind) (n : ℕ) → kept l m n ≡ kept l o n
  unfolding kept
  kept_same l zero = refl
  kept_same l (suc n) = rw (same n, kept_same l n, fun_ext rank_same)

-- new places in an array
length_ranks : (m : List Bool) (n : ℕ) → length (ranks m n) ≡ n
unfolding ranks
length_ranks m zero = refl
length_ranks m (suc n) = length_snoc (ranks m n) (rank m n) ∙ ap suc (length_ranks m n)

pub get_or_ranks : (m : List Bool) (t : List ℕ) (n i : ℕ) → i < n → get_or (ranks m n ++ t) i 0 ≡ rank m i
unfolding ranks
get_or_ranks m t zero i h = absurd (omega arith)
get_or_ranks m t (suc n) i h =
    rw (append_snoc (ranks m n) (rank m n) t)
    (below_suc_elim (λ j. get_or (ranks m n ++ rank m n ∷ t) j 0 ≡ rank m j) n (get_or_ranks m (rank m n ∷ t) n)
    (get_or_at (ranks m n) (rank m n) t 0 n (length_ranks m n)) i h)

-- one more place numbered
module _ (m : List Bool) (n v : ℕ) (e : v ≡ rank m n) where
  pub ranks_more : (r d : List ℕ) → n < length d → r ≡ ranks m n ++ drop n d → set r n v ≡ ranks m (n + 1) ++ drop (n + 1) d
  unfolding ranks
  ranks_more r d h q =
      rw (add-one n, q, drop-cons d n 0 h, set_at (ranks m n) _ (drop (suc n) d) v n (length_ranks m n), e)
      (sym (append_snoc (ranks m n) (rank m n) (drop (suc n) d)))

  pub rank_next : (k : ℕ) → k ≡ from_bool (get_or m n false) → v + k ≡ rank m (n + 1)
  unfolding rank
  rank_next k h = rw (add-one n, e, h) (ap (λ u. rank m n + u) (bit (get_or m n false)))
    where
      bit : (b : Bool) → from_bool b ≡ cond b 1 0
      bit true = refl
      bit false = refl
