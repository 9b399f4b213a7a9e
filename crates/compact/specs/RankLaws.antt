-- New places: the number of marks before a place; and the records kept at them.
use Prim.Native.Nat.{ℕ, zero, suc, ◌+◌, ◌<◌, ◌≤◌}
use Rattle.std.specs.Prelude.{Bool, true, false, List, [], ◌∷◌, ◌++◌, ◌≡◌, ◌⊎◌, get_or}
use Rattle.std.proofs.Math.Path.{refl, sym, ap}
use Rattle.std.proofs.Common.{◌∙◌, inl, inr, add-one, add-zero, arith}
use Rattle.std.proofs.Math.Nat.{le-suc_iff}
use Rattle.std.proofs.Math.ListN.{length}
use Rattle.dag.specs.Nodes.{at, rename}
use Rattle.dag.specs.NodeLaws.{at_left, at_last, length_snoc}
use Rattle.dag.specs.CaseLaws.{cond_elim, not_both, below_suc, below_suc_elim}
use Rattle.dag.specs.declared.NodeKind.{NodeKind}
use Rattle.compact.specs.ReachLaws.{Marked}
use Rattle.compact.specs.Compact.{rank, kept}

pub rank_le : (m : List Bool) (n : ℕ) → rank m n ≤ n
unfolding rank
rank_le m zero = omega arith
rank_le m (suc n) = cond_elim (λ k. rank m n + k ≤ suc n) (get_or m n false) 1 0 (λ _. let h = rank_le m n in omega arith) (λ _. let h = rank_le m n in omega arith)

pub rank_marked : (m : List Bool) (n : ℕ) → Marked m n → rank m (suc n) ≡ suc (rank m n)
unfolding rank
rank_marked m n h = rw h (add-one (rank m n))

pub rank_unmarked : (m : List Bool) (n : ℕ) → get_or m n false ≡ false → rank m (suc n) ≡ rank m n
unfolding rank
rank_unmarked m n h = rw h (add-zero (rank m n))

rank_step : (m : List Bool) (n : ℕ) → rank m n ≤ rank m (suc n)
unfolding rank
rank_step m n = cond_elim (λ c. rank m n ≤ rank m n + c) (get_or m n false) 1 0 (λ _. omega arith) (λ _. omega arith)

pub rank_mono : (m : List Bool) (i n : ℕ) → i ≤ n → rank m i ≤ rank m n
rank_mono m i zero h = let e : i ≡ 0 = omega arith in rw e (omega arith)
rank_mono m i (suc n) h = go (le-suc_iff.0 h) (rank_mono m i n)
  where
    go : (i ≤ n) ⊎ (i ≡ suc n) → (i ≤ n → rank m i ≤ rank m n) → rank m i ≤ rank m (suc n)
    go (inl k) before = let b = before k in let s = rank_step m n in omega arith
    go (inr e) before = rw e (omega arith)

-- a marked place's new place comes before those of all later places
pub rank_lt : (m : List Bool) (i n : ℕ) → Marked m i → i < n → rank m i < rank m n
rank_lt m i n h k = let e = rank_marked m i h in let r = rank_mono m (suc i) n k in omega arith

-- each new place is that of a marked place
pub rank_onto : (m : List Bool) (n k : ℕ) → k < rank m n → (i : ℕ) × (i < n) × Marked m i × (rank m i ≡ k)
unfolding rank
rank_onto m zero k h = absurd (omega arith)
rank_onto m (suc n) k h = go (get_or m n false) refl (rank_onto m n k)
  where
    Found : ℕ → Type 0
    Found n = (i : ℕ) × (i < n) × Marked m i × (rank m i ≡ k)

    earlier : Found n → Found (suc n)
    earlier (i, p, q, e) = (i, omega arith, q, e)

    last : Marked m n → (k < rank m n → Found n) → (k < rank m n) ⊎ (k ≡ rank m n) → Found (suc n)
    last e before (inl p) = earlier (before p)
    last e before (inr q) = (n, omega arith, e, sym q)

    go : (t : Bool) → get_or m n false ≡ t → (k < rank m n → Found n) → Found (suc n)
    go true e before = last e before (below_suc k (rank m n) (let r = rank_marked m n e in omega arith))
    go false e before = earlier (before (let r = rank_unmarked m n e in omega arith))

-- with all places marked each keeps its own, and only then
pub rank_all : (m : List Bool) (n : ℕ) → ((i : ℕ) → i < n → Marked m i) → rank m n ≡ n
unfolding rank
rank_all m zero h = refl
rank_all m (suc n) h = rank_marked m n (h n (omega arith)) ∙ ap suc (rank_all m n (λ i k. h i (omega arith)))

pub all_ranked : (m : List Bool) (n : ℕ) → rank m n ≡ n → (i : ℕ) → i < n → Marked m i
all_ranked m zero e i h = absurd (omega arith)
all_ranked m (suc n) e i h = go (get_or m n false) refl (all_ranked m n)
  where
    go : (t : Bool) → get_or m n false ≡ t → (rank m n ≡ n → (i : ℕ) → i < n → Marked m i) → Marked m i
    go true q before = below_suc_elim (Marked m) n (before (let r = rank_marked m n q in omega arith)) q i h
    go false q before = absurd (let r = rank_unmarked m n q in let b = rank_le m n in omega arith)

module _ (l : List NodeKind) (m : List Bool) where
  -- what holds of no records, and stays with each record kept, holds of those kept
  pub kept_elim : (P : ℕ → List NodeKind → Type 0) → P 0 []
      → ((n : ℕ) → Marked m n → P n (kept l m n) → P (suc n) (kept l m n ++ (rename (rank m) (at l n) ∷ [])))
      → ((n : ℕ) → get_or m n false ≡ false → P n (kept l m n) → P (suc n) (kept l m n))
      → (n : ℕ) → P n (kept l m n)
  unfolding kept
  kept_elim P z s u zero = z
  kept_elim P z s u (suc n) =
      cond_elim (P (suc n)) (get_or m n false) (kept l m n ++ (rename (rank m) (at l n) ∷ [])) (kept l m n)
      (λ e. s n e (kept_elim P z s u n)) (λ e. u n e (kept_elim P z s u n))

  pub length_kept : (n : ℕ) → length (kept l m n) ≡ rank m n
  unfolding rank
  length_kept =
      kept_elim (λ n r. length r ≡ rank m n) refl
      (λ n e h. length_snoc (kept l m n) (rename (rank m) (at l n)) ∙ ap suc h ∙ sym (rank_marked m n e))
      (λ n e h. h ∙ sym (rank_unmarked m n e))

  pub at_kept : (n i : ℕ) → i < n → Marked m i → at (kept l m n) (rank m i) ≡ rename (rank m) (at l i)
  at_kept =
      kept_elim (λ n r. (i : ℕ) → i < n → Marked m i → at r (rank m i) ≡ rename (rank m) (at l i))
      (λ i h. absurd (omega arith))
      (λ n e before. below_suc_elim (λ i. Marked m i → at (kept l m n ++ (rename (rank m) (at l n) ∷ [])) (rank m i) ≡ rename (rank m) (at l i)) n
      (λ i h q. at_left (kept l m n) (rename (rank m) (at l n) ∷ []) (rank m i) (let r = rank_lt m i n q h in omega (arith, length_kept n)) ∙ before i h q)
      (λ q. rw (length_kept n) at (at_last (kept l m n) (rename (rank m) (at l n)))))
      (λ n e before. below_suc_elim (λ i. Marked m i → at (kept l m n) (rank m i) ≡ rename (rank m) (at l i)) n before
      (λ q. absurd (not_both (get_or m n false) q e)))
