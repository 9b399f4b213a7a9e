-- Compaction keeps the roots' values, has as many records as are reached, and changes nothing the second time.
use Rattle.std.specs.Prelude.{ℕ, ◌<◌, ◌≤◌, Bool, false, List, [], ◌∷◌, ◌++◌, map, ◌≡◌, ◌↔◌, get_or}
use Rattle.std.proofs.Common.{sym, ◌∙◌, ap, arith, ext_get_or}
use Rattle.std.proofs.Math.ListN.{length}
use Rattle.ring.specs.Ring.{Ops}
use Rattle.field.specs.declared.QuadFelt.{QuadFelt}
use Rattle.dag.specs.Nodes.{at, operands, rename}
use Rattle.dag.specs.CaseLaws.{not_both, below_suc_elim}
use Rattle.dag.specs.WellFormed.{WellFormed}
use Rattle.dag.specs.WellFormedLaws.{well_formed_nil, well_formed_snoc}
use Rattle.dag.specs.declared.NodeKind.{NodeKind}
use Rattle.dag.specs.declared.NodeKind.TheVariants.{Input}
use Rattle.meaning.specs.Values.{value}
use Rattle.meaning.specs.ValueLaws.{value_at, value_snoc, value_last}
use Rattle.compact.specs.Reach.{◌∈◌, Reach, marks}
use Rattle.compact.specs.Reach.Reach.{root, operand}
use Rattle.compact.specs.Compact.{rank, kept, compact}
use Rattle.compact.specs.OperandLaws.{operands_below, in_map, below_map, map_through, map_same, fine_renamed, value_renamed, same_renamed, operands_renamed}
use Rattle.compact.specs.ReachLaws.{Marked, marked_inside, length_marks, marks_reach, reach_marks, marks_roots, marks_operands}
use Rattle.compact.specs.RankLaws.{rank_le, rank_lt, rank_onto, rank_all, all_ranked, kept_elim, length_kept, at_kept}
use Rattle.compact.specs.Promises.{AllBelow}

-- marks that are closed under operands
module _ (Low : QuadFelt → Type 0) (l : List NodeKind) (w : WellFormed Low l) (m : List Bool) (c : (i j : ℕ) → Marked m i → j ∈ operands (at l i) → Marked m j) where
  before : (i j : ℕ) → j ∈ operands (at l i) → j < i
  unfolding WellFormed
  before i j p = operands_below Low i (at l i) (w i) j p

  kept_well_formed : (n : ℕ) → WellFormed Low (kept l m n)
  unfolding WellFormed
  kept_well_formed =
      kept_elim l m (λ n r. WellFormed Low r) (well_formed_nil Low)
      (λ n e h. well_formed_snoc Low (kept l m n) (rename (rank m) (at l n)) h
      (rw (length_kept l m n) (fine_renamed Low (rank m) n (rank m n) (at l n) (λ j p. rank_lt m j n (c n j e p) (before n j p)) (w n))))
      (λ n e h. h)

  kept_value : (F : Ops QuadFelt) (given : ℕ → QuadFelt) (n : ℕ) → n ≤ length l → (i : ℕ) → i < n → Marked m i
      → value F given (kept l m n) (rank m i) ≡ value F given l i
  kept_value F given =
      kept_elim l m (λ n r. n ≤ length l → (i : ℕ) → i < n → Marked m i → value F given r (rank m i) ≡ value F given l i)
      (λ k i h. absurd (omega arith))
      (λ n e h k. below_suc_elim (λ i. Marked m i → value F given (kept l m n ++ (rename (rank m) (at l n) ∷ [])) (rank m i) ≡ value F given l i) n
      (λ i q s. value_snoc F given (kept l m n) (rename (rank m) (at l n)) (rank m i) (let r = rank_lt m i n s q in omega (arith, length_kept l m n))
      ∙ h (omega arith) i q s)
      (λ s. (rw (length_kept l m n) at (value_last F given (kept l m n) (rename (rank m) (at l n))))
      ∙ value_renamed F given (value F given (kept l m n)) (value F given l) (rank m) (at l n) (λ j p. h (omega arith) j (before n j p) (c n j e p))
      ∙ sym (value_at F given Low l w n k)))
      (λ n e h k. below_suc_elim (λ i. Marked m i → value F given (kept l m n) (rank m i) ≡ value F given l i) n (h (omega arith))
      (λ q. absurd (not_both (get_or m n false) q e)))

-- with all of the first n places marked, all are kept as they are
kept_all : (Low : QuadFelt → Type 0) (l : List NodeKind) → WellFormed Low l → (m : List Bool) → ((i : ℕ) → i < length l → Marked m i) → kept l m (length l) ≡ l
unfolding WellFormed at
kept_all Low l w m a =
    ext_get_or (Input 0) (kept l m (length l)) l (length_kept l m (length l) ∙ ranked (length l) (omega arith)) same
  where
    ranked : (i : ℕ) → i ≤ length l → rank m i ≡ i
    ranked i h = rank_all m i (λ j k. a j (omega arith))

    same : (i : ℕ) → i < length (kept l m (length l)) → at (kept l m (length l)) i ≡ at l i
    same i h =
        let k : i < length l = let r = rank_le m (length l) in omega (arith, length_kept l m (length l)) in
        ap (at (kept l m (length l))) (sym (ranked i (omega arith)))
        ∙ at_kept l m (length l) i k (a i k)
        ∙ same_renamed (rank m) (at l i) (λ j p. let b = operands_below Low i (at l i) (w i) j p in ranked j (omega arith))

module _ (l : List NodeKind) (roots : List ℕ) where
  -- as many records as marks
  pub compact_length : length (compact l roots).list ≡ rank (marks l roots) (length l)
  unfolding compact
  compact_length = length_kept l (marks l roots) (length l)

  -- never more records than before
  pub compact_short : length (compact l roots).list ≤ length l
  compact_short = let r = rank_le (marks l roots) (length l) in omega (arith, compact_length)

  module _ (Low : QuadFelt → Type 0) (w : WellFormed Low l) (inside : AllBelow (length l) roots) where
    pub compact_well_formed : WellFormed Low (compact l roots).list
    unfolding compact
    compact_well_formed = kept_well_formed Low l w (marks l roots) (marks_operands l roots Low w inside) (length l)

    pub compact_inside : AllBelow (length (compact l roots).list) (compact l roots).roots
    unfolding compact
    compact_inside =
        below_map (rank (marks l roots)) (length (kept l (marks l roots) (length l))) roots
        (λ i p. let r = rank_lt (marks l roots) i (length l) (marks_roots l roots Low w inside i p) (inside i p) in omega (arith, length_kept l (marks l roots) (length l)))

    -- a reached record's value stands at its new place
    pub compact_value : (F : Ops QuadFelt) (given : ℕ → QuadFelt) (i : ℕ) → Reach l roots i
        → value F given (compact l roots).list (rank (marks l roots) i) ≡ value F given l i
    unfolding compact
    compact_value F given i r =
        let s = reach_marks l roots Low w inside i r in
        let k = marked_inside (marks l roots) i s in
        kept_value Low l w (marks l roots) (marks_operands l roots Low w inside) F given (length l) (omega arith) i (omega (arith, length_marks l roots)) s

    -- each root keeps its value
    pub compact_values : (F : Ops QuadFelt) (given : ℕ → QuadFelt)
        → map (value F given (compact l roots).list) (compact l roots).roots ≡ map (value F given l) roots
    unfolding compact
    compact_values F given =
        map_through (rank (marks l roots)) (value F given (compact l roots).list) (value F given l) roots (λ i p. compact_value F given i (root p))

    -- as many records as before exactly when all are reached
    pub compact_count : (length (compact l roots).list ≡ length l) ↔ ((i : ℕ) → i < length l → Reach l roots i)
    unfolding compact
    compact_count = (
      λ e i h. marks_reach l roots i (all_ranked (marks l roots) (length l) (sym (length_kept l (marks l roots) (length l)) ∙ e) i h),
      λ r. length_kept l (marks l roots) (length l) ∙ rank_all (marks l roots) (length l) (λ i h. reach_marks l roots Low w inside i (r i h)),
    )

    -- where all records are reached, nothing changes
    pub compact_all : ((i : ℕ) → i < length l → Reach l roots i) → compact l roots ≡ record { list = l; roots = roots }
    unfolding compact
    compact_all r =
        let a : (i : ℕ) → i < length l → Marked (marks l roots) i = λ i h. reach_marks l roots Low w inside i (r i h) in
        let Kept-same = kept_all Low l w (marks l roots) a in
        let roots_same = map_same (rank (marks l roots)) roots (λ i p. rank_all (marks l roots) i (λ j k. a j (let h = inside i p in omega arith))) in
        λ i. record { list = Kept-same i; roots = roots_same i }

    -- what is reached is reached at its new place
    reach_renamed : (i : ℕ) → Reach l roots i → Reach (compact l roots).list (compact l roots).roots (rank (marks l roots) i)
    unfolding compact
    reach_renamed i (root p) = root (in_map (rank (marks l roots)) p)
    reach_renamed i (operand {i = j} r p) =
        let s = reach_marks l roots Low w inside j r in
        let k = marked_inside (marks l roots) j s in
        operand {j = rank (marks l roots) i} (reach_renamed j r)
        (rw (at_kept l (marks l roots) (length l) j (omega (arith, length_marks l roots)) s, operands_renamed (rank (marks l roots)) (at l j)) (in_map (rank (marks l roots)) p))

    -- all of a compacted list is reached
    pub compact_reached : (i : ℕ) → i < length (compact l roots).list → Reach (compact l roots).list (compact l roots).roots i
    compact_reached i h = go (rank_onto (marks l roots) (length l) i (omega (arith, compact_length)))
      where
        go : (j : ℕ) × (j < length l) × Marked (marks l roots) j × (rank (marks l roots) j ≡ i) → Reach (compact l roots).list (compact l roots).roots i
        go (j, k, s, e) = rw (← e) (reach_renamed j (marks_reach l roots j s))

-- compacting twice changes nothing more
pub compact_twice : (Low : QuadFelt → Type 0) (l : List NodeKind) (roots : List ℕ) → WellFormed Low l → AllBelow (length l) roots
    → compact (compact l roots).list (compact l roots).roots ≡ compact l roots
compact_twice Low l roots w inside =
    compact_all (compact l roots).list (compact l roots).roots Low (compact_well_formed l roots Low w inside) (compact_inside l roots Low w inside) (compact_reached l roots Low w inside)
