-- The turns of each loop of the code.
use Rattle.std.specs.Prelude.{ℕ, zero, suc, ◌+◌, ◌-◌, ◌≤◌, ◌<◌, Bool, true, false, cond, List, [], ◌∷◌, ◌++◌, ◌≡◌, refl, length, set, take}
use Rattle.std.proofs.Common.{sym, ◌∙◌, add-one, sub-one, arith, take-suc}
use Rattle.std.proofs.Math.ListN.{get_or}
use Rattle.field.specs.Fields.{Within}
use Rattle.dag.specs.View.{View, interleaved}
use Rattle.dag.specs.Nodes.{nodes, at, operands, rename, record_at}
use Rattle.dag.specs.NodeLaws.{at_nodes}
use Rattle.dag.specs.Store.{Records, put, written}
use Rattle.dag.specs.StoreLaws.{sound_well_formed}
use Rattle.dag.specs.WellFormed.{Any, Fine, WellFormed}
use Rattle.dag.specs.WellFormedLaws.{fine_mono, fine_any}
use Rattle.dag.specs.declared.NodeKind.{NodeKind}
use Rattle.compact.specs.Reach.{marked, sweep}
use Rattle.compact.specs.Compact.{rank, kept}
use Rattle.compact.specs.OperandLaws.{operands_below, rename_cong}
use Rattle.compact.specs.ReachLaws.{Marked}
use Rattle.compact.specs.RankLaws.{rank_lt, length_kept}
use Rattle.dag.specs.WordLaws.{written_put}
use Rattle.compact.specs.Promises.{Writing, AllBelow}

marked_snoc : (m : List Bool) (is : List ℕ) (i : ℕ) → marked m (is ++ (i ∷ [])) ≡ set (marked m is) i true
unfolding marked
marked_snoc m [] i = refl
marked_snoc m (k ∷ is) i = marked_snoc (set m k true) is i

-- the operands of a record that passes are inside a longer array
pub operands_inside : (s : View) (n i k : ℕ) (x : NodeKind) → Records s n → i < n → n ≤ k → x ≡ record_at s i → AllBelow k (operands x)
unfolding WellFormed
operands_inside s n i k x sound h long e =
    rw (e, ← at_nodes s n i h)
    λ j q. let b = operands_below (Within sound.0) i (at (nodes s n) i) (sound_well_formed sound.0 s n sound.1 i) j q in omega arith

-- so may the record stand behind them
pub record_fine : (s : View) (n i k : ℕ) (x : NodeKind) → Records s n → i < n → n ≤ k → x ≡ record_at s i → Fine Any k x
unfolding WellFormed
record_fine s n i k x sound h long e =
    rw (e, ← at_nodes s n i h)
    (fine_any (Within sound.0) k (at (nodes s n) i) (fine_mono (Within sound.0) i k (at (nodes s n) i) (omega arith) (sound_well_formed sound.0 s n sound.1 i)))

-- one root more is marked
pub marked_turn : (m r : List Bool) (is : List ℕ) (j v : ℕ) → j < length is → r ≡ marked m (take j is) → v ≡ get_or is j 0 → set r v true ≡ marked m (take (j + 1) is)
marked_turn m r is j v h e q = rw (e, q, add-one j, take-suc is j 0 h) (sym (marked_snoc m (take j is) (get_or is j 0)))

-- one place of the sweep
sweep_step : (l : List NodeKind) (i : ℕ) (m : List Bool) → 0 < i
    → sweep l i m ≡ sweep l (i - 1) (cond (get_or m (i - 1) false) (marked m (operands (at l (i - 1)))) m)
unfolding sweep
sweep_step l zero m h = absurd (omega arith)
sweep_step l (suc i) m h = rw (sub-one (suc i))

module _ (l : List NodeKind) (i : ℕ) (m : List Bool) (h : 0 < i) where
  pub sweep_marked : (x : NodeKind) → Marked m (i - 1) → x ≡ at l (i - 1) → sweep l i m ≡ sweep l (i - 1) (marked m (operands x))
  sweep_marked x q e = sweep_step l i m h ∙ rw (q, e)

  pub sweep_unmarked : get_or m (i - 1) false ≡ false → sweep l i m ≡ sweep l (i - 1) m
  sweep_unmarked q = sweep_step l i m h ∙ rw q

pub sweep_none : (l : List NodeKind) (i : ℕ) (m : List Bool) → i ≤ 0 → sweep l i m ≡ m
unfolding sweep
sweep_none l zero m h = refl
sweep_none l (suc i) m h = absurd (omega arith)

-- one record of the write
module _ (s : View) (n : ℕ) (m : List Bool) (map d : List ℕ) (w : Writing s n m map (interleaved d).room) (i : ℕ) (h : i < n) where
  pub place_room : Marked m i → get_or map i 0 < (interleaved d).room
  place_room q = let r = rank_lt m i n q h in rw (w.remaps.places i h) (omega (arith, w.room))

  renamed : (x y : NodeKind) → x ≡ record_at s i → y ≡ rename (λ j. get_or map j 0) x → y ≡ rename (rank m) (at (nodes s n) i)
  unfolding WellFormed
  renamed x y e f =
      f ∙ (rw (e, ← at_nodes s n i h)
      (rename_cong (λ j. get_or map j 0) (rank m) (at (nodes s n) i)
      λ j q. let b = operands_below (Within w.sound.0) i (at (nodes s n) i) (sound_well_formed w.sound.0 s n w.sound.1 i) j q in w.remaps.places j (omega arith)))

  pub write_kept : (r : List ℕ) (x y : NodeKind) → r ≡ written d (kept (nodes s n) m i) → Marked m i → x ≡ record_at s i → y ≡ rename (λ j. get_or map j 0) x
      → put r (get_or map i 0) y ≡ written d (kept (nodes s n) m (i + 1))
  unfolding kept
  write_kept r x y e q ex ey =
      rw (add-one i, q, e, renamed x y ex ey, w.remaps.places i h, ← length_kept (nodes s n) m i)
      (written_put d (kept (nodes s n) m i) (rename (rank m) (at (nodes s n) i)) (let b = rank_lt m i n q h in omega (arith, length_kept (nodes s n) m i, w.room)))

  pub write_skipped : (r : List ℕ) → r ≡ written d (kept (nodes s n) m i) → get_or m i false ≡ false → r ≡ written d (kept (nodes s n) m (i + 1))
  unfolding kept
  write_skipped r e q = rw (add-one i, q) e
