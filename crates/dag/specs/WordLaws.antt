-- A list's words at the start of a store: the store holds the list, and passes the tests that the list meets.
use Prim.Native.Nat.{ℕ, zero, suc, ◌+◌, ◌*◌, ◌-◌, ◌≤◌, ◌<◌}
use mathlib.Core.List.{List, [], ◌∷◌, ◌++◌, append_assoc}
use Rattle.std.specs.Prelude.{◌≡◌, get_or, set, Ok}
use Rattle.std.proofs.Math.Path.{refl}
use Rattle.std.proofs.Common.{◌∙◌, ap, take-append-drop, drop-cons, drop_at}
use native.Mathlib.Omega.{arith}
use Rattle.std.proofs.Math.ListN.{length, take, drop, replicate, length-append, length-drop}
use Rattle.std.proofs.lemmas.List.{set_at}
use Rattle.std.proofs.Math.Seq.{take_at, append_snoc, ext_get_or, length-take-le}
use Rattle.field.specs.Fields.{Bounds, Within}
use Rattle.dag.specs.View.{interleaved}
use Rattle.dag.specs.ViewLaws.{room_words, words_room}
use Rattle.dag.specs.Refusals.{first_refused}
use Rattle.dag.specs.Nodes.{tag, first, second, record_at, nodes, at, words, words_of, filled, blank, most_records}
use Rattle.dag.specs.NodeLaws.{decode_words, length_nodes, at_nodes, length_snoc}
use Rattle.dag.specs.Check.{check_at, records_check, rootless_check, list_check}
use Rattle.dag.specs.CheckLaws.{passes, fine_passes}
use Rattle.dag.specs.PassLaws.{rootless_passes, list_passes}
use Rattle.dag.specs.Roots.{roots_from, Inside}
use Rattle.dag.specs.Store.{put, front, behind, written, stored, copied, copied_records, blanked_behind, Sound}
use Rattle.dag.specs.StoreLaws.{words_snoc, length_words, front_words}
use Rattle.dag.specs.WellFormed.{WellFormed}
use Rattle.dag.specs.declared.NodeKind.{NodeKind}
use Rattle.dag.specs.declared.NodeKind.TheVariants.{Input}

pub written_nil : (s : List ℕ) → written s [] ≡ s
unfolding written words_of behind
written_nil s = refl

-- the three words of the record at place i
record WordsAt (s : List ℕ) (i : ℕ) (x : NodeKind) : Type 0 where
  tag_is : get_or s (3 * i) 0 ≡ tag x
  first_is : get_or s (3 * i + 1) 0 ≡ first x
  second_is : get_or s (3 * i + 2) 0 ≡ second x

module _ (t : List ℕ) where
  words_at_lem : (l : List NodeKind) (i : ℕ) → i < length l → WordsAt (words_of l ++ t) i (at l i)
  unfolding words_of words at
  words_at_lem [] i h = absurd (omega arith)
  words_at_lem (x ∷ l) zero h = record { tag_is = refl; first_is = refl; second_is = refl }
  words_at_lem (x ∷ l) (suc i) h =
      let e₀ : 3 * suc i ≡ suc (suc (suc (3 * i))) = omega arith in
      let e₁ : 3 * suc i + 1 ≡ suc (suc (suc (3 * i + 1))) = omega arith in
      let e₂ : 3 * suc i + 2 ≡ suc (suc (suc (3 * i + 2))) = omega arith in
      let w = words_at_lem l i (omega arith) in
      record { tag_is = rw e₀ w.tag_is; first_is = rw e₁ w.first_is; second_is = rw e₂ w.second_is }

  -- the store holds the list
  pub nodes_words : (l : List NodeKind) → nodes (interleaved (words_of l ++ t)) (length l) ≡ l
  unfolding at record_at interleaved
  nodes_words l =
      ext_get_or (Input 0) (nodes (interleaved (words_of l ++ t)) (length l)) l (length_nodes (interleaved (words_of l ++ t)) (length l)) λ i h.
      let k : i < length l = omega (arith, length_nodes (interleaved (words_of l ++ t)) (length l)) in
      let w = words_at_lem l i k in
      at_nodes (interleaved (words_of l ++ t)) (length l) i k ∙ rw (w.tag_is, w.first_is, w.second_is) (decode_words (at l i))

  module _ (m : Bounds) (l : List NodeKind) (f : WellFormed (Within m) l) where
    check_words : (i : ℕ) → i < length l → check_at m (interleaved (words_of l ++ t)) i ≡ Ok tt
    unfolding check_at WellFormed interleaved
    check_words i h =
        let w = words_at_lem l i h in
        rw (w.tag_is, w.first_is, w.second_is) (passes m _ _ _ i (fine_passes m i (at l i) (f i)))

    checks_words : (n : ℕ) → n ≤ length l → records_check m (interleaved (words_of l ++ t)) n ≡ Ok tt
    unfolding first_refused
    checks_words zero h = refl
    checks_words (suc n) h = rw (checks_words n (omega arith)) (check_words n h)

    -- the store passes the tests of records
    pub sound_words : Sound m (interleaved (words_of l ++ t)) (length l)
    sound_words =
        record {
          room = words_room (words_of l ++ t) (length l) (omega (arith, length-append (words_of l) t, length_words l));
          good = checks_words (length l) (omega arith);
        }

    -- the store passes the tests of a list of at least `least` records
    pub words_rootless : (least : ℕ) → least ≤ length l → length l ≤ most_records → rootless_check m least (interleaved (words_of l ++ t)) (length l) ≡ Ok tt
    words_rootless least h k = rootless_passes m least _ (length l) sound_words h k

    -- the store passes the list check
    pub words_pass : (roots : List ℕ) → Inside (length l) (roots_from roots) → length l ≤ most_records → list_check m (interleaved (words_of l ++ t)) (length l) roots ≡ Ok tt
    words_pass roots inside k = list_passes m _ (length l) roots sound_words k inside

-- three words stored one after the other
set_three : (p ys : List ℕ) (a b c x y z n : ℕ) → length p ≡ n
    → set (set (set (p ++ a ∷ b ∷ c ∷ ys) n x) (n + 1) y) (n + 2) z ≡ (p ++ (x ∷ y ∷ z ∷ [])) ++ ys
set_three p ys a b c x y z n e =
    rw (set_at p a (b ∷ c ∷ ys) x n e, ← append_snoc p x (b ∷ c ∷ ys))
    (rw (set_at (p ++ (x ∷ [])) b (c ∷ ys) y (n + 1) (omega (arith, length_snoc p x)), ← append_snoc (p ++ (x ∷ [])) y (c ∷ ys))
    (rw (set_at ((p ++ (x ∷ [])) ++ (y ∷ [])) c ys z (n + 2) (omega (arith, length_snoc p x, length_snoc (p ++ (x ∷ [])) y)))
    (simp append_assoc)))

-- a record written behind the last one
pub written_put : (s : List ℕ) (l : List NodeKind) (x : NodeKind) → length l < (interleaved s).room → put (written s l) (length l) x ≡ written s (l ++ (x ∷ []))
unfolding written put words behind
written_put s l x h =
    rw (split, length_snoc l x, words_snoc l x, three)
    (set_three (words_of l) (drop (suc (suc (suc (3 * length l)))) s) _ _ _ (tag x) (first x) (second x) (3 * length l) (length_words l))
  where
    fits : 3 * suc (length l) ≤ length s
    fits = room_words s (suc (length l)) h

    split : drop (3 * length l) s ≡ get_or s (3 * length l) 0 ∷ get_or s (suc (3 * length l)) 0 ∷ get_or s (suc (suc (3 * length l))) 0 ∷ drop (suc (suc (suc (3 * length l)))) s
    split = rw (drop-cons s (3 * length l) 0 (omega (arith, fits)), drop-cons s (suc (3 * length l)) 0 (omega (arith, fits)), drop-cons s (suc (suc (3 * length l))) 0 (omega (arith, fits)))

    three : 3 * suc (length l) ≡ suc (suc (suc (3 * length l)))
    three = omega arith

module _ (s : List ℕ) (l : List NodeKind) (h : length l ≤ (interleaved s).room) where
  pub length_written : length (written s l) ≡ length s
  unfolding written behind
  length_written = omega (arith, room_words s (length l) h, length-append (words_of l) (drop (3 * length l) s), length_words l, length-drop (3 * length l) s)

  -- with blanks behind the list, a result store
  pub written_stored : blanked_behind (written s l) (length l) ≡ stored s l
  unfolding stored filled blanked_behind written behind
  written_stored = rw (length_written, front_written, length_words l)
    where
      front_written : take (3 * length l) (words_of l ++ drop (3 * length l) s) ≡ words_of l
      front_written = take_at (words_of l) (drop (3 * length l) s) (3 * length l) (length_words l)

pub front_written : (s : List ℕ) (l : List NodeKind) → front (length l) (written s l) ≡ words_of l
unfolding written front
front_written s l = take_at (words_of l) (behind (length l) s) (3 * length l) (length_words l)

pub behind_written : (s : List ℕ) (l : List NodeKind) → behind (length l) (written s l) ≡ behind (length l) s
unfolding written behind
behind_written s l = drop_at (words_of l) (drop (3 * length l) s) (3 * length l) (length_words l)

pub nodes_written : (s : List ℕ) (l : List NodeKind) → nodes (interleaved (written s l)) (length l) ≡ l
unfolding written
nodes_written s l = nodes_words (behind (length l) s) l

pub sound_written : (m : Bounds) (s : List ℕ) (l : List NodeKind) → WellFormed (Within m) l → Sound m (interleaved (written s l)) (length l)
unfolding written
sound_written m s l f = sound_words (behind (length l) s) m l f

-- a store that holds a list
module _ (s : List ℕ) (l : List NodeKind) where
  pub nodes_stored : nodes (interleaved (stored s l)) (length l) ≡ l
  unfolding stored filled
  nodes_stored = nodes_words (replicate (length s - length (words_of l)) blank) l

  module _ (m : Bounds) (f : WellFormed (Within m) l) where
    pub sound_stored : Sound m (interleaved (stored s l)) (length l)
    unfolding stored filled
    sound_stored = sound_words (replicate (length s - length (words_of l)) blank) m l f

    pub stored_rootless : (least : ℕ) → least ≤ length l → length l ≤ most_records → rootless_check m least (interleaved (stored s l)) (length l) ≡ Ok tt
    unfolding stored filled
    stored_rootless = words_rootless (replicate (length s - length (words_of l)) blank) m l f

    pub stored_pass : (roots : List ℕ) → Inside (length l) (roots_from roots) → length l ≤ most_records → list_check m (interleaved (stored s l)) (length l) roots ≡ Ok tt
    unfolding stored filled
    stored_pass = words_pass (replicate (length s - length (words_of l)) blank) m l f

-- blanks behind a list that passes
pub blanked_stored : (m : Bounds) (s d : List ℕ) (n : ℕ) → Sound m (interleaved s) n → length s ≡ length d → blanked_behind s n ≡ stored d (nodes (interleaved s) n)
unfolding blanked_behind stored filled front
blanked_stored m s d n sound e =
    rw (front_take, e, length_words (nodes (interleaved s) n), length_nodes (interleaved s) n)
  where
    front_take : take (3 * n) s ≡ words_of (nodes (interleaved s) n)
    front_take = front_words m s n sound

-- a store's own list written over it
pub written_own : (m : Bounds) (s : List ℕ) (n : ℕ) → Sound m (interleaved s) n → written s (nodes (interleaved s) n) ≡ s
unfolding written behind front
written_own m s n sound = rw (length_nodes (interleaved s) n, ← front_take) (take-append-drop (3 * n) s)
  where
    front_take : take (3 * n) s ≡ words_of (nodes (interleaved s) n)
    front_take = front_words m s n sound

-- a list that passes, copied to another store
pub copied_written : (m : Bounds) (s d : List ℕ) (n : ℕ) → Sound m (interleaved s) n → copied_records s d n ≡ written d (nodes (interleaved s) n)
unfolding copied_records copied written behind front
copied_written m s d n sound = rw (length_nodes (interleaved s) n) (ap (λ w. w ++ drop (3 * n) d) front_take)
  where
    front_take : take (3 * n) s ≡ words_of (nodes (interleaved s) n)
    front_take = front_words m s n sound

-- records copied from one store to another
module _ (s d : List ℕ) (n : ℕ) (h : n ≤ (interleaved s).room) where
  pub front_copied : front n (copied_records s d n) ≡ front n s
  unfolding front copied_records copied
  front_copied = take_at (take (3 * n) s) (drop (3 * n) d) (3 * n) (length-take-le (3 * n) s (room_words s n h))

  -- with blanks behind them
  pub copied_blanked : length (copied_records s d n) ≡ length d → blanked_behind (copied_records s d n) n ≡ filled (length d) (front n s)
  unfolding blanked_behind filled front
  copied_blanked e = rw (e, length-take-le (3 * n) s (room_words s n h)) (ap (λ w. w ++ replicate (length d - 3 * n) blank) taken)
    where
      taken : take (3 * n) (copied_records s d n) ≡ take (3 * n) s
      taken = front_copied

-- a list that passes, with blanks behind it
pub filled_front : (m : Bounds) (s d : List ℕ) (n : ℕ) → Sound m (interleaved s) n → filled (length d) (front n s) ≡ stored d (nodes (interleaved s) n)
unfolding stored
filled_front m s d n sound = ap (filled (length d)) (front_words m s n sound)
