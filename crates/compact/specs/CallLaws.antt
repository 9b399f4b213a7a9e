-- From the marks in an array to the compacted list, and what Compact answers.
use Rattle.std.specs.Prelude.{ℕ, ◌≤◌, ◌<◌, Bool, false, List, ◌++◌, map, Ok, Err, ◌≡◌, length, drop, replicate}
use Rattle.std.proofs.Common.{◌∙◌, arith}
use Rattle.std.proofs.Math.Path.{ap}
use Rattle.std.proofs.Math.ListN.{get_or}
use Rattle.std.proofs.lemmas.List.{length-replicate}
use Rattle.field.specs.Fields.{Field, Within}
use Rattle.dag.specs.View.{View, interleaved}
use Rattle.dag.specs.Nodes.{nodes}
use Rattle.dag.specs.NodeLaws.{length_nodes}
use Rattle.dag.specs.Roots.{roots_of, roots_from, Inside}
use Rattle.dag.specs.RootLaws.{roots_from_lem, roots_agree}
use Rattle.dag.specs.Check.{list_check}
use Rattle.dag.specs.CheckLaws.{then_good}
use Rattle.dag.specs.PassLaws.{room_enough, rooted}
use Rattle.dag.specs.ViewLaws.{same_room}
use Rattle.dag.specs.StoreLaws.{sound_well_formed}
use Rattle.dag.specs.declared.Refusal.{Refusal}
use Rattle.dag.specs.declared.Roots.{Roots}
use Rattle.compact.specs.Reach.{marked, sweep, marks}
use Rattle.compact.specs.Compact.{rank, ranks, kept, compact}
use Rattle.compact.specs.OperandLaws.{inside_below}
use Rattle.compact.specs.ArrayLaws.{Same, sweep_same, rank_same, kept_same, get_or_ranks}
use Rattle.compact.specs.CompactLaws.{compact_length, compact_short}
use Rattle.dag.specs.Store.{written, blanked_behind}
use Rattle.dag.specs.WordLaws.{length_written, written_stored}
use Rattle.compact.specs.Promises.{most_marks, Unmarked, Markable, Numbered, Writing}
use Rattle.compact.specs.Calls.{compacted, kept_of, compact_stores, compact_check, compact_answer, compact_result}
use Rattle.dag.specs.declared.RootedDag.{RootedDag}

module _ (s : View) (n : ℕ) (roots : Roots) (k : ℕ) (g : Markable s n roots k) (m : List Bool) (e : m ≡ sweep (nodes s n) n (marked (replicate k false) (roots_of roots))) where
  same : Same m (marks (nodes s n) (roots_of roots))
  same =
      sweep_same (Within g.sound.0) (nodes s n) (sound_well_formed g.sound.0 s n g.sound.1) (roots_of roots)
      (rw (length_nodes s n) (inside_below n roots g.inside)) k (omega (arith, length_nodes s n, g.fits)) m
      (rw (length_nodes s n) e)

  pub kept_list : kept (nodes s n) m n ≡ (compacted s n (roots_of roots)).list
  unfolding compacted compact
  kept_list = rw (length_nodes s n) (kept_same m (marks (nodes s n) (roots_of roots)) same (nodes s n) n)

  pub kept_count_lem : rank m n ≡ length (compacted s n (roots_of roots)).list
  unfolding compacted
  kept_count_lem = rank_same m (marks (nodes s n) (roots_of roots)) same n ∙ rw (compact_length (nodes s n) (roots_of roots), length_nodes s n)

  module _ (remap z : List ℕ) (f : remap ≡ ranks m n ++ drop n z) where
    new_place : (i : ℕ) → i < n → get_or remap i 0 ≡ rank m i
    new_place i h = rw f (get_or_ranks m (drop n z) n i h)

    pub new_roots : roots_from (map (λ i. get_or remap i 0) (roots_of roots)) ≡ (kept_of (compacted s n (roots_of roots))).roots
    unfolding compacted compact kept_of
    new_roots =
        ap roots_from
        (roots_agree n roots g.inside (λ i. get_or remap i 0) (rank (marks (nodes s n) (roots_of roots)))
        (λ i h. new_place i h ∙ rank_same m (marks (nodes s n) (roots_of roots)) same i))

    pub may_write : n ≤ length m → n ≤ length remap → (d : ℕ) → length (compacted s n (roots_of roots)).list ≤ d → Writing s n m remap d
    may_write hm hp d h = record { sound = g.sound; marks = hm; remaps = record { fits = hp; places = new_place }; room = rw kept_count_lem h }

-- marks and new places, as they are made
pub unmarked_long : (k : ℕ) (m : List Bool) → m ≡ replicate k false → length m ≡ k
unmarked_long k m e = ap length e ∙ length-replicate k false

pub numbered : (s : View) (n : ℕ) (roots : Roots) (m reach : List Bool) (map after : List ℕ) (r : ℕ) → Markable s n roots most_marks → Unmarked m → n ≤ length map
    → reach ≡ sweep (nodes s n) n (marked m (roots_of roots)) → length reach ≡ length m → r ≡ rank reach n → after ≡ ranks reach n ++ drop n map → length after ≡ length map
    → (r ≡ length (compacted s n (roots_of roots)).list) × Numbered s n roots reach after
numbered s n roots m reach map after r g u fits er el ec ea es =
    let marks : reach ≡ sweep (nodes s n) n (marked (replicate most_marks false) (roots_of roots)) = er ∙ ap (λ q. sweep (nodes s n) n (marked q (roots_of roots))) u in
    let long = unmarked_long most_marks m u in (
      ec ∙ kept_count_lem s n roots most_marks g reach marks,
      record {
        markable = g;
        marks_are = marks;
        marks_fit = omega (arith, long, el, g.fits);
        behind = map;
        places_are = ea;
        places_fit = omega (arith, es);
      },
    )

module _ (field : Field) where
  module _ (s : View) (n : ℕ) (roots : List ℕ) (result : List ℕ) where
    -- where Compact refuses
    module _ (r : Refusal) (e : compact_check field s n roots (interleaved result).room ≡ Err r) where
      pub answer_refused : Err r ≡ compact_answer field s n roots (interleaved result).room
      unfolding compact_answer
      answer_refused = rw e

      pub result_refused : result ≡ compact_result field s n roots result
      unfolding compact_result
      result_refused = rw e

    -- where Compact accepts
    module _ (e : compact_check field s n roots (interleaved result).room ≡ Ok tt) where
      pub tests : (list_check field.bounds s n roots ≡ Ok tt) × (compact_stores n (interleaved result).room ≡ Ok tt)
      unfolding compact_check
      tests = then_good (list_check field.bounds s n roots) (compact_stores n (interleaved result).room) e

      pub room : length (compacted s n roots).list ≤ (interleaved result).room
      unfolding compacted
      room = omega (arith, room_enough n (interleaved result).room tests.1, compact_short (nodes s n) roots, length_nodes s n)

      module _ (rs : Roots) (q : rs ≡ roots_from roots) where
        roots_are : roots_of rs ≡ roots
        roots_are = rw (q, roots_from_lem roots)

        pub may_compact : Inside n rs × (length (compacted s n (roots_of rs)).list ≤ (interleaved result).room)
        may_compact = (rw q (rooted field.bounds s n roots tests.0).inside, rw roots_are room)

        module _ (k : RootedDag) (f : k ≡ kept_of (compacted s n (roots_of rs))) where
          pub answer_done : Ok k ≡ compact_answer field s n roots (interleaved result).room
          unfolding compact_answer
          answer_done = rw (e, f, roots_are)

          count_is : k.count ≡ length (compacted s n roots).list
          unfolding kept_of
          count_is = rw (f, roots_are)

          module _ (mid : List ℕ) (w : mid ≡ written result (compacted s n (roots_of rs)).list) where
            pub may_blank : k.count ≤ (interleaved mid).room
            may_blank =
                rw (count_is, same_room mid result (ap length (w ∙ ap (λ is. written result (compacted s n is).list) roots_are) ∙ length_written result (compacted s n roots).list room))
                room

            pub result_done : (after : List ℕ) → after ≡ blanked_behind mid k.count → after ≡ compact_result field s n roots result
            unfolding compact_result
            result_done after g = g ∙ rw (e, w, roots_are, count_is) (written_stored result (compacted s n roots).list room)
