-- One round on a store: whether it is kept, and what it leaves.
use Rattle.std.specs.Prelude.{ℕ, ◌*◌, ◌<◌, ◌≤◌, true, false, Some, None, List, map, ◌≡◌, refl, length}
use Rattle.std.proofs.Common.{inl, inr, sym, ◌∙◌, lt-ltb}
use Rattle.std.proofs.Math.Path.{ap, ap₂}
use native.Mathlib.Omega.{arith}
use Rattle.field.specs.Fields.{Field, Low, element_laws}
use Rattle.dag.specs.View.{interleaved}
use Rattle.dag.specs.Nodes.{nodes}
use Rattle.dag.specs.NodeLaws.{length_nodes}
use Rattle.dag.specs.Roots.{roots_of, roots_from}
use Rattle.dag.specs.RootLaws.{roots_from_lem, roots_agree, inside_renamed}
use Rattle.dag.specs.Store.{written}
use Rattle.dag.specs.WellFormed.{WellFormed}
use Rattle.dag.specs.declared.Roots.{Roots}
use Rattle.builder.specs.Steps.{Replay, place_of}
use Rattle.builder.specs.OutcomeLaws.{list_fine}
use Rattle.builder.specs.HoldLaws.{count_is, place_read}
use Rattle.builder.specs.Promises.{read}
use Rattle.compact.specs.OperandLaws.{inside_below}
use Rattle.compact.specs.Compact.{compact}
use Rattle.compact.specs.Promises.{Markable, most_marks}
use Rattle.compact.specs.Calls.{compacted, kept_of}
use Rattle.dag.specs.WordLaws.{nodes_written, sound_written}
use Rattle.plan.specs.Plan.{fanout}
use Rattle.normalize.specs.Rounds.{round, fired, rounded, is_kept}
use Rattle.normalize.specs.RoundLaws.{round_replayed, round_length, rounded_well_formed}
use Rattle.normalize.specs.RepeatLaws.{not_kept_when}
use Rattle.normalize.specs.Promises.{RoundEnds, Ready, Once}

module _ (field : Field) where
  stays_once : (s : List ℕ) (n : ℕ) (roots : Roots) → is_kept field.elements (nodes (interleaved s) n) (roots_of roots) ≡ false → Once field s n roots s None
  stays_once s n roots e = record { kept_is = sym e; left = refl }

  -- a round in which no rewrite fired
  pub not_fired : {s : List ℕ} {n : ℕ} {roots : Roots} {fan work places : List ℕ} → RoundEnds field s n fan work places None → read fan ≡ fanout (nodes (interleaved s) n) (roots_of roots)
      → Once field s n roots s None
  not_fired {s} {n} {roots} h ef =
      stays_once s n roots
      ((not_kept_when field.elements (nodes (interleaved s) n) (roots_of roots)).1
      (inl (sym (h.fired_is ∙ ap₂ (fired (nodes (interleaved s) n)) ef (sym (length_nodes (interleaved s) n))))))

  -- a round on a list that is ready, in which a rewrite fired: what it left in its stores
  module _ {s : List ℕ} {n : ℕ} {roots : Roots} {k : ℕ} (ready : Ready field s n roots k) {fan work places : List ℕ} {count : ℕ} (h : RoundEnds field s n fan work places (Some count))
      (ef : read fan ≡ fanout (nodes (interleaved s) n) (roots_of roots)) where
    r : Replay
    r = round field.elements (nodes (interleaved s) n) (read fan) n

    w : WellFormed (Low field) (nodes (interleaved s) n)
    w = list_fine field (interleaved s) n ready.sound

    fired_is : true ≡ fired (nodes (interleaved s) n) (fanout (nodes (interleaved s) n) (roots_of roots)) (length (nodes (interleaved s) n))
    fired_is = h.fired_is ∙ ap₂ (fired (nodes (interleaved s) n)) ef (sym (length_nodes (interleaved s) n))

    pub round_short : count ≤ 2 * n
    unfolding r w
    round_short = let a = count_is field r n work places count h.holds in let b = round_length field.elements (element_laws field) (nodes (interleaved s) n) w (read fan) n in omega arith

    place_is : (i : ℕ) → i < n → read places i ≡ place_of r i
    unfolding r
    place_is = place_read field r n work places count h.holds

    place_below : (i : ℕ) → i < n → read places i < count
    unfolding r w
    place_below i k =
        let a = count_is field r n work places count h.holds in
        let b = (round_replayed field.elements (element_laws field) (nodes (interleaved s) n) w (read fan) n).inside i k in
        rw (place_is i k, a) b

    module _ {new : Roots} (en : new ≡ roots_from (map (read places) (roots_of roots))) where
      new_roots : roots_of new ≡ map (place_of r) (roots_of roots)
      new_roots =
          rw (en, roots_from_lem (map (read places) (roots_of roots)))
          (roots_agree n roots ready.inside (read places) (place_of r) place_is)

      -- the round's list may be compacted
      pub markable : Markable (interleaved work) count new most_marks
      markable =
          let a = round_short in
          let f = ready.few in
          record { sound = (field.bounds, h.holds.sound); inside = rw en (inside_renamed (read places) n count roots ready.inside place_below); fits = omega arith }

      is_rounded : compacted (interleaved work) count (roots_of new) ≡ rounded field.elements (nodes (interleaved s) n) (roots_of roots)
      unfolding compacted rounded r
      is_rounded =
          ap₂ compact h.holds.list_is new_roots
          ∙ ap₂ (λ f m. compact (round field.elements (nodes (interleaved s) n) f m).list (map (place_of (round field.elements (nodes (interleaved s) n) f m)) (roots_of roots))) ef (sym (length_nodes (interleaved s) n))

      module _ {size : ℕ} (es : size ≡ length (compacted (interleaved work) count (roots_of new)).list) where
        size_is : size ≡ length (rounded field.elements (nodes (interleaved s) n) (roots_of roots)).list
        size_is = es ∙ ap (λ c. length c.list) is_rounded

        -- a round whose list is no shorter
        pub no_shorter : n ≤ size → Once field s n roots s None
        no_shorter less =
            let a = size_is in
            let b = length_nodes (interleaved s) n in
            stays_once s n roots ((not_kept_when field.elements (nodes (interleaved s) n) (roots_of roots)).1 (inr (omega arith)))

        -- a round that is kept: its compacted list is written
        pub kept_once : size < n → {after : List ℕ} {at-roots : Roots} → at-roots ≡ (kept_of (compacted (interleaved work) count (roots_of new))).roots → after ≡ written s (compacted (interleaved work) count (roots_of new)).list
            → Once field s n roots after (Some (record { count = size; roots = at-roots }))
        unfolding is_kept kept_of w
        kept_once less {after} er ea =
            let b = length_nodes (interleaved s) n in
            let lst = (rounded field.elements (nodes (interleaved s) n) (roots_of roots)).list in
            let fine = rounded_well_formed field.elements (element_laws field) (nodes (interleaved s) n) w (roots_of roots) (rw (length_nodes (interleaved s) n) (inside_below n roots ready.inside)) in
            let wr : after ≡ written s lst = ea ∙ ap (λ c. written s c.list) is_rounded in
            record {
              kept_is = rw (← fired_is) (sym (lt-ltb (length lst) (length (nodes (interleaved s) n)) (let a = size_is in omega arith)));
              left = record {
                sound = rw (size_is, wr) (sound_written field.bounds s lst fine);
                list_is = rw (size_is, wr) (nodes_written s lst);
                roots_are = er ∙ ap (λ c. roots_from c.roots) is_rounded;
              };
            }
