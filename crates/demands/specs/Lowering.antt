-- Lower in the list check's words: where it accepts, the list answered passes, the given records stand in front, and each place is inside.
use Rattle.std.specs.Prelude.{ℕ, ◌-◌, ◌≤◌, ◌<◌, ◌&&◌, List, map, ◌≡◌, get_or, replicate, Ok}
use Rattle.std.proofs.Math.Path.{sym}
use Rattle.std.proofs.Common.{◌∙◌, ap, arith, length-append, ext_get_or}
use borrow.Author.Tests.{leb-true}
use Rattle.std.proofs.Math.Dec.{leb}
use Rattle.std.proofs.Math.ListN.{length, get_or-append}
use Rattle.field.specs.Fields.{Field, Low}
use Rattle.dag.specs.CaseLaws.{and_true}
use Rattle.dag.specs.Roots.{roots_from, Inside}
use Rattle.dag.specs.RootLaws.{roots_from_lem, inside_renamed}
use Rattle.dag.specs.Check.{rootless_check, list_check}
use Rattle.dag.specs.CheckLaws.{then_good, need_good}
use Rattle.dag.specs.View.{View, interleaved, Agree}
use Rattle.dag.specs.Nodes.{blank, most_records, nodes, at, filled}
use Rattle.dag.specs.NodeLaws.{length_nodes, at_nodes, at_left}
use Rattle.dag.specs.Store.{stored}
use Rattle.dag.specs.StoreLaws.{same_list_agree}
use Rattle.dag.specs.WordLaws.{nodes_stored, sound_stored, stored_rootless, stored_pass}
use Rattle.dag.specs.WellFormed.{WellFormed}
use Rattle.dag.specs.declared.NodeKind.{NodeKind}
use Rattle.dag.specs.declared.NodeKind.TheVariants.{Input}
use Rattle.dag.specs.declared.Refusal.TheVariants.{NoRoom}
use Rattle.index.specs.NodeIndexLaws.{sound_first}
use Rattle.periodic.specs.Builder.{Extends}
use Rattle.lower.specs.CallLaws.{passed}
use Rattle.lower.specs.Lower.{lower_check, lowered, lower_room, whole_check, lower_result, lower_places}
use Rattle.worth.specs.LowerLaws.{lowered_extends, lowered_well_formed, lowered_count, lowered_inside}

module _ (field : Field) where
  module _ (s : View) (n : ℕ) (ls es : List ℕ) (period : ℕ) (result work places : List ℕ) (e : whole_check field s n ls es period result work places ≡ Ok tt) where
    -- the list answered, and the stores
    abbrev list : List NodeKind
    list = (lowered field s n ls es period).list

    abbrev store : List ℕ
    store = lower_result field s n ls es period result work places

    abbrev place_store : List ℕ
    place_store = lower_places field s n ls es period result work places

    both : (lower_check field s n ls es period (interleaved work).room (length places) ≡ Ok tt) × (lower_room (lowered field s n ls es period) (interleaved result).room ≡ Ok tt)
    unfolding whole_check
    both = then_good (lower_check field s n ls es period (interleaved work).room (length places)) (lower_room (lowered field s n ls es period) (interleaved result).room) e

    few : length list ≤ most_records
    unfolding lower_room
    few =
        let fits = leb (length list) most_records && leb (length list) (interleaved result).room in
        leb-true (length list) most_records (and_true (leb (length list) most_records) (leb (length list) (interleaved result).room) (need_good fits NoRoom both.1)).0

    well_formed : WellFormed (Low field) list
    well_formed = lowered_well_formed field s n ls es period (interleaved work).room (length places) both.0

    begins : store ≡ stored result list
    unfolding lower_result
    begins = rw e

    -- the result store holds the list
    pub answer_list : nodes (interleaved store) (length list) ≡ list
    answer_list = rw begins (nodes_stored result list)

    -- it passes the list check without a root
    pub answer_passes : rootless_check field.bounds 0 (interleaved store) (length list) ≡ Ok tt
    answer_passes = rw begins (stored_rootless result list field.bounds well_formed 0 (omega arith) few)

    -- the given records stand unchanged in front
    pub answer_front : Agree (interleaved store) s n
    unfolding at
    answer_front =
        same_list_agree field.bounds (interleaved store) s n
        (sound_first field.bounds (interleaved store) (length list) n longer (rw begins (sound_stored result list field.bounds well_formed)))
        (passed field s n ls es period (interleaved work).room (length places) both.0).list.sound
        (ext_get_or (Input 0) (nodes (interleaved store) n) (nodes s n) (length_nodes (interleaved store) n ∙ sym (length_nodes s n)) same)
      where
        extends : Extends (nodes s n) list
        extends = lowered_extends field s n ls es period

        longer : n ≤ length list
        longer = omega (arith, ap length extends.1, length-append (nodes s n) extends.0, length_nodes s n)

        same : (i : ℕ) → i < length (nodes (interleaved store) n) → at (nodes (interleaved store) n) i ≡ at (nodes s n) i
        same i h =
            let k : i < n = omega (arith, length_nodes (interleaved store) n) in
            at_nodes (interleaved store) n i k
            ∙ (sym (at_nodes (interleaved store) (length list) i (omega (arith, longer)))
            ∙ (ap (λ l. at l i) (answer_list ∙ extends.1) ∙ at_left (nodes s n) extends.0 i (omega (arith, length_nodes s n))))

    -- the place of column j
    place_is : (j : ℕ) → j < length ls → get_or place_store j 0 ≡ get_or (lowered field s n ls es period).answer j 0
    unfolding lower_places filled
    place_is j h =
        let a = (lowered field s n ls es period).answer in
        let many = lowered_count field s n ls es period (interleaved work).room (length places) both.0 in
        rw e (get_or-append a (replicate (length places - length a) blank) 0 j (omega arith))

    -- each place is inside
    pub answer_inside : (j : ℕ) → j < length ls → get_or place_store j 0 < length list
    answer_inside j h = rw (place_is j h) (lowered_inside field s n ls es period (interleaved work).room (length places) both.0 j h)

    -- the place of a column
    abbrev place_at : ℕ → ℕ
    place_at j = get_or place_store j 0

    -- the list passes the list check with the places of one to eight columns as its roots
    pub answer_rooted : (js : List ℕ) → Inside (length ls) (roots_from js) → list_check field.bounds (interleaved store) (length list) (map place_at js) ≡ Ok tt
    answer_rooted js columns =
        rw begins
        (stored_pass result list field.bounds well_formed (map place_at js)
        (rw (roots_from_lem js) at (inside_renamed place_at (length ls) (length list) (roots_from js) columns answer_inside)) few)
