-- Where Compact accepts: what its result store holds, from its answered count and roots.
use Rattle.std.specs.Prelude.{ℕ, ◌≤◌, ◌<◌, List, Ok, ◌↔◌, ◌≡◌, map, length}
use Rattle.std.proofs.Common.{arith}
use Rattle.std.proofs.lemmas.List.{length-map}
use Rattle.field.specs.Fields.{Field, Within}
use Rattle.ring.specs.Ring.{Ops}
use Rattle.field.specs.declared.QuadFelt.{QuadFelt}
use Rattle.dag.specs.View.{View, interleaved}
use Rattle.dag.specs.Nodes.{nodes}
use Rattle.dag.specs.Store.{stored}
use Rattle.dag.specs.NodeLaws.{length_nodes}
use Rattle.dag.specs.Check.{list_check}
use Rattle.dag.specs.PassLaws.{Rooted, rooted}
use Rattle.dag.specs.StoreLaws.{sound_well_formed}
use Rattle.dag.specs.WellFormed.{WellFormed}
use Rattle.meaning.specs.Values.{value}
use Rattle.dag.specs.Roots.{roots_from, Inside}
use Rattle.dag.specs.RootLaws.{roots_from_lem}
use Rattle.compact.specs.Reach.{Reach, marks}
use Rattle.compact.specs.Compact.{rank, compact}
use Rattle.compact.specs.OperandLaws.{roots_below, inside_again}
use Rattle.compact.specs.CompactLaws.{compact_short, compact_well_formed, compact_inside, compact_values, compact_count, compact_twice}
use Rattle.dag.specs.WordLaws.{nodes_stored, stored_pass}
use Rattle.compact.specs.Calls.{compacted, kept_of, compact_check, compact_result}
use Rattle.compact.specs.CallLaws.{tests}
use Rattle.compact.specs.Promises.{AllBelow}
use Rattle.dag.specs.declared.RootedDag.{RootedDag}

module _ (field : Field) where
  module _ (s : View) (n : ℕ) (roots result : List ℕ) (e : compact_check field s n roots (interleaved result).room ≡ Ok tt) where
    -- the answer and the result store
    abbrev kept : RootedDag
    kept = kept_of (compacted s n roots)

    abbrev new_roots : List ℕ
    new_roots = (compacted s n roots).roots

    abbrev store : List ℕ
    store = compact_result field s n roots result

    passed : Rooted field.bounds s n roots
    passed = rooted field.bounds s n roots (tests field s n roots result e).0

    well_formed : WellFormed (Within field.bounds) (nodes s n)
    well_formed = sound_well_formed field.bounds s n passed.list.sound

    inside : AllBelow (length (nodes s n)) roots
    inside = rw (length_nodes s n) (roots_below n roots passed.inside)

    store_is : store ≡ stored result (compacted s n roots).list
    unfolding compact_result
    store_is = rw e

    -- as many roots as before
    pub answer_many : length new_roots ≡ length roots
    unfolding compacted compact
    answer_many = length-map roots (rank (marks (nodes s n) roots))

    -- in the compacted list
    pub answer_inside : Inside (length (compacted s n roots).list) (roots_from new_roots)
    unfolding compacted
    answer_inside =
        inside_again n _ (roots_from roots) new_roots passed.inside (rw (roots_from_lem roots) answer_many)
        (compact_inside (nodes s n) roots (Within field.bounds) well_formed inside)

    -- it holds the compacted list
    pub answer_list : nodes (interleaved store) kept.count ≡ (compacted s n roots).list
    unfolding kept_of
    answer_list = rw store_is (nodes_stored result (compacted s n roots).list)

    -- it passes the list check
    pub answer_passes : list_check field.bounds (interleaved store) kept.count new_roots ≡ Ok tt
    unfolding kept_of compacted
    answer_passes =
        rw store_is
        (stored_pass result (compacted s n roots).list field.bounds
        (compact_well_formed (nodes s n) roots (Within field.bounds) well_formed inside) new_roots
        answer_inside
        (omega (arith, compact_short (nodes s n) roots, length_nodes s n, passed.list.most)))

    root_values : (F : Ops QuadFelt) (given : ℕ → QuadFelt) → map (value F given (compacted s n roots).list) new_roots ≡ map (value F given (nodes s n)) roots
    unfolding compacted
    root_values F given = compact_values (nodes s n) roots (Within field.bounds) well_formed inside F given

    -- every root's value is kept, in their order, over any ring and any elements given to the keys
    pub answer_values : (F : Ops QuadFelt) (given : ℕ → QuadFelt) → map (value F given (nodes (interleaved store) kept.count)) new_roots ≡ map (value F given (nodes s n)) roots
    answer_values F given = rw answer_list (root_values F given)

    -- never more records than before
    pub answer_count : kept.count ≤ n
    unfolding kept_of compacted
    answer_count = omega (arith, compact_short (nodes s n) roots, length_nodes s n)

    -- as many as before exactly when the roots reach all
    pub answer_whole : (kept.count ≡ n) ↔ ((i : ℕ) → i < n → Reach (nodes s n) roots i)
    unfolding kept_of compacted
    answer_whole = rw (length_nodes s n) at (compact_count (nodes s n) roots (Within field.bounds) well_formed inside)

    twice : compact (compacted s n roots).list new_roots ≡ compacted s n roots
    unfolding compacted
    twice = compact_twice (Within field.bounds) (nodes s n) roots well_formed inside

    -- compacting the answer changes nothing more
    pub answer_again : compacted (interleaved store) kept.count new_roots ≡ compacted s n roots
    unfolding compacted
    answer_again = rw answer_list twice
