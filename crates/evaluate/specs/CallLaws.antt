-- What lists and entries that pass Evaluate's tests are known to be, and what Evaluate then answers.
use Rattle.std.specs.Prelude.{ℕ, ◌<◌, List, map, Some, Ok, Err, ◌≡◌, get_or}
use Rattle.std.proofs.Common.{◌∙◌}
use Rattle.std.proofs.Math.Path.{ap}
use Rattle.field.specs.Fields.{Field}
use Rattle.field.specs.declared.QuadFelt.{QuadFelt}
use Rattle.dag.specs.View.{View}
use Rattle.dag.specs.Nodes.{nodes, at}
use Rattle.dag.specs.Refusals.{need, ◌then◌}
use Rattle.dag.specs.Check.{list_check}
use Rattle.dag.specs.CheckLaws.{first_good, then_good, need_good}
use Rattle.dag.specs.PassLaws.{rooted}
use Rattle.dag.specs.Roots.{roots_of, roots_from}
use Rattle.dag.specs.RootLaws.{map_agree}
use Rattle.dag.specs.declared.Refusal.{Refusal}
use Rattle.dag.specs.declared.Refusal.TheVariants.{Unassigned}
use Rattle.dag.specs.declared.NodeKind.TheVariants.{Input}
use Rattle.meaning.specs.Values.{value}
use Rattle.entries.specs.Entries.{entries_check, entry_of, has_entry, inputs_check}
use Rattle.entries.specs.EntryLaws.{Last, found_last}
use Rattle.evaluate.specs.Calls.{entry_words, element_of, given, values_from, evaluate_check, evaluate_answer}
use Rattle.evaluate.specs.Promises.{at_place, Passed, Filled}

module _ (field : Field) where
  module _ (s : View) (n : ℕ) (roots a : List ℕ) (m : ℕ) where
    -- where Evaluate refuses
    pub answer_refused : (r : Refusal) → evaluate_check field s n roots a m ≡ Err r → Err r ≡ evaluate_answer field s n roots a m
    unfolding evaluate_answer
    answer_refused r e = rw e

    pub list_refused : (r : Refusal) → list_check field.bounds s n roots ≡ Err r → Err r ≡ evaluate_answer field s n roots a m
    unfolding evaluate_check
    list_refused r e = answer_refused r (rw e)

    -- where the list passes
    module _ (list : list_check field.bounds s n roots ≡ Ok tt) where
      pub entries_refused : (r : Refusal) → entries_check field.bounds entry_words a m ≡ Err r → Err r ≡ evaluate_answer field s n roots a m
      unfolding evaluate_check
      entries_refused r e = answer_refused r (rw (list, e))

      -- and the entries pass
      module _ (passed : Passed field a m) where
        inputs_left : evaluate_check field s n roots a m ≡ inputs_check (entry_of entry_words a m) (nodes s n) n
        unfolding evaluate_check
        inputs_left = rw (list, passed)

        pub inputs_refused : (r : Refusal) → inputs_check (entry_of entry_words a m) (nodes s n) n ≡ Err r → Err r ≡ evaluate_answer field s n roots a m
        inputs_refused r e = answer_refused r (inputs_left ∙ e)

        pub inputs_value : inputs_check (entry_of entry_words a m) (nodes s n) n ≡ Ok tt → (values : List QuadFelt) → Filled field s n a m values n
            → Ok (values_from (map (at_place values) roots)) ≡ evaluate_answer field s n roots a m
        unfolding evaluate_answer roots_of roots_from
        inputs_value e values filled =
            let inside = (rooted field.bounds s n roots list).inside in
            rw (map_agree (at_place values) (value field.elements (given a m) (nodes s n)) roots (λ j h. filled (get_or roots j 0) (inside.below j h)), inputs_left ∙ e)

    -- where Evaluate accepts
    module _ (e : evaluate_check field s n roots a m ≡ Ok tt) where
      tests : (list_check field.bounds s n roots ≡ Ok tt) × (entries_check field.bounds entry_words a m ≡ Ok tt) × (inputs_check (entry_of entry_words a m) (nodes s n) n ≡ Ok tt)
      unfolding evaluate_check
      tests =
          let one = then_good (list_check field.bounds s n roots) (entries_check field.bounds entry_words a m then inputs_check (entry_of entry_words a m) (nodes s n) n) e in
          let two = then_good (entries_check field.bounds entry_words a m) (inputs_check (entry_of entry_words a m) (nodes s n) n) one.1 in
          (one.0, two.0, two.1)

      -- it answers each root's value under its assignment
      pub accepted_value : evaluate_answer field s n roots a m ≡ Ok (values_from (map (value field.elements (given a m) (nodes s n)) roots))
      unfolding evaluate_answer
      accepted_value = rw e

      -- every input's key, reachable or not, has a last entry, and is given that entry's element
      pub accepted_input : (i key : ℕ) → i < n → at (nodes s n) i ≡ Input key → (j : ℕ) × Last entry_words a m key j × (given a m key ≡ element_of a (Some j))
      unfolding inputs_check given
      accepted_input i key h q =
          let has = need_good (has_entry (entry_of entry_words a m) (at (nodes s n) i)) (Unassigned i) (first_good (λ i. need (has_entry (entry_of entry_words a m) (at (nodes s n) i)) (Unassigned i)) n tests.2 i h) in
          let found = found_last entry_words a key m (rw q at has) in
          (found.0, found.2, ap (element_of a) found.1)
