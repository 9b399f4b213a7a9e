-- The values of a list's records, one record a turn.
use Rattle.std.specs.Prelude.{ℕ, ◌+◌, ◌*◌, ◌≤◌, ◌<◌, List, Option, Some, None, Ok, Err, ◌≡◌, refl, ltb, length, set}
use Rattle.std.proofs.Common.{sym, ◌∙◌, ap, subst, add-one, arith, get_or-set_same, get_or-set_other}
use borrow.Author.Tests.{ltb-true}
use Rattle.std.proofs.Math.ListN.{get_or}
use Rattle.dag.specs.Refusals.{first_refused}
use Rattle.field.specs.Fields.{Field, Within, Low, element_laws}
use Rattle.field.specs.Field.{new}
use Rattle.field.specs.declared.QuadFelt.{QuadFelt}
use Rattle.dag.specs.View.{View}
use Rattle.dag.specs.Nodes.{nodes, record_at}
use Rattle.dag.specs.NodeLaws.{length_nodes, at_nodes}
use Rattle.dag.specs.CaseLaws.{and_true, below_suc_elim}
use Rattle.dag.specs.Store.{Sound}
use Rattle.dag.specs.StoreLaws.{sound_well_formed}
use Rattle.dag.specs.WellFormed.{WellFormed}
use Rattle.dag.specs.declared.Refusal.TheVariants.{Unassigned}
use Rattle.meaning.specs.Values.{value, value_of}
use Rattle.meaning.specs.ValueLaws.{value_at, value_low, value_of_cong}
use Rattle.entries.specs.Entries.{entry_check, entry_of, inputs_check}
use Rattle.entries.specs.EntryLaws.{entries_pass, entry_passed, entry_inside, an_entry, no_entry}
use Rattle.evaluate.specs.Calls.{entry_words, element_of, given}
use Rattle.evaluate.specs.Promises.{at_place, record_answer, Valued, Passed, Filled}
use Rattle.evaluate.specs.RecordLaws.{answered, unanswered}
use Rattle.dag.specs.OperandLaws.{fine}

module _ (field : Field) where
  -- the elements that entries in lowest form give
  module _ (a : List ℕ) (m : ℕ) (good : first_refused (entry_check field.bounds entry_words a) m ≡ Ok tt) where
    entry_low : (i : ℕ) → i < m → Low field (element_of a (Some i))
    unfolding element_of
    entry_low i h =
        let c0 = get_or a (entry_words * i + 1) 0 in
        let c1 = get_or a (entry_words * i + 2) 0 in
        let m = field.bounds in
        let w = and_true (ltb c0 m.c0_below) (ltb c1 m.c1_below) (entry_passed m entry_words a _ good i h).1 in
        (ltb-true c0 m.c0_below w.0, ltb-true c1 m.c1_below w.1)

    found_low : (f : Option ℕ) → ((i : ℕ) → f ≡ Some i → i < m) → Low field (element_of a f)
    unfolding element_of
    found_low (Some i) h = entry_low i (h i refl)
    found_low None h = (omega (arith, field.large), field.zero_second)

    pub given_low : (key : ℕ) → Low field (given a m key)
    unfolding given
    given_low key = found_low (entry_of entry_words a m key) (λ i e. entry_inside entry_words a key m i e)

  module _ (s : View) (n : ℕ) (sound : Sound field.bounds s n) (a : List ℕ) (m : ℕ) (passed : Passed field a m) where
    well_formed : WellFormed (Within field.bounds) (nodes s n)
    well_formed = sound_well_formed field.bounds s n sound

    low : (i : ℕ) → Low field (value field.elements (given a m) (nodes s n) i)
    low = value_low field.elements (element_laws field) (given a m) (given_low a m (entries_pass field.bounds entry_words a m passed (omega arith)).1) (nodes s n) well_formed

    module _ (values : List QuadFelt) (i : ℕ) (h : i < n) (l : n ≤ length values) (f : Filled field s n a m values i) where
      pub may_value : Valued field i values
      may_value = record { fits = omega arith; low = λ j q. subst (Low field) (sym (f j q)) (low j) }

      -- the value computed is the record's
      valued : (v : QuadFelt) → v ≡ value_of field.elements (given a m) (at_place values) (record_at s i) → v ≡ value field.elements (given a m) (nodes s n) i
      valued v e =
          e ∙ (value_of_cong field.elements (given a m) (Low field) (at_place values) (value field.elements (given a m) (nodes s n)) i (record_at s i) (fine field.bounds s n sound i h) f
          ∙ (ap (value_of field.elements (given a m) (value field.elements (given a m) (nodes s n))) (sym (at_nodes s n i h))
          ∙ sym (value_at field.elements (given a m) (Within field.bounds) (nodes s n) well_formed i (omega (arith, length_nodes s n)))))

      pub filled_more : (v : QuadFelt) (after : List QuadFelt) → Some v ≡ record_answer field a m (at_place values) (record_at s i) → after ≡ set values i v → Filled field s n a m after (i + 1)
      filled_more v after e q =
          rw (add-one i, q)
          (below_suc_elim (λ j. at_place (set values i v) j ≡ value field.elements (given a m) (nodes s n) j) i
          (λ j q. get_or-set_other values i j v (new 0 0) (omega arith) ∙ f j q)
          (get_or-set_same values i v (new 0 0) (omega arith) ∙ valued v (answered field a m (at_place values) (record_at s i) v e).1))

    -- the inputs up to place i have entries
    module _ (v : ℕ → QuadFelt) (i : ℕ) (h : i < n) (before : inputs_check (entry_of entry_words a m) (nodes s n) i ≡ Ok tt) where
      pub input_more : (w : QuadFelt) → Some w ≡ record_answer field a m v (record_at s i) → inputs_check (entry_of entry_words a m) (nodes s n) (i + 1) ≡ Ok tt
      input_more w e = an_entry (entry_of entry_words a m) s n i (record_at s i) h before refl (answered field a m v (record_at s i) w e).0

      pub input_none : None ≡ record_answer field a m v (record_at s i) → Err (Unassigned i) ≡ inputs_check (entry_of entry_words a m) (nodes s n) n
      input_none e = no_entry (entry_of entry_words a m) s n i (record_at s i) h before refl (unanswered field a m v (record_at s i) e)
