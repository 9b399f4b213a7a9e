-- The value of one record by its kind.
use Rattle.std.specs.Prelude.{ℕ, ◌<◌, List, Option, Some, None, is_some, option_map, Bool}
use Rattle.std.proofs.Math.Bool.{true, false}
use Rattle.std.proofs.Math.Path.{◌≡◌, refl}
use Rattle.std.proofs.Common.{arith}
use Rattle.field.specs.Fields.{Field, Low}
use Rattle.field.specs.declared.QuadFelt.{QuadFelt}
use Rattle.dag.specs.declared.NodeKind.{NodeKind}
use Rattle.meaning.specs.Values.{value_of}
use Rattle.entries.specs.Entries.{entry_of, element_at, has_entry}
use Rattle.evaluate.specs.Calls.{entry_words, element_of, given}
use Rattle.evaluate.specs.Promises.{at_place, Valued, assigned, record_answer}

-- an entry's element, where there is one
pub element_given : (a : List ℕ) (f : Option ℕ) → option_map (element_at entry_words a) f ≡ assigned (is_some f) (element_of a f)
unfolding element_of
element_given a (Some i) = refl
element_given a None = refl

module _ (field : Field) where
  -- what an answer says of a record
  module _ (a : List ℕ) (m : ℕ) (v : ℕ → QuadFelt) (x : NodeKind) where
    pub answered : (r : QuadFelt) → Some r ≡ record_answer field a m v x → (has_entry (entry_of entry_words a m) x ≡ true) × (r ≡ value_of field.elements (given a m) v x)
    unfolding record_answer
    answered r e = go (has_entry (entry_of entry_words a m) x) e
      where
        go : (b : Bool) → Some r ≡ assigned b (value_of field.elements (given a m) v x) → (b ≡ true) × (r ≡ value_of field.elements (given a m) v x)
        go true e = (refl, cc)
        go false e = let z : ◌≡◌ {A = ℕ} 0 1 = cc in absurd (omega arith)

    pub unanswered : None ≡ record_answer field a m v x → has_entry (entry_of entry_words a m) x ≡ false
    unfolding record_answer
    unanswered e = go (has_entry (entry_of entry_words a m) x) e
      where
        go : (b : Bool) → None ≡ assigned b (value_of field.elements (given a m) v x) → b ≡ false
        go true e = let z : ◌≡◌ {A = ℕ} 0 1 = cc in absurd (omega arith)
        go false e = refl

  -- a value that was read is in lowest form
  pub low_read : {i : ℕ} {values : List QuadFelt} → Valued field i values → (j : ℕ) {r : QuadFelt} → j < i → r ≡ at_place values j → Low field r
  low_read h j k e = rw e (h.low j k)
