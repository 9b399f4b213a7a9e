-- What Emit's tests come to, and what it answers and leaves in the result store by them.
use Rattle.std.specs.Prelude.{ℕ, ◌+◌, ◌*◌, ◌≤◌, ◌<◌, List, Ok, Err, ◌≡◌, refl, leb, length}
use Rattle.std.proofs.Common.{◌∙◌}
use Rattle.std.proofs.Common.{le-leb}
use Rattle.std.proofs.lemmas.Bool.{lt-leb}
use Rattle.field.specs.Fields.{Field}
use Rattle.dag.specs.View.{View}
use Rattle.dag.specs.Nodes.{nodes, filled}
use Rattle.dag.specs.Refusals.{need, ◌then◌}
use Rattle.dag.specs.Check.{list_check}
use Rattle.dag.specs.declared.Refusal.{Refusal}
use Rattle.dag.specs.declared.Refusal.TheVariants.{StoreTooShort}
use Rattle.entries.specs.Entries.{entries_check, inputs_check}
use Rattle.circuit.specs.Circuit.{layout_words, operation_count}
use Rattle.circuit.specs.CircuitLaws.{length_operations}
use Rattle.encode.specs.EncodeLaws.{length_instructions}
use Rattle.encode.specs.Calls.{input_number, circuit_constants, circuit_operations, geometry, emitted, circuit_check, emit_check, encoded, emit_answer, emit_result}
use Rattle.encode.specs.Promises.{Placed}

module _ (field : Field) (s : View) (n : ℕ) (roots layout : List ℕ) (k : ℕ) where
  -- the operations are as many as were counted
  pub many_operations : length (circuit_operations field s n roots layout k) ≡ operation_count (nodes s n) n
  unfolding circuit_operations
  many_operations = length_operations field.elements (input_number layout k) (nodes s n) n

  -- the words are as many as the counts say
  pub many_words : let g = geometry field s n roots layout k in length (emitted field s n roots layout k) ≡ 2 * g.constants + 3 * g.operations
  unfolding emitted geometry
  many_words = length_instructions k (circuit_constants field s n roots layout k) (circuit_operations field s n roots layout k)

  -- where the list doesn't pass
  pub list_refused : (r : Refusal) (m : ℕ) → list_check field.bounds s n roots ≡ Err r → emit_check field s n roots layout k m ≡ Err r
  unfolding emit_check
  list_refused r m e = rw e refl

  -- where it does
  module _ (list : list_check field.bounds s n roots ≡ Ok tt) where
    pub entries_refused : (r : Refusal) (m : ℕ) → entries_check field.bounds layout_words layout k ≡ Err r → emit_check field s n roots layout k m ≡ Err r
    unfolding emit_check
    entries_refused r m e = rw (list, e) refl

    pub inputs_refused : entries_check field.bounds layout_words layout k ≡ Ok tt → (r : Refusal) (m : ℕ)
        → inputs_check (input_number layout k) (nodes s n) n ≡ Err r → emit_check field s n roots layout k m ≡ Err r
    unfolding emit_check
    inputs_refused passed r m e = rw (list, passed, e) refl

  -- where the list, the layout and the inputs do
  module _ (placed : Placed field s n roots layout k) (m : ℕ) where
    circuit_left : emit_check field s n roots layout k m ≡ (circuit_check field s n roots layout k then need (leb (length (emitted field s n roots layout k)) m) StoreTooShort)
    unfolding emit_check
    circuit_left = rw (placed.rooted, placed.passed, placed.placed) refl

    pub circuit_refused : (r : Refusal) → circuit_check field s n roots layout k ≡ Err r → emit_check field s n roots layout k m ≡ Err r
    circuit_refused r e = circuit_left ∙ rw e refl

    -- and the circuit does
    module _ (good : circuit_check field s n roots layout k ≡ Ok tt) where
      pub short_refused : m < length (emitted field s n roots layout k) → emit_check field s n roots layout k m ≡ Err StoreTooShort
      short_refused h = circuit_left ∙ rw (good, lt-leb (length (emitted field s n roots layout k)) m h) refl

      pub accepted : length (emitted field s n roots layout k) ≤ m → emit_check field s n roots layout k m ≡ Ok tt
      accepted h = circuit_left ∙ rw (good, le-leb (length (emitted field s n roots layout k)) m h) refl

  -- what Emit then answers, and what the store holds
  pub answer_refused : {r : Refusal} (m : ℕ) → emit_check field s n roots layout k m ≡ Err r → Err r ≡ emit_answer field s n roots layout k m
  unfolding emit_answer
  answer_refused m e = rw e refl

  pub result_untouched : {r : Refusal} (result : List ℕ) → emit_check field s n roots layout k (length result) ≡ Err r → result ≡ emit_result field s n roots layout k result
  unfolding emit_result
  result_untouched result e = rw e refl

  pub answer_given : (m : ℕ) → emit_check field s n roots layout k m ≡ Ok tt → Ok (encoded field s n roots layout k) ≡ emit_answer field s n roots layout k m
  unfolding emit_answer
  answer_given m e = rw e refl

  pub result_given : (result : List ℕ) → emit_check field s n roots layout k (length result) ≡ Ok tt → filled (length result) (emitted field s n roots layout k) ≡ emit_result field s n roots layout k result
  unfolding emit_result
  result_given result e = rw e refl
