-- Emit's result store: 3n + 23 words always do, so such a store is never why it refuses; and its nodes are few.
use Rattle.std.specs.Prelude.{ℕ, zero, suc, ◌+◌, ◌*◌, ◌≤◌, Bool, true, false, Some, List, ◌≡◌, refl, length, leb, Ok, Err}
use Rattle.std.proofs.Common.{sym, ◌∙◌, ap, arith, le-leb}
use Rattle.field.specs.Fields.{Field, field_of, Low}
use Rattle.field.specs.Numbers.{numbered}
use Rattle.field.specs.declared.Prime.{Prime}
use Rattle.dag.specs.View.{View, interleaved}
use Rattle.dag.specs.Nodes.{nodes}
use Rattle.dag.specs.NodeLaws.{length_nodes}
use Rattle.dag.specs.Refusals as Refusals
use Rattle.dag.specs.Refusals.{Checked, need, ◌then◌, first_refused, unless_refused}
use Rattle.dag.specs.Check.{list_check}
use Rattle.dag.specs.CheckLaws.{then_good}
use Rattle.dag.specs.PassLaws.{Rooted, rooted}
use Rattle.dag.specs.StoreLaws.{sound_well_formed}
use Rattle.dag.specs.declared.Refusal.{Refusal}
use Rattle.dag.specs.declared.Refusal.TheVariants.{StoreTooShort, Unassigned, NoOperations, RootNotLast, OddLayout}
use Rattle.entries.specs.Entries.{entries_check, inputs_check}
use Rattle.entries.specs.EntryLaws.{entries_most}
use Rattle.circuit.specs.Circuit.{layout_words}
use Rattle.encode.specs.declared.EncodedCircuit.{EncodedCircuit}
use Rattle.encode.specs.Encode.{num_nodes}
use Rattle.encode.specs.CountLaws.{nodes_most, emitted_most}
use Rattle.encode.specs.Calls.{input_number, circuit_constants, circuit_operations, geometry, emitted, circuit_check, emit_check, encoded, emit_answer}
use Rattle.encode.specs.CallLaws.{many_words}
use Rattle.ace.specs.Answers.{encoded_words}
use Rattle.ace.specs.Calls as Calls
use Rattle.demands.specs.Accepted.{outcome, emit_accepts}
use Rattle.demands.specs.Numbered.{emit_known}
use Rattle.demands.specs.Emitting.{answer, num_vars, num_ops, emit_words}

-- a test doesn't refuse with 2
unfoldable NeverShort : Checked → Type 0
NeverShort (Ok u) = Unit
NeverShort (Err r) = Refusals.number r ≡ 2 → ⊥

-- neither do two such tests, a test with another number, or one such at many places
both_tests : (c d : Checked) → NeverShort c → NeverShort d → NeverShort (c then d)
unfolding NeverShort
both_tests (Ok u) d p q = q
both_tests (Err r) d p q = p

one_test : (t : Bool) (r : Refusal) → (Refusals.number r ≡ 2 → ⊥) → NeverShort (need t r)
unfolding NeverShort
one_test true r h = tt
one_test false r h = h

all_places : (test : ℕ → Checked) → ((i : ℕ) → NeverShort (test i)) → (n : ℕ) → NeverShort (first_refused test n)
unfolding first_refused NeverShort
all_places test h zero = tt
all_places test h (suc n) = both_tests (first_refused test n) (test n) (all_places test h n) (h n)

-- so an answer by such tests doesn't begin with 2
answer_number : (c : Checked) (e : EncodedCircuit) → NeverShort c → outcome (encoded_words (unless_refused c Err (Ok e))) ≡ 2 → ⊥
unfolding NeverShort
answer_number (Ok u) e p q = omega (arith, q)
answer_number (Err r) e p q = p q

-- nothing is tested behind the last test
all_tested : (c : Checked) → (c then Ok tt) ≡ c
all_tested (Ok u) = refl
all_tested (Err r) = refl

-- what Emit accepts has passed the list check and the layout's tests
accepted_tests : (field : Field) (s : View) (n : ℕ) (roots layout : List ℕ) (k result_words : ℕ) → emit_check field s n roots layout k result_words ≡ Ok tt
    → (list_check field.bounds s n roots ≡ Ok tt) × (entries_check field.bounds layout_words layout k ≡ Ok tt)
unfolding emit_check
accepted_tests field s n roots layout k result_words e =
    let last : Checked = need (leb (length (emitted field s n roots layout k)) result_words) StoreTooShort in
    let behind : Checked = inputs_check (input_number layout k) (nodes s n) n then circuit_check field s n roots layout k then last in
    let one = then_good (list_check field.bounds s n roots) (entries_check field.bounds layout_words layout k then behind) e in
    (one.0, (then_good (entries_check field.bounds layout_words layout k) behind one.1).0)

-- a list that passes the list check
module _ (field : Field) (s : View) (n : ℕ) (roots layout : List ℕ) (k : ℕ) (list : list_check field.bounds s n roots ≡ Ok tt) where
  passed : Rooted field.bounds s n roots
  passed = rooted field.bounds s n roots list

  -- its circuit has 3n + 23 words at most
  pub emit_room : length (emitted field s n roots layout k) ≤ 3 * n + 23
  unfolding geometry circuit_constants circuit_operations
  emit_room =
      let most = emitted_most field.elements (input_number layout k) k (nodes s n) (Low field) (sound_well_formed field.bounds s n passed.list.sound) in
      omega (arith, many_words field s n roots layout k, rw (length_nodes s n) at most)

  -- so a store of 3n + 23 words is refused by the tests before alone, and never for its length
  pub emit_room_enough : (result_words : ℕ) → 3 * n + 23 ≤ result_words
      → emit_check field s n roots layout k result_words
      ≡ (entries_check field.bounds layout_words layout k then inputs_check (input_number layout k) (nodes s n) n then circuit_check field s n roots layout k)
  unfolding emit_check
  emit_room_enough result_words h =
      rw (list, le-leb (length (emitted field s n roots layout k)) result_words (omega (arith, emit_room)), all_tested (circuit_check field s n roots layout k)) refl

  -- where the layout passes too, its nodes, padding counted in, are few: the Rust's limit of 2^30 − 1 is never met
  pub few_nodes : entries_check field.bounds layout_words layout k ≡ Ok tt → num_nodes (geometry field s n roots layout k) ≤ 8201
  unfolding geometry circuit_constants circuit_operations
  few_nodes entries =
      let most = nodes_most field.elements (input_number layout k) k (nodes s n) in
      omega (arith, passed.list.most, entries_most field.bounds layout_words layout k entries, rw (length_nodes s n) at most)

  -- neither the inputs' places nor the circuit are refused with 2
  circuit_never : NeverShort (inputs_check (input_number layout k) (nodes s n) n then circuit_check field s n roots layout k)
  unfolding inputs_check circuit_check
  circuit_never =
      both_tests _ _ (all_places _ (λ i. one_test _ (Unassigned i) (λ e. omega (arith, e))) n)
      (both_tests _ _ (one_test _ NoOperations (λ e. omega (arith, e)))
      (both_tests _ _ (one_test _ RootNotLast (λ e. omega (arith, e))) (one_test _ OddLayout (λ e. omega (arith, e)))))

  -- so where the layout passes too, the answer doesn't begin with 2
  pub never_short : entries_check field.bounds layout_words layout k ≡ Ok tt → (result_words : ℕ) → 3 * n + 23 ≤ result_words
      → outcome (encoded_words (emit_answer field s n roots layout k result_words)) ≡ 2 → ⊥
  unfolding emit_answer
  never_short entries result_words h e =
      let tests : emit_check field s n roots layout k result_words ≡ (inputs_check (input_number layout k) (nodes s n) n then circuit_check field s n roots layout k) = emit_room_enough result_words h ∙ rw entries refl in
      answer_number _ (encoded field s n roots layout k) circuit_never (rw tests at e)

-- The exported call, by its field number: of a list and a layout that pass, answer[0] isn't 2 where the result store has 3n + 23 words.
module _ (number : ℕ) (prime : Prime) (known : numbered number ≡ Some prime) (list : List ℕ) (n : ℕ) (roots layout : List ℕ) (k : ℕ) (result : List ℕ) where
  pub emit_never_short : list_check (field_of prime).bounds (interleaved list) n roots ≡ Ok tt → entries_check (field_of prime).bounds layout_words layout k ≡ Ok tt → 3 * n + 23 ≤ length result
      → outcome (Calls.emit_answer number list n roots layout k result) ≡ 2 → ⊥
  emit_never_short good entries h e =
      never_short (field_of prime) (interleaved list) n roots layout k good entries (length result) h (ap outcome (sym (emit_known number prime known list n roots layout k result).0) ∙ e)

  -- the nodes of an accepted circuit
  pub emit_few_nodes : outcome (answer number prime known list n roots layout k result) ≡ 0
      → num_vars number prime known list n roots layout k result + num_ops number prime known list n roots layout k result ≤ 8201
  unfolding num_nodes encoded
  emit_few_nodes accepted =
      let field = field_of prime in
      let good = (emit_accepts field (interleaved list) n roots layout k (length result)).0 (ap outcome (sym (emit_known number prime known list n roots layout k result).0) ∙ accepted) in
      let tests = accepted_tests field (interleaved list) n roots layout k (length result) good in
      rw (emit_words number prime known list n roots layout k result accepted) (omega (arith, few_nodes field (interleaved list) n roots layout k tests.0 tests.1))
