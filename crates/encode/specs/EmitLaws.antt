-- A circuit that was filled in is the one that the definitions give, so its words and its counts are theirs.
use Rattle.std.specs.Prelude.{ℕ, ◌+◌, ◌*◌, ◌≤◌, ◌<◌, List, Ok, Err, ◌≡◌, ltb, length}
use Rattle.std.proofs.Common.{sym, ◌∙◌, ap, ap₂, arith, ltb-true}
use Rattle.field.specs.Fields.{Field, field_of}
use Rattle.dag.specs.View.{View, interleaved}
use Rattle.dag.specs.Nodes.{nodes, filled}
use Rattle.dag.specs.NodeLaws.{length_nodes}
use Rattle.dag.specs.Refusals.{need}
use Rattle.dag.specs.CheckLaws.{then_good, need_good}
use Rattle.dag.specs.declared.Refusal.{Refusal}
use Rattle.dag.specs.declared.Refusal.TheVariants.{StoreTooShort, NoOperations}
use Rattle.entries.specs.EntryLaws.{entries_most}
use Rattle.circuit.specs.Circuit.{layout_words}
use Rattle.circuit.specs.CircuitLaws.{constants_few, operation_count_few}
use Rattle.circuit.specs.declared.AceCircuit.{AceCircuit}
use Rattle.circuit.specs.AceCircuits as Held
use Rattle.encode.specs.declared.StreamGeometry.{StreamGeometry}
use Rattle.encode.specs.Encode.{from_counts, instructions}
use Rattle.encode.specs.EncodeLaws.{counted}
use Rattle.encode.specs.Calls as Calls
use Rattle.encode.specs.CallLaws as CallLaws
use Rattle.encode.specs.Promises.{Placed, Fitting}

module _ (a : AceCircuit) (roots : List ℕ) where
  abbrev field : Field
  field = field_of a.dag.prime

  abbrev view : View
  view = interleaved a.dag.list.now

  abbrev Given : Type 0
  Given = Placed field view a.dag.n roots a.layout.words.now a.layout.count

  abbrev Good : Type 0
  Good = Calls.circuit_check field view a.dag.n roots a.layout.words.now a.layout.count ≡ Ok tt

  -- the definitions at the circuit's list and layout
  abbrev words : List ℕ
  words = Calls.emitted field view a.dag.n roots a.layout.words.now a.layout.count

  constants_many : length (Calls.circuit_constants field view a.dag.n roots a.layout.words.now a.layout.count) ≡ a.counts.constants
  unfolding Calls.circuit_constants
  constants_many = sym (ap length a.emitted.constants_are) ∙ length_nodes (interleaved a.constants.now) a.counts.constants

  operations_many : length (Calls.circuit_operations field view a.dag.n roots a.layout.words.now a.layout.count) ≡ a.counts.operations
  operations_many = CallLaws.many_operations field view a.dag.n roots a.layout.words.now a.layout.count ∙ sym a.emitted.operations_are

  -- they are few
  pub fits : Given → (a.layout.count ≤ 4096) × (a.counts.constants ≤ 4096) × (a.counts.operations ≤ 4096)
  unfolding Calls.circuit_constants
  fits h = (
    entries_most field.bounds layout_words a.layout.words.now a.layout.count h.passed,
    omega (arith, constants_many, constants_few field.elements (nodes view a.dag.n) a.dag.n, a.dag.most),
    omega (arith, a.emitted.operations_are, operation_count_few (nodes view a.dag.n) a.dag.n, a.dag.most),
  )

  -- there are some
  pub some : Good → 0 < a.counts.operations
  unfolding Calls.circuit_check
  some good =
      let os = Calls.circuit_operations field view a.dag.n roots a.layout.words.now a.layout.count in
      let one = then_good (need (ltb 0 (length os)) NoOperations) _ good in
      omega (arith, ltb-true 0 (length os) (need_good (ltb 0 (length os)) NoOperations one.0), operations_many)

  -- the counts with padding
  module _ {g : StreamGeometry} (e : g ≡ from_counts a.layout.count a.counts.constants a.counts.operations) where
    geometry_is : Calls.geometry field view a.dag.n roots a.layout.words.now a.layout.count ≡ g
    unfolding Calls.geometry
    geometry_is = ap₂ (from_counts a.layout.count) constants_many operations_many ∙ sym e

    words_many : length words ≡ 2 * g.constants + 3 * g.operations
    words_many = CallLaws.many_words field view a.dag.n roots a.layout.words.now a.layout.count ∙ ap (λ g. 2 * g.constants + 3 * g.operations) geometry_is

    pub fitting : Good → (m : ℕ) → 2 * g.constants + 3 * g.operations ≤ m → Fitting g a.counts m
    fitting good m h =
        let c = counted a.layout.count a.counts.constants a.counts.operations in
        record {
          constants = rw e c.constants_least;
          some = some good;
          operations = rw e c.operations_least;
          room = h;
        }

    -- the store is too short
    pub short : Given → Good → (res : List ℕ) → length res < 2 * g.constants + 3 * g.operations
        → (res ≡ Calls.emit_result field view a.dag.n roots a.layout.words.now a.layout.count res)
        × (Err StoreTooShort ≡ Calls.emit_answer field view a.dag.n roots a.layout.words.now a.layout.count (length res))
    short h good res s =
        let t = CallLaws.short_refused field view a.dag.n roots a.layout.words.now a.layout.count h (length res) good (omega (arith, words_many, s)) in (
          CallLaws.result_untouched field view a.dag.n roots a.layout.words.now a.layout.count res t,
          CallLaws.answer_refused field view a.dag.n roots a.layout.words.now a.layout.count (length res) t,
        )

    -- the words are written
    pub given : Given → Good → (res : List ℕ) → 2 * g.constants + 3 * g.operations ≤ length res
        → (filled (length res) (instructions g (Held.circuit_constants a) (Held.circuit_operations a)) ≡ Calls.emit_result field view a.dag.n roots a.layout.words.now a.layout.count res)
        × (Ok (record { num_vars = g.inputs + g.constants; num_ops = g.operations }) ≡ Calls.emit_answer field view a.dag.n roots a.layout.words.now a.layout.count (length res))
    unfolding Calls.emitted Calls.circuit_constants Calls.circuit_operations Calls.input_number Calls.encoded
    given h good res s =
        let t = CallLaws.accepted field view a.dag.n roots a.layout.words.now a.layout.count h (length res) good (omega (arith, words_many, s)) in (
          ap (λ g. filled (length res) (instructions g (Held.circuit_constants a) (Held.circuit_operations a))) (sym geometry_is)
              ∙ CallLaws.result_given field view a.dag.n roots a.layout.words.now a.layout.count res t,
          ap (λ (g : StreamGeometry). Ok (record { num_vars = g.inputs + g.constants; num_ops = g.operations })) (sym geometry_is)
              ∙ CallLaws.answer_given field view a.dag.n roots a.layout.words.now a.layout.count (length res) t,
        )

  -- the circuit is refused
  pub refused : (res : List ℕ) → Given → {r : Refusal} → Calls.circuit_check field view a.dag.n roots a.layout.words.now a.layout.count ≡ Err r
      → (res ≡ Calls.emit_result field view a.dag.n roots a.layout.words.now a.layout.count res)
      × (Err r ≡ Calls.emit_answer field view a.dag.n roots a.layout.words.now a.layout.count (length res))
  refused res h {r} e =
      let t = CallLaws.circuit_refused field view a.dag.n roots a.layout.words.now a.layout.count h (length res) r e in (
        CallLaws.result_untouched field view a.dag.n roots a.layout.words.now a.layout.count res t,
        CallLaws.answer_refused field view a.dag.n roots a.layout.words.now a.layout.count (length res) t,
      )
