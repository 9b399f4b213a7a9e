-- The exported call: what it accepts and refuses, its counts, its words and the blanks behind them, and what the box makes of the result
-- store, given the answer's counts and the elements of the layout's places.
use Rattle.std.specs.Prelude.{ℕ, true, false, ◌+◌, ◌-◌, ◌*◌, ◌%◌, ◌<◌, ◌≤◌, Option, Some, List, [], ◌∷◌, ◌++◌, ◌≡◌, ◌↔◌, refl, get_or, length, map, take, drop, replicate, slice_index, Ok, Err}
use Rattle.std.proofs.Common.{sym, ◌∙◌, ap, ap₂, arith, subst, true≢false}
use Rattle.std.proofs.Math.Seq.{take-append_seam, drop-append_seam}
use Rattle.ring.specs.Ring.{Ops}
use Rattle.field.specs.Field.{new}
use Rattle.field.specs.Fields.{Field, field_of}
use Rattle.field.specs.Numbers.{numbered}
use Rattle.field.specs.declared.Prime.{Prime}
use Rattle.field.specs.declared.QuadFelt.{QuadFelt}
use Rattle.dag.specs.View.{View, interleaved}
use Rattle.dag.specs.Nodes.{blank, nodes, at, filled}
use Rattle.dag.specs.Arrays.{padded}
use Rattle.dag.specs.Refusals.{Checked}
use Rattle.dag.specs.Check.{list_check}
use Rattle.dag.specs.declared.NodeKind.{NodeKind}
use Rattle.dag.specs.declared.Refusal.{Refusal}
use Rattle.dag.specs.declared.Refusal.TheVariants.{StoreTooShort, NoOperations, RootNotLast, OddLayout}
use Rattle.meaning.specs.Values.{value}
use Rattle.evaluate.specs.Calls as Evaluation
use Rattle.evaluate.specs.CallLaws.{accepted_value}
use Rattle.entries.specs.Entries.{entries_check, inputs_check}
use Rattle.circuit.specs.Circuit.{layout_words, is_operation, operation_count}
use Rattle.encode.specs.declared.EncodedCircuit.{EncodedCircuit}
use Rattle.encode.specs.Calls.{input_number, circuit_constants, geometry, emitted, emit_check, encoded, emit_answer, emit_result}
use Rattle.encode.specs.CallLaws.{many_words, answer_refused, result_untouched}
use Rattle.chiplet.specs.Chiplet.{run}
use Rattle.chiplet.specs.RunLaws.{given}
use Rattle.ace.specs.Answers.{answer_width, refused_words, encoded_words, coordinates, evaluate_words, value_words}
use Rattle.ace.specs.Calls as Calls
use Rattle.demands.specs.Accepted.{outcome, evaluate_accepts, emit_accepts}
use Rattle.demands.specs.Numbered.{evaluate_known, emit_known}
use Rattle.demands.specs.Emitted as Emitted

-- one root
one_root : (roots : List ℕ) → length roots ≡ 1 → roots ≡ slice_index roots 0 ∷ []
one_root [] e = absurd (omega (arith, e))
one_root (r ∷ []) e = refl
one_root (r ∷ q ∷ rs) e = absurd (omega (arith, e))

-- an answer's words tell one value
value_told : (v w : QuadFelt) → value_words (v ∷ []) ≡ value_words (w ∷ []) → v ≡ w
unfolding coordinates padded
value_told v w e = ap₂ new (ap (λ ws. get_or ws 1 0) e) (ap (λ ws. get_or ws 2 0) e)

-- The exported call, by its field number.
module _ (number : ℕ) (prime : Prime) (known : numbered number ≡ Some prime) (list : List ℕ) (n : ℕ) (roots layout : List ℕ) (k : ℕ) (result : List ℕ) where
  -- the field, the elements' arithmetic, the list that the words tell, and its root
  abbrev pub field : Field
  field = field_of prime

  abbrev pub F : Ops QuadFelt
  F = field.elements

  abbrev pub s : View
  s = interleaved list

  abbrev pub l : List NodeKind
  l = nodes s n

  abbrev pub root : ℕ
  root = slice_index roots 0

  -- the circuit's counts, its words, and Emit's tests
  abbrev pub counts : EncodedCircuit
  counts = encoded field s n roots layout k

  abbrev pub circuit_words : List ℕ
  circuit_words = emitted field s n roots layout k

  abbrev pub tests : Checked
  tests = emit_check field s n roots layout k (length result)

  -- the one root is the last operation; what Emit accepts
  abbrev pub RootLast : Type 0
  RootLast = Emitted.RootLast prime s n roots layout k

  abbrev pub Emittable : Type 0
  Emittable = Emitted.Emittable prime s n roots layout k (length result)

  -- the call's answer, the counts that it answers, and what the result store then holds
  abbrev pub answer : List ℕ
  answer = Calls.emit_answer number list n roots layout k result

  abbrev pub num_vars : ℕ
  num_vars = get_or answer 1 0

  abbrev pub num_ops : ℕ
  num_ops = get_or answer 2 0

  abbrev pub store : List ℕ
  store = Calls.emit_result number list n roots layout k result

  -- both are the field's
  answered : answer ≡ encoded_words (emit_answer field s n roots layout k (length result))
  answered = (emit_known number prime known list n roots layout k result).0

  stored : store ≡ emit_result field s n roots layout k result
  stored = (emit_known number prime known list n roots layout k result).1

  -- accepted is 0: exactly where the tests pass
  tests_accept : (outcome answer ≡ 0) ↔ (tests ≡ Ok tt)
  tests_accept = rw answered (emit_accepts field s n roots layout k (length result))

  -- which is where the list, the layout and the inputs pass, there are operations, the one root is the last of them, the layout is even,
  -- and the store has room
  pub emit_accepted : (outcome answer ≡ 0) ↔ Emittable
  emit_accepted =
      let accepts = Emitted.accepts prime s n roots layout k (length result) in
      (λ e. accepts.0 (tests_accept.0 e), λ h. tests_accept.1 (accepts.1 h))

  -- a refusal leaves the store as it was
  pub refused_leaves : (outcome answer ≡ 0 → ⊥) → store ≡ result
  refused_leaves h = stored ∙ go tests refl
    where
      go : (c : Checked) → tests ≡ c → emit_result field s n roots layout k result ≡ result
      go (Ok u) e = absurd (h (tests_accept.1 e))
      go (Err r) e = sym (result_untouched field s n roots layout k result e)

  -- refused with this number at place 0, and nothing is written
  abbrev pub Refused : ℕ → Type 0
  Refused w = (answer ≡ w ∷ 0 ∷ 0 ∷ 0 ∷ []) × (store ≡ result)

  by_tests : (r : Refusal) → tests ≡ Err r → (answer ≡ refused_words answer_width r) × (store ≡ result)
  by_tests r e =
      (answered ∙ ap encoded_words (sym (answer_refused field s n roots layout k (length result) e)), stored ∙ sym (result_untouched field s n roots layout k result e))

  -- where the list, the layout and the inputs pass
  module _ (list_passes : list_check field.bounds s n roots ≡ Ok tt) (layout_passes : entries_check field.bounds layout_words layout k ≡ Ok tt)
      (inputs_pass : inputs_check (input_number layout k) l n ≡ Ok tt) where
    -- 42: no operations
    pub emit_none : operation_count l n ≡ 0 → Refused 42
    emit_none e = by_tests NoOperations (Emitted.none_refused prime s n roots layout k list_passes layout_passes inputs_pass (length result) e)

    module _ (some : 0 < operation_count l n) where
      -- 43: whatever isn't one root that is the last operation
      pub emit_root : (RootLast → ⊥) → Refused 43
      emit_root h = by_tests RootNotLast (Emitted.root_refused prime s n roots layout k list_passes layout_passes inputs_pass (length result) some h)

      -- several roots, the same twice too
      pub emit_roots : 1 < length roots → Refused 43
      emit_roots h = emit_root (λ last. omega (arith, h, last.0))

      -- a root that is no operation
      pub emit_no_operation : is_operation (at l root) ≡ false → Refused 43
      emit_no_operation e = emit_root (λ last. true≢false (sym last.1 ∙ e))

      -- a root with an operation behind it
      pub emit_earlier : (i : ℕ) → root < i → i < n → is_operation (at l i) ≡ true → Refused 43
      emit_earlier i after below e = emit_root (λ last. true≢false (sym e ∙ last.2 i after below))

    module _ (last : RootLast) where
      -- 44: an odd layout
      pub emit_odd : k % 2 ≡ 1 → Refused 44
      emit_odd odd = by_tests OddLayout (Emitted.odd_refused prime s n roots layout k list_passes layout_passes inputs_pass (length result) last odd)

      -- 2: a result store of fewer words than the circuit's
      pub emit_short : k % 2 ≡ 0 → length result < length circuit_words → Refused 2
      emit_short even h = by_tests StoreTooShort (Emitted.short_refused prime s n roots layout k list_passes layout_passes inputs_pass (length result) last even h)

  module _ (accepted : outcome answer ≡ 0) where
    good : tests ≡ Ok tt
    good = tests_accept.0 accepted

    emittable : Emittable
    emittable = emit_accepted.0 accepted

    -- it answers the counts of the circuit
    pub emit_words : answer ≡ 0 ∷ counts.num_vars ∷ counts.num_ops ∷ 0 ∷ []
    unfolding emit_answer
    emit_words = answered ∙ rw good

    -- the words that constants and operations have
    abbrev pub num_words : ℕ
    num_words = 2 * (num_vars - k) + 3 * num_ops

    -- what the counts say: the inputs are among the variables, the constants are the others
    pub record EmitCounts : Type 0 where
      pub inputs_least : k ≤ num_vars
      pub constants_even : (num_vars - k) % 2 ≡ 0
      -- at most one of them is padding
      pub constants_least : length (circuit_constants field s n roots layout k) ≤ num_vars - k
      pub constants_most : num_vars - k ≤ length (circuit_constants field s n roots layout k) + 1
      -- twice the constants and the operations are a multiple of 8, and fewer than 8 operations are padding
      pub whole_blocks : (2 * (num_vars - k) + num_ops) % 8 ≡ 0
      pub operations_least : operation_count l n ≤ num_ops
      pub operations_most : num_ops < operation_count l n + 8
      -- so many words are the circuit's, and those behind them are blank
      pub room : num_words ≤ length result
      pub words : take num_words store ≡ circuit_words
      pub behind : drop num_words store ≡ replicate (length result - num_words) blank

    pub emit_counts_lem : EmitCounts
    unfolding encoded emit_result filled
    emit_counts_lem =
        let g = geometry field s n roots layout k in
        let c = Emitted.geometry_counted prime s n roots layout k in
        let many : num_words ≡ length circuit_words = rw emit_words (omega (arith, c.inputs_lem, many_words field s n roots layout k)) in
        let held : store ≡ circuit_words ++ replicate (length result - length circuit_words) blank = stored ∙ rw good in
        let counted : num_vars - k ≡ g.constants = rw emit_words (omega (arith, c.inputs_lem)) in
        record {
          inputs_least = rw emit_words (omega (arith, c.inputs_lem));
          constants_even = rw counted c.constants_even;
          constants_least = rw counted c.constants_least;
          constants_most = rw counted c.constants_most;
          whole_blocks = rw (counted, emit_words) c.whole_blocks;
          operations_least = rw emit_words c.operations_least;
          operations_most = rw emit_words c.operations_most;
          room = rw many emittable.room;
          words = rw (many, held) (take-append_seam circuit_words _);
          behind = rw (many, held) (drop-append_seam circuit_words _);
        }

    -- for any elements of the layout's places, in their order
    module _ (inputs : List QuadFelt) (many : length inputs ≡ k) where
      -- and keys given those of their last places
      abbrev pub ByLayout : (ℕ → QuadFelt) → Type 0
      ByLayout g = Emitted.ByLayout prime s n roots layout k inputs g

      -- what the box makes of the store, and what it then has
      abbrev pub Runs : List QuadFelt → Type 0
      Runs vs = run F store num_vars num_ops inputs num_ops ≡ Some vs

      abbrev pub Computes : (ℕ → QuadFelt) → List QuadFelt → Type 0
      Computes g vs = Emitted.Computes prime s n roots layout k store num_vars num_ops inputs g vs

      -- it has values for all nodes
      pub emit_computes : (g : ℕ → QuadFelt) → ByLayout g → (vs : List QuadFelt) × Computes g vs
      emit_computes g by_layout = rw (emit_words, stored) (Emitted.emit_runs prime s n roots layout k result good inputs many g by_layout)

      -- whatever elements the layout's places have, there are keys' elements that agree with them
      pub emit_given : ByLayout (given F (input_number layout k) inputs)
      emit_given = Emitted.by_layout_given prime s n roots layout k emittable.inputs inputs

      -- and whatever the box ends with are these
      pub emit_ends : (g : ℕ → QuadFelt) → ByLayout g → (vs : List QuadFelt) → Runs vs → Computes g vs
      emit_ends g by_layout vs r =
          let end = emit_computes g by_layout in
          let both : ◌≡◌ {A = Option (List QuadFelt)} (Some end.0) (Some vs) = sym end.1.ran ∙ r in
          let same : end.0 ≡ vs = cc in
          subst (Computes g) same end.1

      -- where Evaluate accepts the list with an assignment of these elements
      module _ (a : List ℕ) (m : ℕ) (heard : outcome (Calls.evaluate_answer number list n roots a m) ≡ 0) (by_layout : ByLayout (Evaluation.given a m))
          (vs : List QuadFelt) (ran : Runs vs) where
        abbrev pub evaluated : List ℕ
        evaluated = Calls.evaluate_answer number list n roots a m

        ends : Computes (Evaluation.given a m) vs
        ends = emit_ends (Evaluation.given a m) by_layout vs ran

        -- it answers the root's value
        evaluates : evaluated ≡ value_words (value F (Evaluation.given a m) l root ∷ [])
        unfolding Evaluation.values_from
        evaluates =
            let known_words = evaluate_known number prime known list n roots a m in
            let passes = (evaluate_accepts field s n roots a m).0 (ap outcome (sym known_words) ∙ heard) in
            known_words ∙ (ap evaluate_words (accepted_value field s n roots a m passes)
            ∙ ap (λ rs. value_words (map (value F (Evaluation.given a m) l) rs)) (one_root roots emittable.root_last.0))

        -- which is the value of the last operation before the padding
        pub emit_evaluates : evaluated ≡ value_words (get_or vs (num_vars + (operation_count l n - 1)) F.zero ∷ [])
        emit_evaluates = evaluates ∙ ap (λ v. value_words (v ∷ [])) (sym ends.worth)

        -- so it answers zero exactly where the last operation is zero
        pub emit_zero : (evaluated ≡ value_words (F.zero ∷ [])) ↔ (get_or vs (num_vars + (num_ops - 1)) F.zero ≡ F.zero)
        emit_zero = (
          λ q. ends.tells.1 (value_told _ _ (sym evaluates ∙ q)),
          λ q. evaluates ∙ ap (λ v. value_words (v ∷ [])) (ends.tells.0 q),
        )
