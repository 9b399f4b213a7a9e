-- Emit in one field: what it accepts, by the list's records, what the box makes of its words, what its counts say, what it refuses of a circuit.
use Rattle.std.specs.Prelude.{ℕ, zero, suc, ◌+◌, ◌-◌, ◌%◌, ◌<◌, ◌≤◌, ◌⊎◌, Bool, true, false, cond, ◌&&◌, Option, Some, List, ◌≡◌, ◌↔◌, refl, get_or, length, replicate, leb, ltb, eqb, slice_index, Ok, Err}
use Rattle.std.proofs.Common.{sym, ◌∙◌, ap, arith, lt-ltb, eq-eqb, leb-true, eqb-true, inl, inr}
use Rattle.ring.specs.Ring.{Ops}
use Rattle.field.specs.Fields.{Field, field_of, Low, element_laws}
use Rattle.field.specs.declared.Prime.{Prime}
use Rattle.field.specs.declared.QuadFelt.{QuadFelt}
use Rattle.dag.specs.View.{View}
use Rattle.dag.specs.Nodes.{blank, nodes, at, filled}
use Rattle.dag.specs.NodeLaws.{length_nodes}
use Rattle.dag.specs.Refusals.{need, ◌then◌, Checked}
use Rattle.dag.specs.Check.{list_check}
use Rattle.dag.specs.CheckLaws.{then_good, need_good}
use Rattle.dag.specs.CaseLaws.{and_true, below_suc}
use Rattle.dag.specs.Roots.{roots_of, roots_from}
use Rattle.dag.specs.PassLaws.{rooted}
use Rattle.dag.specs.StoreLaws.{sound_well_formed}
use Rattle.dag.specs.WellFormed.{WellFormed}
use Rattle.dag.specs.declared.NodeKind.{NodeKind}
use Rattle.dag.specs.declared.NodeKind.TheVariants.{Input, Constant, Add, Sub, Mul, Neg}
use Rattle.dag.specs.declared.Refusal.{Refusal}
use Rattle.dag.specs.declared.Refusal.TheVariants.{StoreTooShort, NoOperations, RootNotLast, OddLayout}
use Rattle.meaning.specs.Values.{value_of, value}
use Rattle.meaning.specs.ValueLaws.{value_at, values_agree}
use Rattle.entries.specs.Entries.{entries_check, inputs_check}
use Rattle.entries.specs.EntryLaws.{Last, found_last}
use Rattle.circuit.specs.declared.AceNode.{AceNode}
use Rattle.circuit.specs.declared.AceNode.TheVariants as Node
use Rattle.circuit.specs.declared.AceOpNode.{AceOpNode}
use Rattle.circuit.specs.Circuit.{layout_words, is_operation, operation_count, node}
use Rattle.circuit.specs.CircuitLaws.{operation_count_below, operation_count_next, length_operations, node_operation, operation_node}
use Rattle.encode.specs.EncodeLaws.{Counted, counted}
use Rattle.encode.specs.Calls.{is_operation_at, input_number, circuit_constants, circuit_operations, geometry, emitted, root_is_last, circuit_check, emit_check, encoded, emit_result}
use Rattle.encode.specs.CallLaws.{many_operations}
use Rattle.encode.specs.CallLaws as CallLaws
use Rattle.encode.specs.Promises as Promises
use Rattle.chiplet.specs.Chiplet.{run}
use Rattle.chiplet.specs.RunLaws.{given, Placed}
use Rattle.chiplet.specs.Run.{list_operations, list_counts, list_words, runs, root_value}
use Rattle.chiplet.specs.Squares.{last_tells}
use Rattle.demands.specs.Inputs.{key_of}
use Rattle.demands.specs.Evaluating.{Assigned, checked_inputs}

-- no operation behind an operation: then it is counted last
module _ (l : List NodeKind) (r : ℕ) (operation : is_operation (at l r) ≡ true) where
  counted_last : (m : ℕ) → r < m → ((i : ℕ) → r < i → i < m → is_operation (at l i) ≡ false) → operation_count l m ≡ suc (operation_count l r)
  unfolding operation_count
  counted_last zero h none = absurd (omega arith)
  counted_last (suc m) h none = go (λ k. counted_last m k (λ i a b. none i a (omega arith))) (below_suc r m h)
    where
      go : (r < m → operation_count l m ≡ suc (operation_count l r)) → (r < m) ⊎ (r ≡ m) → operation_count l (suc m) ≡ suc (operation_count l r)
      go before (inl k) = let nothing : ◌≡◌ {A = ℕ} (cond (is_operation (at l m)) 1 0) 0 = rw (none m k (omega arith)) in omega (arith, nothing, before k)
      go before (inr e) = rw (← e) (operation_count_next l r operation)

-- keys that a list doesn't have say nothing of its values
module _ (F : Ops QuadFelt) (Low : QuadFelt → Type 0) (l : List NodeKind) (w : WellFormed Low l) (g h : ℕ → QuadFelt)
    (same : (i key : ℕ) → i < length l → at l i ≡ Input key → g key ≡ h key) where
  by_key : (i : ℕ) → i < length l → (v : ℕ → QuadFelt) (x : NodeKind) → at l i ≡ x → value_of F g v x ≡ value_of F h v x
  unfolding value_of
  by_key i p v (Input k) e = same i k p e
  by_key i p v (Constant c) e = refl
  by_key i p v (Add a b) e = refl
  by_key i p v (Sub a b) e = refl
  by_key i p v (Mul a b) e = refl
  by_key i p v (Neg a) e = refl

  values_by_keys : (i : ℕ) → i < length l → value F g l i ≡ value F h l i
  values_by_keys =
      values_agree F h Low l w (value F g l) (value F h l) (length l)
      (λ i p. value_at F g Low l w i p ∙ by_key i p (value F g l) (at l i) refl)
      (λ i p. value_at F h Low l w i p)

-- the node that a test of operations passes
operation_at_is : (x : AceNode) (i : ℕ) → is_operation_at x i ≡ true → x ≡ Node.Operation i
operation_at_is (Node.Input j) i e = absurd cc
operation_at_is (Node.Constant j) i e = absurd cc
operation_at_is (Node.Operation j) i e = ap Node.Operation (eqb-true j i e)

-- a key has one last entry
last_once : (width : ℕ) (e : List ℕ) (m key i j : ℕ) → Last width e m key i → Last width e m key j → i ≡ j
last_once width e m key i j a b =
    let above : i < j → ⊥ = λ h. a.none_later j h b.inside b.its_key in
    let below : j < i → ⊥ = λ h. b.none_later i h a.inside a.its_key in
    omega (arith, above, below)

-- a list and a layout in one field
module _ (prime : Prime) (s : View) (n : ℕ) (roots layout : List ℕ) (k : ℕ) where
  abbrev field : Field
  field = field_of prime

  abbrev l : List NodeKind
  l = nodes s n

  abbrev F : Ops QuadFelt
  F = field.elements

  abbrev find : ℕ → Option ℕ
  find = input_number layout k

  abbrev ops : List AceOpNode
  ops = circuit_operations field s n roots layout k

  abbrev root : ℕ
  root = slice_index roots 0

  abbrev words : List ℕ
  words = emitted field s n roots layout k

  -- the test of operations passes where one is counted
  operations_pass : 0 < operation_count l n → ltb 0 (length ops) ≡ true
  operations_pass some = rw (many_operations field s n roots layout k) (lt-ltb 0 (operation_count l n) some)

  -- there is one root, an operation, and no operation behind it
  abbrev pub RootLast : Type 0
  RootLast = (length roots ≡ 1) × (is_operation (at l root) ≡ true) × ((i : ℕ) → root < i → i < n → is_operation (at l i) ≡ false)

  -- where the list passes
  module _ (list : list_check field.bounds s n roots ≡ Ok tt) where
    root_inside : root < n
    unfolding roots_of roots_from
    root_inside = let inside = (rooted field.bounds s n roots list).inside in inside.below 0 inside.some

    -- such a root is an operation, and its node the last
    some_operation : RootLast → 0 < operation_count l n
    some_operation (one, is, none) = omega (arith, operation_count_below l root n root_inside is)

    last_node : RootLast → node F find l root ≡ Node.Operation (length ops - 1)
    last_node (one, is, none) =
        let place : operation_count l root ≡ length ops - 1 = omega (arith, many_operations field s n roots layout k, counted_last l root is n root_inside none) in
        rw (node_operation F find l root is, place)

    -- the root's test passes exactly there
    pub last_root : (root_is_last field s n roots layout k ≡ true) ↔ RootLast
    unfolding root_is_last
    last_root = (to, λ last. rw (last.0, last_node last) (eq-eqb (length ops - 1) (length ops - 1) refl))
      where
        none_behind : is_operation (at l root) ≡ true → operation_count l root ≡ length ops - 1 → (i : ℕ) → root < i → i < n
            → (t : Bool) → is_operation (at l i) ≡ t → t ≡ false
        none_behind is e i after below false q = refl
        none_behind is e i after below true q =
            absurd (omega (arith, operation_count_below l root i after is, operation_count_below l i n below q, many_operations field s n roots layout k, e))

        to : eqb (length roots) 1 && is_operation_at (node F find l root) (length ops - 1) ≡ true → RootLast
        to e =
            let both = and_true (eqb (length roots) 1) (is_operation_at (node F find l root) (length ops - 1)) e in
            let last = operation_at_is (node F find l root) (length ops - 1) both.1 in
            let is = operation_node F find l root (length ops - 1) last in
            let same : Node.Operation (operation_count l root) ≡ Node.Operation (length ops - 1) = sym (node_operation F find l root is) ∙ last in
            let place : operation_count l root ≡ length ops - 1 = cc in
            (eqb-true (length roots) 1 both.0, is, λ i after below. none_behind is place i after below (is_operation (at l i)) refl)

    -- with an even layout the circuit's tests pass
    circuit_passes : RootLast → k % 2 ≡ 0 → circuit_check field s n roots layout k ≡ Ok tt
    unfolding circuit_check
    circuit_passes last even = rw (operations_pass (some_operation last), last_root.1 last, even)

  -- what Emit accepts, with a result store of so many words
  pub record Emittable (result_words : ℕ) : Type 0 where
    pub list : list_check field.bounds s n roots ≡ Ok tt
    pub entries : entries_check field.bounds layout_words layout k ≡ Ok tt
    pub inputs : inputs_check find l n ≡ Ok tt
    -- there are operations, and the one root is the last of them
    pub some : 0 < operation_count l n
    pub root_last : RootLast
    pub even : k % 2 ≡ 0
    pub room : length words ≤ result_words

  -- that, and nothing else
  module _ (result_words : ℕ) where
    pub emittable : emit_check field s n roots layout k result_words ≡ Ok tt → Emittable result_words
    unfolding emit_check circuit_check
    emittable e =
        let room : Checked = need (leb (length words) result_words) StoreTooShort in
        let behind_inputs : Checked = circuit_check field s n roots layout k then room in
        let behind_entries : Checked = inputs_check find l n then behind_inputs in
        let even : Checked = need (eqb (k % 2) 0) OddLayout in
        let last : Checked = need (root_is_last field s n roots layout k) RootNotLast in
        let one = then_good (list_check field.bounds s n roots) (entries_check field.bounds layout_words layout k then behind_entries) e in
        let two = then_good (entries_check field.bounds layout_words layout k) behind_entries one.1 in
        let three = then_good (inputs_check find l n) behind_inputs two.1 in
        let four = then_good (circuit_check field s n roots layout k) room three.1 in
        let five = then_good (need (ltb 0 (length ops)) NoOperations) (last then even) four.0 in
        let six = then_good last even five.1 in
        let root_last = (last_root one.0).0 (need_good (root_is_last field s n roots layout k) RootNotLast six.0) in
        record {
          list = one.0;
          entries = two.0;
          inputs = three.0;
          some = some_operation one.0 root_last;
          root_last = root_last;
          even = eqb-true (k % 2) 0 (need_good (eqb (k % 2) 0) OddLayout six.1);
          room = leb-true (length words) result_words (need_good (leb (length words) result_words) StoreTooShort four.1);
        }

    pub accepts : (emit_check field s n roots layout k result_words ≡ Ok tt) ↔ Emittable result_words
    accepts = (
      emittable,
      λ h.
          CallLaws.accepted field s n roots layout k (record { rooted = h.list; passed = h.entries; placed = h.inputs }) result_words
          (circuit_passes h.list h.root_last h.even)
          h.room,
    )

  -- every input's key, reachable or not, has a last place in the layout
  module _ (placed : inputs_check find l n ≡ Ok tt) (i key : ℕ) (h : i < n) (e : at l i ≡ Input key) where
    pub input_place : (j : ℕ) × (find key ≡ Some j) × Last layout_words layout k key j
    unfolding input_number
    input_place =
        let inside : i < length l = rw (length_nodes s n) h in
        let tested : inputs_check find l (length l) ≡ Ok tt = rw (length_nodes s n) placed in
        found_last layout_words layout key k (key_of (Assigned find) l (checked_inputs find l tested) i key inside e)

    -- which is the number of its input
    pub input_node : node F find l i ≡ Node.Input input_place.0
    unfolding node
    input_node = rw (e, input_place.1)

  -- keys are given the elements of their last places in the layout
  abbrev pub ByLayout : List QuadFelt → (ℕ → QuadFelt) → Type 0
  ByLayout inputs g = (i key j : ℕ) → i < n → at l i ≡ Input key → Last layout_words layout k key j → g key ≡ get_or inputs j F.zero

  -- so are those that chiplet's run gives them
  pub by_layout_given : inputs_check find l n ≡ Ok tt → (inputs : List QuadFelt) → ByLayout inputs (given F find inputs)
  by_layout_given placed inputs i key j h e is =
      let p = input_place placed i key h e in
      rw p.1 (ap (λ m. get_or inputs m F.zero) (last_once layout_words layout k key p.0 j p.2 is))

  -- what the box makes of the words ws, two counts and its inputs' elements: the values vs of all nodes
  pub record Computes (ws : List ℕ) (num_vars num_ops : ℕ) (inputs : List QuadFelt) (g : ℕ → QuadFelt) (vs : List QuadFelt) : Type 0 where
    -- no operation reads a node that has no value yet
    pub ran : run F ws num_vars num_ops inputs num_ops ≡ Some vs
    pub all : length vs ≡ num_vars + num_ops
    -- the last operation before the padding has the root's value, where each key is given g
    pub worth : get_or vs (num_vars + (operation_count l n - 1)) F.zero ≡ value F g l root
    -- each pad is the square of the one before
    pub pads : (j : ℕ) → operation_count l n ≤ j → j < num_ops → get_or vs (num_vars + j) F.zero ≡ F.mul (get_or vs (num_vars + (j - 1)) F.zero) (get_or vs (num_vars + (j - 1)) F.zero)
    -- the last operation is zero exactly where the root's value is
    pub tells : (get_or vs (num_vars + (num_ops - 1)) F.zero ≡ F.zero) ↔ (value F g l root ≡ F.zero)

  -- the words that Emit leaves where it accepts
  module _ (result : List ℕ) (accepted : emit_check field s n roots layout k (length result) ≡ Ok tt) where
    passed : Emittable (length result)
    passed = emittable (length result) accepted

    well_formed : WellFormed (Low field) l
    well_formed = sound_well_formed field.bounds s n (rooted field.bounds s n roots passed.list).list.sound

    inside : root < length l
    inside = omega (arith, length_nodes s n, root_inside passed.list)

    module _ (inputs : List QuadFelt) (many : length inputs ≡ k) (g : ℕ → QuadFelt) (by_layout : ByLayout inputs g) where
      place_of : (i key : ℕ) → i < length l → at l i ≡ Input key → (j : ℕ) × (find key ≡ Some j) × Last layout_words layout k key j
      place_of i key h e = input_place passed.inputs i key (rw (length_nodes s n) at h) e

      placed : Placed find inputs l
      placed i key h e = let p = place_of i key h e in (p.0, p.1, omega (arith, p.2.inside))

      same_worth : value F (given F find inputs) l root ≡ value F g l root
      same_worth =
          values_by_keys F (Low field) l well_formed (given F find inputs) g
          (λ i key h e. let p = place_of i key h e in rw p.1 (sym (by_layout i key p.0 (rw (length_nodes s n) at h) e p.2)))
          root inside

      -- blanks behind the words
      abbrev blanks : List ℕ
      blanks = replicate (length result - length words) blank

      -- they are the circuit's, its counts and its operations
      same_counts : geometry field s n roots layout k ≡ list_counts F find inputs l
      unfolding geometry circuit_constants circuit_operations
      same_counts = rw (length_nodes s n, many)

      same_words : emit_result field s n roots layout k result ≡ list_words F find inputs l blanks
      unfolding emit_result emitted filled geometry circuit_constants circuit_operations
      same_words = rw (accepted, length_nodes s n, many)

      same_count : operation_count l n ≡ length (list_operations F find inputs l)
      same_count = rw (length_nodes s n) (sym (length_operations F find l n))

      more : 0 < length (list_operations F find inputs l)
      more = rw (← same_count) passed.some

      last : node F find l root ≡ Node.Operation (length (list_operations F find inputs l) - 1)
      unfolding circuit_operations
      last = rw (length_nodes s n) (last_node passed.list passed.root_last)

      pub emit_runs : (vs : List QuadFelt) × Computes (emit_result field s n roots layout k result) (encoded field s n roots layout k).num_vars (encoded field s n roots layout k).num_ops inputs g vs
      unfolding encoded
      emit_runs =
          let end = runs F find inputs l (element_laws field) (Low field) well_formed placed more blanks in
          let vs = end.0 in (
            vs,
            record {
              ran = rw (same_words, same_counts) end.1.ran_lem;
              all = rw same_counts end.1.length_lem;
              worth = rw (same_counts, same_count) (root_value F find inputs l blanks vs end.1 root inside last more ∙ same_worth);
              pads = λ j h below. rw same_counts (end.1.pads j (rw same_count at h) (rw same_counts at below));
              tells = rw (same_counts, ← same_worth) (last_tells prime find inputs l well_formed blanks vs end.1 root inside last more);
            },
          )

  -- what the counts say of each other
  pub geometry_counted : Counted k (length (circuit_constants field s n roots layout k)) (operation_count l n) (geometry field s n roots layout k)
  unfolding geometry
  geometry_counted = rw (← many_operations field s n roots layout k) (counted k (length (circuit_constants field s n roots layout k)) (length ops))

  -- what is refused where the list, the layout and the inputs pass
  module _ (list : list_check field.bounds s n roots ≡ Ok tt) (entries : entries_check field.bounds layout_words layout k ≡ Ok tt) (inputs : inputs_check find l n ≡ Ok tt) (result_words : ℕ) where
    abbrev Refuses : Refusal → Type 0
    Refuses r = emit_check field s n roots layout k result_words ≡ Err r

    placed_inputs : Promises.Placed field s n roots layout k
    placed_inputs = record { rooted = list; passed = entries; placed = inputs }

    by_circuit : (r : Refusal) → circuit_check field s n roots layout k ≡ Err r → Refuses r
    by_circuit r e = CallLaws.circuit_refused field s n roots layout k placed_inputs result_words r e

    -- 42: no operations
    pub none_refused : operation_count l n ≡ 0 → Refuses NoOperations
    unfolding circuit_check
    none_refused e = by_circuit NoOperations (rw (many_operations field s n roots layout k, e))

    module _ (more : 0 < operation_count l n) where
      -- 43: whatever isn't one root that is the last operation
      pub root_refused : (RootLast → ⊥) → Refuses RootNotLast
      unfolding circuit_check
      root_refused h = go (root_is_last field s n roots layout k) refl
        where
          go : (t : Bool) → root_is_last field s n roots layout k ≡ t → Refuses RootNotLast
          go true e = absurd (h ((last_root list).0 e))
          go false e = by_circuit RootNotLast (rw (operations_pass more, e))

    module _ (last : RootLast) where
      -- 44: an odd layout
      pub odd_refused : k % 2 ≡ 1 → Refuses OddLayout
      unfolding circuit_check
      odd_refused odd = by_circuit OddLayout (rw (operations_pass (some_operation list last), (last_root list).1 last, odd))

      -- 2: a result store of fewer words than the circuit's
      pub short_refused : k % 2 ≡ 0 → result_words < length words → Refuses StoreTooShort
      short_refused even h = CallLaws.short_refused field s n roots layout k placed_inputs result_words (circuit_passes list last even) h
