-- A circuit's run, operation by operation: what the values so far are.
use Rattle.std.specs.Prelude.{ℕ, zero, suc, ◌+◌, ◌-◌, ◌<◌, ◌≤◌, true, false, Option, Some, List, [], ◌∷◌, ◌++◌, ◌≡◌, refl, length, get_or, unwrap_or}
use Rattle.std.proofs.Common.{subst, sym, ◌∙◌, ap, arith, add-zero}
use Rattle.std.proofs.Math.Path.{ap₂}
use Rattle.std.proofs.Math.ListN.{get_or-append}
use Rattle.std.proofs.lemmas.List.{get_or_at}
use Rattle.ring.specs.Ring.{Ops, Laws}
use Rattle.field.specs.declared.QuadFelt.{QuadFelt}
use Rattle.dag.specs.Nodes.{at}
use Rattle.dag.specs.NodeLaws.{length_snoc}
use Rattle.dag.specs.CaseLaws.{below_suc_elim}
use Rattle.dag.specs.LookupLaws.{lookup_at}
use Rattle.dag.specs.WellFormed.{Fine, WellFormed}
use Rattle.dag.specs.declared.NodeKind.{NodeKind}
use Rattle.dag.specs.declared.NodeKind.TheVariants.{Input, Constant, Add, Sub, Mul, Neg}
use Rattle.builder.specs.Steps.{element, intern}
use Rattle.meaning.specs.Values.{value_of, value}
use Rattle.meaning.specs.ValueLaws.{value_at}
use Rattle.circuit.specs.declared.AceOp.TheVariants as Op
use Rattle.circuit.specs.declared.AceNode.{AceNode}
use Rattle.circuit.specs.declared.AceOpNode.{AceOpNode}
use Rattle.circuit.specs.Circuit.{is_operation, operation_count, used, constants, constants_of, constant_node, node_of, node, operation_of, operations}
use Rattle.circuit.specs.CircuitLaws.{operation_count_next, operation_count_below, length_operations, operation_at, node_operation, found_constant, constant_node_place}
use Rattle.encode.specs.declared.StreamGeometry.{StreamGeometry}
use Rattle.encode.specs.Encode.{square, padded_operations}
use Rattle.chiplet.specs.Chiplet.{run}
use Rattle.chiplet.specs.WordLaws.{position, padded_at, pad_at, result, done, variables, ran, length_variables, constant_there, next_done}

-- the values of the layout's places, and where a key is among them
abbrev pub given : Ops QuadFelt → (ℕ → Option ℕ) → List QuadFelt → ℕ → QuadFelt
given F find inputs k = get_or inputs (unwrap_or (find k) 0) F.zero

-- every input of the list has a place
abbrev pub Placed : (ℕ → Option ℕ) → List QuadFelt → List NodeKind → Type 0
Placed find inputs l = (i k : ℕ) → i < length l → at l i ≡ Input k → (j : ℕ) × (find k ≡ Some j) × (j < length inputs)

module _ (F : Ops QuadFelt) (L : Laws F) (find : ℕ → Option ℕ) (inputs : List QuadFelt) (rest : List ℕ) (l : List NodeKind)
    (Low : QuadFelt → Type 0) (w : WellFormed Low l) (placed : Placed find inputs l)
    (g : StreamGeometry) (same : length inputs ≡ g.inputs) (few : length (constants F l (length l)) ≤ g.constants) (least : length (operations F find l (length l)) ≤ g.operations) where
  abbrev pub cs : List NodeKind
  cs = constants F l (length l)

  abbrev pub os : List AceOpNode
  os = operations F find l (length l)

  abbrev num_vars : ℕ
  num_vars = g.inputs + g.constants

  abbrev worth : ℕ → QuadFelt
  worth = value F (given F find inputs) l

  abbrev begun : List QuadFelt
  begun = variables F g cs os rest inputs same few least

  abbrev runs : ℕ → Option (List QuadFelt)
  runs = ran F g cs os rest inputs same few least

  -- a node has a value already, and it is v
  abbrev There : List QuadFelt → AceNode → QuadFelt → Type 0
  There vs x v = (position g x < length vs) × (get_or vs (position g x) F.zero ≡ v)

  -- the values once the operations of the first n records are done
  record Right (n : ℕ) (vs : List QuadFelt) : Type 0 where
    pub ran_lem : runs (operation_count l n) ≡ Some vs
    pub length_lem : length vs ≡ num_vars + operation_count l n
    pub begins : (j : ℕ) → j < num_vars → get_or vs j F.zero ≡ get_or begun j F.zero
    pub nodes : (i : ℕ) → i < n → There vs (node F find l i) (worth i)

  -- one value more: earlier ones stay
  there_snoc : (vs : List QuadFelt) (v : QuadFelt) (x : AceNode) (a : QuadFelt) → There vs x a → There (vs ++ (v ∷ [])) x a
  there_snoc vs v x a h = (omega (arith, length_snoc vs v, h.0), get_or-append vs (v ∷ []) F.zero (position g x) h.0 ∙ h.1)

  -- a record's value is its kind's, on its operands' values
  worth_at : (i : ℕ) → i < length l → worth i ≡ value_of F (given F find inputs) worth (at l i)
  worth_at i h = value_at F (given F find inputs) Low l w i h

  module _ (n : ℕ) (h : n < length l) (vs : List QuadFelt) (r : Right n vs) where
    -- a constant that the record uses
    constant_used : (c : QuadFelt) → used F (at l n) ≡ Some c → There vs (constant_node F find l c) c
    unfolding constants_of element
    constant_used c e =
        let place = (intern (constants F l n) (Constant c)).place in
        let stands = lookup_at cs (Constant c) (length cs) place (found_constant F l find n c h e) in
        let read = constant_there F g cs os rest inputs same few least place stands.0 in
        rw (constant_node_place F l find n c h e)
        (omega (arith, r.length_lem, stands.0), r.begins (g.inputs + place) (omega (arith, stands.0)) ∙ (read ∙ ap element stands.1))

    -- a record that is no operation
    module _ (none : is_operation (at l n) ≡ false) (there : There vs (node F find l n) (worth n)) where
      no_operation : (us : List QuadFelt) × Right (suc n) us
      unfolding operation_count
      no_operation =
          let count : operation_count l (suc n) ≡ operation_count l n = rw none (add-zero (operation_count l n)) in (
            vs,
            record {
              ran_lem = rw count r.ran_lem;
              length_lem = rw count r.length_lem;
              begins = r.begins;
              nodes = below_suc_elim (λ i. There vs (node F find l i) (worth i)) n r.nodes there;
            },
          )

    -- a record that is the operation o
    module _ (o : AceOpNode) (yes : is_operation (at l n) ≡ true) (e : operation_of F find l (at l n) ≡ o ∷ []) (a b : QuadFelt)
        (left : There vs o.lhs a) (right : There vs o.rhs b) (is : result F o.op a b ≡ worth n) where
      is_there : There (vs ++ (done F g vs o ∷ [])) (node F find l n) (worth n)
      is_there =
          rw (node_operation F find l n yes) (
            omega (arith, r.length_lem, length_snoc vs (done F g vs o)),
            get_or_at vs (done F g vs o) [] F.zero (num_vars + operation_count l n) r.length_lem ∙ (ap₂ (result F o.op) left.1 right.1 ∙ is),
          )

      operation : (us : List QuadFelt) × Right (suc n) us
      operation =
          let count = operation_count_next l n yes in
          let below : operation_count l n < length os = rw (length_operations F find l (length l)) (operation_count_below l n (length l) h yes) in
          let stands : get_or (padded_operations os g.operations) (operation_count l n) o ≡ o = padded_at os g.operations (operation_count l n) o below ∙ operation_at F find l n (length l) o o h e in (
            vs ++ (done F g vs o ∷ []),
            record {
              ran_lem = rw count (next_done F g cs os rest inputs same few least (operation_count l n) vs o r.ran_lem (omega arith) stands r.length_lem left.0 right.0);
              length_lem = omega (arith, count, r.length_lem, length_snoc vs (done F g vs o));
              begins = λ j k. get_or-append vs (done F g vs o ∷ []) F.zero j (omega (arith, r.length_lem)) ∙ r.begins j k;
              nodes =
                  below_suc_elim (λ i. There (vs ++ (done F g vs o ∷ [])) (node F find l i) (worth i)) n
                  (λ i k. there_snoc vs (done F g vs o) (node F find l i) (worth i) (r.nodes i k))
                  is_there;
            },
          )

    is_worth : (x : NodeKind) → at l n ≡ x → value_of F (given F find inputs) worth x ≡ worth n
    is_worth x e = sym (worth_at n h ∙ ap (value_of F (given F find inputs) worth) e)

    node_is : (x : NodeKind) → at l n ≡ x → node F find l n ≡ node_of F find l n x
    unfolding node
    node_is x e = ap (node_of F find l n) e

    fine : (x : NodeKind) → at l n ≡ x → Fine Low n x
    unfolding WellFormed
    fine x e = rw e at (w n)

    -- the record n, by its kind
    one_record : (x : NodeKind) → at l n ≡ x → (us : List QuadFelt) × Right (suc n) us
    unfolding is_operation operation_of value_of Fine
    one_record (Input k) e =
        let place = placed n k h e in
        no_operation (rw e refl)
        (rw (node_is (Input k) e, place.1) (
          omega (arith, r.length_lem, place.2),
          r.begins place.0 (omega (arith, place.2)) ∙ (get_or-append inputs _ F.zero place.0 place.2 ∙ (ap (λ j. get_or inputs (unwrap_or j 0) F.zero) (sym place.1) ∙ is_worth (Input k) e)),
        ))
    one_record (Constant c) e =
        let there = constant_used c (rw e refl) in
        no_operation (rw e refl) (rw (node_is (Constant c) e) (there.0, there.1 ∙ is_worth (Constant c) e))
    one_record (Add a b) e =
        let f = fine (Add a b) e in
        operation (record { op = Op.Add; lhs = node F find l a; rhs = node F find l b }) (rw e refl) (rw e refl) (worth a) (worth b) (r.nodes a f.0) (r.nodes b f.1) (is_worth (Add a b) e)
    one_record (Sub a b) e =
        let f = fine (Sub a b) e in
        operation (record { op = Op.Sub; lhs = node F find l a; rhs = node F find l b }) (rw e refl) (rw e refl) (worth a) (worth b) (r.nodes a f.0) (r.nodes b f.1) (is_worth (Sub a b) e)
    one_record (Mul a b) e =
        let f = fine (Mul a b) e in
        operation (record { op = Op.Mul; lhs = node F find l a; rhs = node F find l b }) (rw e refl) (rw e refl) (worth a) (worth b) (r.nodes a f.0) (r.nodes b f.1) (is_worth (Mul a b) e)
    one_record (Neg a) e =
        let from_zero : F.sub F.zero (worth a) ≡ F.neg (worth a) = L.sub_add_neg F.zero (worth a) ∙ L.zero_add (F.neg (worth a)) (L.low_neg (worth a)) in
        operation (record { op = Op.Sub; lhs = constant_node F find l F.zero; rhs = node F find l a }) (rw e refl) (rw e refl) F.zero (worth a)
        (constant_used F.zero (rw e refl)) (r.nodes a (fine (Neg a) e)) (from_zero ∙ is_worth (Neg a) e)

  -- the first n records
  records : (n : ℕ) → n ≤ length l → (vs : List QuadFelt) × Right n vs
  unfolding operation_count run
  records zero h =
      (begun, record { ran_lem = refl; length_lem = omega (arith, length_variables F g cs os rest inputs same few least); begins = λ j k. refl; nodes = λ i k. absurd (omega arith) })
  records (suc n) h = let before = records n (omega arith) in one_record n h before.0 before.1 (at l n) refl

  -- the values once n operations are done, padding counted in
  pub record Padded (n : ℕ) (vs : List QuadFelt) : Type 0 where
    pub ran_lem : runs n ≡ Some vs
    pub length_lem : length vs ≡ num_vars + n
    pub nodes : (i : ℕ) → i < length l → There vs (node F find l i) (worth i)
    pub pads : (j : ℕ) → length os ≤ j → j < n → get_or vs (num_vars + j) F.zero ≡ F.mul (get_or vs (num_vars + (j - 1)) F.zero) (get_or vs (num_vars + (j - 1)) F.zero)

  -- all records
  all_records : (vs : List QuadFelt) × Padded (length os) vs
  all_records =
      let all = records (length l) (omega arith) in
      let count = length_operations F find l (length l) in
      (all.0, record { ran_lem = rw count (all.1).ran_lem; length_lem = rw count (all.1).length_lem; nodes = (all.1).nodes; pads = λ j h k. absurd (omega arith) })

  -- one pad more
  module _ (n : ℕ) (more : 0 < length os) (h : length os ≤ n) (k : n < g.operations) (vs : List QuadFelt) (p : Padded n vs) where
    before : QuadFelt
    before = get_or vs (num_vars + (n - 1)) F.zero

    one_pad : (us : List QuadFelt) × Padded (suc n) us
    unfolding before square
    one_pad =
        let us : List QuadFelt = vs ++ (F.mul before before ∷ []) in
        let kept : (j : ℕ) → j < n → get_or us (num_vars + j) F.zero ≡ get_or vs (num_vars + j) F.zero =
        λ j i. get_or-append vs (F.mul before before ∷ []) F.zero (num_vars + j) (omega (arith, p.length_lem)) in (
          us,
          record {
            ran_lem = next_done F g cs os rest inputs same few least n vs (square n) p.ran_lem k (pad_at os g.operations n (square n) h k) p.length_lem (omega (arith, p.length_lem)) (omega (arith, p.length_lem));
            length_lem = omega (arith, p.length_lem, length_snoc vs (F.mul before before));
            nodes = λ i q. there_snoc vs (F.mul before before) (node F find l i) (worth i) (p.nodes i q);
            pads = λ j q i.
                below_suc_elim (λ j. length os ≤ j → get_or us (num_vars + j) F.zero ≡ F.mul (get_or us (num_vars + (j - 1)) F.zero) (get_or us (num_vars + (j - 1)) F.zero)) n
                (λ j i q. rw (kept j i, kept (j - 1) (omega arith)) (p.pads j q i))
                (λ q. rw (kept (n - 1) (omega arith)) (get_or_at vs (F.mul before before) [] F.zero (num_vars + n) p.length_lem))
                j i q;
          },
        )

  -- the first k pads
  pads : 0 < length os → (k : ℕ) → length os + k ≤ g.operations → (vs : List QuadFelt) × Padded (length os + k) vs
  pads more zero h = rw (add-zero (length os)) all_records
  pads more (suc k) h =
      let before = pads more k (omega arith) in
      let e : length os + suc k ≡ suc (length os + k) = omega arith in
      rw e (one_pad (length os + k) more (omega arith) (omega arith) before.0 before.1)

  -- all operations
  pub padded : 0 < length os → (vs : List QuadFelt) × Padded g.operations vs
  padded more =
      let all : length os + (g.operations - length os) ≡ g.operations = omega arith in
      subst (λ n. (vs : List QuadFelt) × Padded n vs) all (pads more (g.operations - length os) (omega arith))
