-- One record's turn: its node, its constant, and the input that has no place.
use Rattle.std.specs.Prelude.{eqb, Bool, [], ◌∷◌, ℕ, ◌+◌, ◌<◌, ◌≤◌, Option, Some, None, option_map, is_some, List, ◌≡◌, refl, set, length, unwrap_or, cond}
use Rattle.std.proofs.Math.Bool.{true, false}
use Rattle.std.proofs.Common.{true≢false, ◌||◌, sym, ◌∙◌, ap, add-one, arith}
use Rattle.std.proofs.lemmas.List.{get_or-set_same, get_or-set_other}
use Rattle.ring.specs.Ring.{Ops}
use Rattle.field.specs.Fields.{Field, Low}
use Rattle.field.specs.declared.Prime.{Prime}
use Rattle.field.specs.declared.QuadFelt.{QuadFelt}
use Rattle.dag.specs.View.{View, interleaved}
use Rattle.dag.specs.Nodes.{tag, first, second, nodes, at, record_at}
use Rattle.dag.specs.NodeLaws.{at_nodes, length_nodes}
use Rattle.dag.specs.CaseLaws.{below_suc_elim}
use Rattle.dag.specs.WellFormed.{Fine}
use Rattle.dag.specs.Refusals.{first_refused}
use Rattle.builder.specs.Steps.{is_neg}
use Rattle.builder.specs.Promises.{Empty}
use Rattle.builder.specs.declared.DagBuilder.{DagBuilder}
use Rattle.dag.specs.declared.NodeKind.{NodeKind}
use Rattle.dag.specs.declared.NodeKind.TheVariants.{Input, Constant, Add, Sub, Mul, Neg}
use Rattle.entries.specs.Entries.{has_entry}
use Rattle.circuit.specs.declared.AceNode.{AceNode}
use Rattle.circuit.specs.declared.AceNode.TheVariants as Node
use Rattle.circuit.specs.Circuit.{is_operation, operation_count, used, with_used, constants, node_of, node, operation_of, constant_node}
use Rattle.circuit.specs.CircuitLaws.{found, intern_old, constants_kept, used_found, constant_node_place, constants_few}
use Rattle.circuit.specs.Promises.{last_operand, op_of, ZeroStands, with_zero, held, Table, find, node_answer, node_at, NodesAre}

-- the node that was found
module _ (find : ℕ → Option ℕ) where
  answer_some : (f : Option ℕ) (y : AceNode) → Some y ≡ option_map Node.Input f → (is_some f ≡ true) × (y ≡ Node.Input (unwrap_or f 0))
  answer_some (Some j) y e = (refl, cc)
  answer_some None y e = absurd cc

  answer_none : (f : Option ℕ) → None ≡ option_map Node.Input f → is_some f ≡ false
  answer_none (Some j) e = absurd cc
  answer_none None e = refl

  -- no node: an input without a place
  pub no_node : (cs : List NodeKind) (count : ℕ) (x : NodeKind) → None ≡ node_answer find cs count x → has_entry find x ≡ false
  no_node cs count (Input k) e = answer_none (find k) e
  no_node cs count (Constant c) e = absurd cc
  no_node cs count (Add a b) e = absurd cc
  no_node cs count (Sub a b) e = absurd cc
  no_node cs count (Mul a b) e = absurd cc
  no_node cs count (Neg a) e = absurd cc

  -- a node: inputs have a place
  pub some_node : (cs : List NodeKind) (count : ℕ) (x : NodeKind) (y : AceNode) → Some y ≡ node_answer find cs count x → has_entry find x ≡ true
  some_node cs count (Input k) y e = (answer_some (find k) y e).0
  some_node cs count (Constant c) y e = refl
  some_node cs count (Add a b) y e = refl
  some_node cs count (Sub a b) y e = refl
  some_node cs count (Mul a b) y e = refl
  some_node cs count (Neg a) y e = refl

module _ (field : Field) (find : ℕ → Option ℕ) (l : List NodeKind) (i : ℕ) (h : i < length l) where
  -- it is the record's
  pub node_is : (x : NodeKind) (y : AceNode) → at l i ≡ x → Some y ≡ node_answer find (constants field.elements l i) (operation_count l i) x → y ≡ node_of field.elements find l i x
  node_is (Input k) y q e = (answer_some find (find k) y e).1
  node_is (Constant c) y q e =
      let p = constant_node_place field.elements l find i c h (rw q refl) in
      cc
  node_is (Add a b) y q e = cc
  node_is (Sub a b) y q e = cc
  node_is (Mul a b) y q e = cc
  node_is (Neg a) y q e = cc

-- one node more
pub nodes_more : (field : Field) (s : View) (n : ℕ) (layout : List ℕ) (k : ℕ) (ns : List AceNode) (i : ℕ) (y : AceNode) → NodesAre field s n layout k ns i
    → i < length ns → y ≡ node field.elements (find field s n layout k) (nodes s n) i → NodesAre field s n layout k (set ns i y) (i + 1)
nodes_more field s n layout k ns i y before h e j q =
    below_suc_elim (λ j. node_at (set ns i y) j ≡ node field.elements (find field s n layout k) (nodes s n) j) i
    (λ j r. get_or-set_other ns i j y (Node.Input 0) (omega arith) ∙ before j r)
    (get_or-set_same ns i y (Node.Input 0) h ∙ e)
    j (omega arith)

-- a list that is built and holds nothing yet
pub empty_table : {prime : Prime} {list : List ℕ} (b : DagBuilder) → Empty prime list b → Table b
unfolding nodes first_refused
empty_table b e =
    record {
      sound = rw e.none (record { room = omega arith; good = refl });
      index = rw e.none e.index;
    }

-- so far there are no more constants than records
pub turn_few : (F : Ops QuadFelt) (l : List NodeKind) (b : DagBuilder) (i : ℕ) → held b ≡ constants F l i → b.count ≤ i
turn_few F l b i e =
    omega (arith, length_nodes (interleaved b.list.now) b.count, ap length e, constants_few F l i)

-- the record at place i of a store is that of the list
pub turn_is : (s : View) (n i : ℕ) → i < n → {x : NodeKind} → x ≡ record_at s i → x ≡ at (nodes s n) i
turn_is s n i h e = e ∙ sym (at_nodes s n i h)

-- one record's turn
module _ (l : List NodeKind) (i : ℕ) {x : NodeKind} (e : x ≡ at l i) where
  pub turn_counted : {count after : ℕ} → count ≡ operation_count l i → after ≡ count + cond (is_operation x) 1 0 → after ≡ operation_count l (i + 1)
  unfolding operation_count
  turn_counted p q = rw (q, p, e, add-one i) refl

module _ (F : Ops QuadFelt) (l : List NodeKind) (i : ℕ) {x : NodeKind} (e : x ≡ at l i) where
  pub turn_constants : {cs after : List NodeKind} → cs ≡ constants F l i → after ≡ with_used F cs (used F x) → after ≡ constants F l (i + 1)
  unfolding constants
  turn_constants p q = rw (q, p, e, add-one i) refl

module _ (field : Field) (find : ℕ → Option ℕ) (l : List NodeKind) (i : ℕ) (h : i < length l) {x : NodeKind} (e : x ≡ at l i) where
  pub turn_node : {y : AceNode} → Some y ≡ node_answer find (constants field.elements l i) (operation_count l i) x → y ≡ node field.elements find l i
  unfolding node
  turn_node some = rw (← e) (node_is field find l i h x _ (sym e) some)

-- the zero of a Neg
module _ (F : Ops QuadFelt) where
  -- stands already
  stood : (cs : List NodeKind) (x : NodeKind) (f : Option ℕ) → found cs (Constant F.zero) ≡ f → is_some f ≡ true → cs ≡ with_zero F cs x
  stood cs x (Some i) e h = go (is_neg x) refl
    where
      go : (b : Bool) → is_neg x ≡ b → cs ≡ with_zero F cs x
      go true q = rw q (sym (ap (λ b. b.list) (intern_old cs (Constant F.zero) i e)))
      go false q = rw q refl
  stood cs x None e h = absurd (true≢false (sym h))

  pub zero_stood : (cs : List NodeKind) (x : NodeKind) (zero : Bool) → ZeroStands F zero cs → zero ≡ true → cs ≡ with_zero F cs x
  unfolding ZeroStands
  zero_stood cs x zero z e = stood cs x (found cs (Constant F.zero)) refl (z e)

  -- an operation uses no other constant
  pub operation_uses : (cs : List NodeKind) (x : NodeKind) → is_operation x ≡ true → with_zero F cs x ≡ with_used F cs (used F x)
  unfolding is_operation is_neg
  operation_uses cs (Input k) h = absurd (true≢false (sym h))
  operation_uses cs (Constant c) h = absurd (true≢false (sym h))
  operation_uses cs (Add a b) h = refl
  operation_uses cs (Sub a b) h = refl
  operation_uses cs (Mul a b) h = refl
  operation_uses cs (Neg a) h = refl

  -- stands from the first Neg on
  pub no_zero : (cs : List NodeKind) → ZeroStands F false cs
  unfolding ZeroStands
  no_zero cs e = absurd (true≢false (sym e))

  module _ (l : List NodeKind) (i : ℕ) {x : NodeKind} (e : x ≡ at l i) where
    kept : (f : Option ℕ) → found (constants F l i) (Constant F.zero) ≡ f → is_some f ≡ true → is_some (found (constants F l (i + 1)) (Constant F.zero)) ≡ true
    kept (Some j) q h = rw (constants_kept F l (Constant F.zero) j i (i + 1) (omega arith) q) refl
    kept None q h = absurd (true≢false (sym h))

    new : is_neg x ≡ true → is_some (found (constants F l (i + 1)) (Constant F.zero)) ≡ true
    unfolding is_neg
    new h = rw (used_found F l i (i + 1) F.zero (omega arith) (rw (← e) (neg_uses x h))) refl
      where
        neg_uses : (x : NodeKind) → is_neg x ≡ true → used F x ≡ Some F.zero
        neg_uses (Input k) h = absurd (true≢false (sym h))
        neg_uses (Constant c) h = absurd (true≢false (sym h))
        neg_uses (Add a b) h = absurd (true≢false (sym h))
        neg_uses (Sub a b) h = absurd (true≢false (sym h))
        neg_uses (Mul a b) h = absurd (true≢false (sym h))
        neg_uses (Neg a) h = refl

    pub zero_next : (zero : Bool) → ZeroStands F zero (constants F l i) → ZeroStands F (zero || is_neg x) (constants F l (i + 1))
    unfolding ZeroStands
    zero_next true z h = kept (found (constants F l i) (Constant F.zero)) refl (z refl)
    zero_next false z h = new h

-- a record that is neither an input nor a constant is an operation
pub neither : (x : NodeKind) → ((k : ℕ) → x ≡ Input k → ⊥) → ((c : QuadFelt) → x ≡ Constant c → ⊥) → is_operation x ≡ true
unfolding is_operation
neither (Input k) h g = absurd (h k refl)
neither (Constant c) h g = absurd (g c refl)
neither (Add a b) h g = refl
neither (Sub a b) h g = refl
neither (Mul a b) h g = refl
neither (Neg a) h g = refl

-- its node
pub operation_answer : (find : ℕ → Option ℕ) (cs : List NodeKind) (count : ℕ) (x : NodeKind) → is_operation x ≡ true → Some (Node.Operation count) ≡ node_answer find cs count x
unfolding is_operation
operation_answer find cs count (Input k) h = absurd (true≢false (sym h))
operation_answer find cs count (Constant c) h = absurd (true≢false (sym h))
operation_answer find cs count (Add a b) h = refl
operation_answer find cs count (Sub a b) h = refl
operation_answer find cs count (Mul a b) h = refl
operation_answer find cs count (Neg a) h = refl

-- what the box does for it, by its parts
module _ (F : Ops QuadFelt) (find : ℕ → Option ℕ) (l : List NodeKind) where
  pub no_operation : (x : NodeKind) → is_operation x ≡ false → [] ≡ operation_of F find l x
  unfolding is_operation operation_of
  no_operation (Input k) h = refl
  no_operation (Constant c) h = refl
  no_operation (Add a b) h = absurd (true≢false h)
  no_operation (Sub a b) h = absurd (true≢false h)
  no_operation (Mul a b) h = absurd (true≢false h)
  no_operation (Neg a) h = absurd (true≢false h)

  pub the_operation : (x : NodeKind) → is_operation x ≡ true
      → record { op = op_of (tag x); lhs = cond (eqb (tag x) 5) (constant_node F find l F.zero) (node F find l (first x)); rhs = node F find l (last_operand (tag x) (first x) (second x)) } ∷ [] ≡ operation_of F find l x
  unfolding is_operation operation_of
  the_operation (Input k) h = absurd (true≢false (sym h))
  the_operation (Constant c) h = absurd (true≢false (sym h))
  the_operation (Add a b) h = refl
  the_operation (Sub a b) h = refl
  the_operation (Mul a b) h = refl
  the_operation (Neg a) h = refl

-- its operands come before it
pub ends_before : (Low : QuadFelt → Type 0) (i : ℕ) (x : NodeKind) → Fine Low i x → is_operation x ≡ true → (first x < i) × (last_operand (tag x) (first x) (second x) < i)
unfolding Fine is_operation
ends_before Low i (Input k) f h = absurd (true≢false (sym h))
ends_before Low i (Constant c) f h = absurd (true≢false (sym h))
ends_before Low i (Add a b) f h = f
ends_before Low i (Sub a b) f h = f
ends_before Low i (Mul a b) f h = f
ends_before Low i (Neg a) f h = (f, f)
