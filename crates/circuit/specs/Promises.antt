-- What the functions of a circuit ask and say of its constants and nodes.
use Rattle.std.specs.Prelude.{eqb, ℕ, Bool, true, cond, is_some, length, ◌<◌, Option, Some, option_map, List, ◌≡◌, get_or}
use Rattle.ring.specs.Ring.{Ops}
use Rattle.dag.specs.Lookup.{lookup}
use Rattle.field.specs.Fields.{Field, field_of}
use Rattle.field.specs.declared.QuadFelt.{QuadFelt}
use Rattle.dag.specs.View.{View, interleaved}
use Rattle.dag.specs.Nodes.{nodes}
use Rattle.dag.specs.Store.{Sound}
use Rattle.dag.specs.declared.NodeKind.{NodeKind}
use Rattle.dag.specs.declared.NodeKind.TheVariants.{Input, Constant, Add, Sub, Mul, Neg}
use Rattle.index.specs.Index.{half, NodeIndex}
use Rattle.builder.specs.Steps.{is_neg, intern}
use Rattle.builder.specs.declared.DagBuilder.{DagBuilder}
use Rattle.circuit.specs.declared.AceOp.{AceOp}
use Rattle.circuit.specs.declared.AceOp.TheVariants as Op
use Rattle.circuit.specs.declared.AceNode.{AceNode}
use Rattle.circuit.specs.declared.AceNode.TheVariants as Node
use Rattle.circuit.specs.declared.Counts.{Counts}
use Rattle.circuit.specs.Circuit.{with_used, layout_words, constants, operation_count, node}
use Rattle.entries.specs.Entries.{entry_of}

-- the list that is built
abbrev pub held : DagBuilder → List NodeKind
held b = nodes (interleaved b.list.now) b.count

-- a list that is built, sound and indexed
pub record Table (b : DagBuilder) : Type 0 where
  pub sound : Sound (field_of b.prime).bounds (interleaved b.list.now) b.count
  pub index : NodeIndex (held b) b.index.now.links.now

-- room for one record more
pub record Room (b : DagBuilder) : Type 0 where
  pub records : b.count < (interleaved b.list.now).room
  pub links : b.count < half b.index.now.links.now

-- a constant interned, and its place
pub record Interned (before : DagBuilder) (c : QuadFelt) (after : DagBuilder) (place : ℕ) : Type 0 where
  pub list_is : held after ≡ (intern (held before) (Constant c)).list
  pub place_is : place ≡ (intern (held before) (Constant c)).place

-- where `zero` says so, zero stands among the constants
unfoldable pub ZeroStands : Ops QuadFelt → Bool → List NodeKind → Type 0
ZeroStands F zero cs = zero ≡ true → is_some (lookup cs (Constant F.zero) (length cs)) ≡ true

-- constants with the zero that a Neg uses
abbrev pub with_zero : Ops QuadFelt → List NodeKind → NodeKind → List NodeKind
with_zero F cs x = cond (is_neg x) (with_used F cs (Some F.zero)) cs

-- what the box does for an operation's tag
abbrev pub op_of : ℕ → AceOp
op_of t = cond (eqb t 2) Op.Add (cond (eqb t 4) Op.Mul Op.Sub)

-- the last operand by an operation's words
abbrev pub last_operand : ℕ → ℕ → ℕ → ℕ
last_operand t a b = cond (eqb t 5) a b

-- the node of a record behind so many constants and operations, none for an input whose key has no place
abbrev pub node_answer : (ℕ → Option ℕ) → List NodeKind → ℕ → NodeKind → Option AceNode
node_answer find cs count (Input k) = option_map Node.Input (find k)
node_answer find cs count (Constant c) = Some (Node.Constant (intern cs (Constant c)).place)
node_answer find cs count (Add a b) = Some (Node.Operation count)
node_answer find cs count (Sub a b) = Some (Node.Operation count)
node_answer find cs count (Mul a b) = Some (Node.Operation count)
node_answer find cs count (Neg a) = Some (Node.Operation count)

-- the node at a place
abbrev pub node_at : List AceNode → ℕ → AceNode
node_at nodes i = get_or nodes i (Node.Input 0)

module _ (field : Field) (s : View) (n : ℕ) (layout : List ℕ) (k : ℕ) where
  -- the list, and where the layout has a key
  abbrev pub records : List NodeKind
  records = nodes s n

  abbrev pub find : ℕ → Option ℕ
  find = entry_of layout_words layout k

  -- the nodes of the first i records
  abbrev pub NodesAre : List AceNode → ℕ → Type 0
  NodesAre ns i = (j : ℕ) → j < i → node_at ns j ≡ node field.elements find records j

  -- a circuit: its constants as records, the node of each record, the counts
  pub record Emitted (table : List ℕ) (ns : List AceNode) (counts : Counts) : Type 0 where
    pub sound : Sound field.bounds (interleaved table) counts.constants
    pub constants_are : nodes (interleaved table) counts.constants ≡ constants field.elements records n
    pub nodes_are : NodesAre ns n
    pub operations_are : counts.operations ≡ operation_count records n
