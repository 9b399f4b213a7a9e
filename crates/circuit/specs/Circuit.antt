-- `emit_circuit` of circuit.rs: the constants and operations of a list, over any ring.
use Rattle.std.specs.Prelude.{ℕ, zero, suc, ◌+◌, Bool, cond, ltb, Option, Some, None, List, [], ◌∷◌, ◌++◌, length, unwrap_or}
use Rattle.ring.specs.Ring.{Ops}
use Rattle.field.specs.declared.QuadFelt.{QuadFelt}
use Rattle.dag.specs.Nodes.{tag, at}
use Rattle.dag.specs.Lookup.{lookup}
use Rattle.dag.specs.declared.NodeKind.{NodeKind}
use Rattle.dag.specs.declared.NodeKind.TheVariants.{Input, Constant, Add, Sub, Mul, Neg}
use Rattle.builder.specs.Steps.{intern}
use Rattle.circuit.specs.declared.AceOp.TheVariants as Op
use Rattle.circuit.specs.declared.AceNode.{AceNode}
use Rattle.circuit.specs.declared.AceNode.TheVariants as Node
use Rattle.circuit.specs.declared.AceOpNode.{AceOpNode}

-- the words of a layout's entry: a key number
abbrev pub layout_words : ℕ
layout_words = 1

-- a record is an operation
unfoldable pub is_operation : NodeKind → Bool
is_operation x = ltb 1 (tag x)

-- how many of the first n records are operations
unfoldable pub operation_count : List NodeKind → ℕ → ℕ
operation_count l zero = 0
operation_count l (suc n) = operation_count l n + cond (is_operation (at l n)) 1 0

module _ (F : Ops QuadFelt) where
  -- the constant that a record uses: its own, a Neg's is zero
  abbrev pub used : NodeKind → Option QuadFelt
  used (Input k) = None
  used (Constant c) = Some c
  used (Add a b) = None
  used (Sub a b) = None
  used (Mul a b) = None
  used (Neg a) = Some F.zero

  -- constants with one more that is used: once each
  abbrev pub with_used : List NodeKind → Option QuadFelt → List NodeKind
  with_used cs (Some c) = (intern cs (Constant c)).list
  with_used cs None = cs

  -- the constants that the first n records use, in order of first use
  unfoldable pub constants : List NodeKind → ℕ → List NodeKind
  constants l zero = []
  constants l (suc n) = with_used (constants l n) (used (at l n))

  -- a list, and the input number of each key that the layout has
  module _ (find : ℕ → Option ℕ) (l : List NodeKind) where
    -- all its constants
    unfoldable pub constants_of : List NodeKind
    constants_of = constants l (length l)

    -- the circuit's node of a constant
    unfoldable pub constant_node : QuadFelt → AceNode
    constant_node c = Node.Constant (unwrap_or (lookup constants_of (Constant c) (length constants_of)) 0)

    -- the circuit's node of the record at place i (`node_map`)
    abbrev pub node_of : ℕ → NodeKind → AceNode
    node_of i (Input k) = Node.Input (unwrap_or (find k) 0)
    node_of i (Constant c) = constant_node c
    node_of i (Add a b) = Node.Operation (operation_count l i)
    node_of i (Sub a b) = Node.Operation (operation_count l i)
    node_of i (Mul a b) = Node.Operation (operation_count l i)
    node_of i (Neg a) = Node.Operation (operation_count l i)

    unfoldable pub node : ℕ → AceNode
    node i = node_of i (at l i)

    -- a record's operation, if it is one: a Neg is taken from zero
    unfoldable pub operation_of : NodeKind → List AceOpNode
    operation_of (Input k) = []
    operation_of (Constant c) = []
    operation_of (Add a b) = record { op = Op.Add; lhs = node a; rhs = node b } ∷ []
    operation_of (Sub a b) = record { op = Op.Sub; lhs = node a; rhs = node b } ∷ []
    operation_of (Mul a b) = record { op = Op.Mul; lhs = node a; rhs = node b } ∷ []
    operation_of (Neg a) = record { op = Op.Sub; lhs = constant_node F.zero; rhs = node a } ∷ []

    -- the operations of the first n records
    unfoldable pub operations : ℕ → List AceOpNode
    operations zero = []
    operations (suc n) = operations n ++ operation_of (at l n)
