-- `to_ace` of compiler/encode.rs: a circuit's words. Every three words behind the constants are an operation.
use Rattle.std.specs.Prelude.{ℕ, ◌+◌, ◌-◌, ◌*◌, ◌/◌, List, [], ◌∷◌, ◌++◌, length}
use Rattle.dag.specs.Arrays.{up_to, padded}
use Rattle.dag.specs.Nodes.{first, second}
use Rattle.dag.specs.declared.NodeKind.{NodeKind}
use Rattle.circuit.specs.declared.AceOp.{AceOp}
use Rattle.circuit.specs.declared.AceOp.TheVariants as Op
use Rattle.circuit.specs.declared.AceNode.{AceNode}
use Rattle.circuit.specs.declared.AceNode.TheVariants as Node
use Rattle.circuit.specs.declared.AceOpNode.{AceOpNode}
use Rattle.encode.specs.declared.StreamGeometry.{StreamGeometry}

-- the least multiple of d that isn't below m
unfoldable pub next_multiple_of : ℕ → ℕ → ℕ
next_multiple_of m d = (m + d - 1) / d * d

-- the counts of a circuit's nodes, padding counted in: constants are even, twice the constants and the operations a multiple of 8
unfoldable pub from_counts : ℕ → ℕ → ℕ → StreamGeometry
from_counts inputs constants operations =
    let even = next_multiple_of constants 2 in
    record { inputs = inputs; constants = even; operations = next_multiple_of (2 * even + operations) 8 - 2 * even }

-- all nodes
unfoldable pub num_nodes : StreamGeometry → ℕ
num_nodes g = g.inputs + g.constants + g.operations

-- a node's number: they count down from the number of nodes less one, inputs first, then constants, then operations
unfoldable pub node_id : StreamGeometry → AceNode → ℕ
node_id g (Node.Input i) = num_nodes g - 1 - i
node_id g (Node.Constant i) = num_nodes g - 1 - (g.inputs + i)
node_id g (Node.Operation i) = num_nodes g - 1 - (g.inputs + g.constants + i)

-- an operation's kind
abbrev pub op_number : AceOp → ℕ
op_number Op.Sub = 0
op_number Op.Mul = 1
op_number Op.Add = 2

-- an operation's words: kind, left, right
unfoldable pub encode_operation : StreamGeometry → AceOpNode → List ℕ
encode_operation g o = op_number o.op ∷ node_id g o.lhs ∷ node_id g o.rhs ∷ []

-- the words of operations, one after the other
unfoldable pub encode_operations : StreamGeometry → List AceOpNode → List ℕ
encode_operations g [] = []
encode_operations g (o ∷ os) = encode_operation g o ++ encode_operations g os

-- operation i of the padding, squaring the one just before it
unfoldable pub square : ℕ → AceOpNode
square i = record { op = Op.Mul; lhs = Node.Operation (i - 1); rhs = Node.Operation (i - 1) }

-- operations, padded to n of them
unfoldable pub padded_operations : List AceOpNode → ℕ → List AceOpNode
padded_operations os n = os ++ up_to (λ i. square (length os + i)) (n - length os)

-- the words of constants, two each
unfoldable pub constant_words : List NodeKind → List ℕ
constant_words [] = []
constant_words (c ∷ cs) = first c ∷ second c ∷ constant_words cs

-- the words of a circuit: its constants, zeros to an even count, then its operations, padded
unfoldable pub instructions : StreamGeometry → List NodeKind → List AceOpNode → List ℕ
instructions g cs os = padded 0 (2 * g.constants) (constant_words cs) ++ encode_operations g (padded_operations os g.operations)
