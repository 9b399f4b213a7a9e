-- What a circuit's methods answer.
use Rattle.std.specs.Prelude.{ℕ, Option, List}
use Rattle.field.specs.Fields.{field_of}
use Rattle.dag.specs.View.{interleaved}
use Rattle.dag.specs.Nodes.{nodes, at}
use Rattle.dag.specs.declared.NodeKind.{NodeKind}
use Rattle.entries.specs.Entries.{entry_of}
use Rattle.circuit.specs.declared.AceNode.{AceNode}
use Rattle.circuit.specs.declared.AceOpNode.{AceOpNode}
use Rattle.circuit.specs.declared.AceCircuit.{AceCircuit}
use Rattle.circuit.specs.Circuit.{layout_words, constants, node, constant_node, operation_of, operations}

-- the list of a circuit, and where its layout has a key
abbrev pub listed : AceCircuit → List NodeKind
listed c = nodes (interleaved c.dag.list.now) c.dag.n

abbrev pub placed : AceCircuit → ℕ → Option ℕ
placed c = entry_of layout_words c.layout.words.now c.layout.count

-- the node of the record at place i, the node of zero, the operation of the record at place i
abbrev pub circuit_node : AceCircuit → ℕ → AceNode
circuit_node c i = node (field_of c.dag.prime).elements (placed c) (listed c) i

abbrev pub circuit_zero : AceCircuit → AceNode
circuit_zero c = constant_node (field_of c.dag.prime).elements (placed c) (listed c) (field_of c.dag.prime).elements.zero

abbrev pub circuit_operation : AceCircuit → ℕ → List AceOpNode
circuit_operation c i = operation_of (field_of c.dag.prime).elements (placed c) (listed c) (at (listed c) i)

-- its constants, and its operations
abbrev pub circuit_constants : AceCircuit → List NodeKind
circuit_constants c = constants (field_of c.dag.prime).elements (listed c) c.dag.n

abbrev pub circuit_operations : AceCircuit → List AceOpNode
circuit_operations c = operations (field_of c.dag.prime).elements (placed c) (listed c) c.dag.n
