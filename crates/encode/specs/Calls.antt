-- Emit (`emit_circuit` and `to_ace` on a lent layout): the answer, and every word of the result store, on all inputs.
use Rattle.std.specs.Prelude.{ℕ, ◌+◌, ◌-◌, ◌%◌, Bool, false, ◌&&◌, Option, Result, Ok, Err, List, leb, ltb, eqb, length, slice_index}
use Rattle.field.specs.Fields.{Field}
use Rattle.dag.specs.View.{View}
use Rattle.dag.specs.Nodes.{nodes, filled}
use Rattle.dag.specs.Refusals.{Checked, need, ◌then◌, unless_refused}
use Rattle.dag.specs.Check.{list_check}
use Rattle.dag.specs.declared.NodeKind.{NodeKind}
use Rattle.dag.specs.declared.Refusal.{Refusal}
use Rattle.dag.specs.declared.Refusal.TheVariants.{StoreTooShort, NoOperations, RootNotLast, OddLayout}
use Rattle.entries.specs.Entries.{entries_check, entry_of, inputs_check}
use Rattle.circuit.specs.declared.AceNode.{AceNode}
use Rattle.circuit.specs.declared.AceNode.TheVariants as Node
use Rattle.circuit.specs.declared.AceOpNode.{AceOpNode}
use Rattle.circuit.specs.Circuit.{layout_words, constants, node, operations}
use Rattle.encode.specs.declared.StreamGeometry.{StreamGeometry}
use Rattle.encode.specs.declared.EncodedCircuit.{EncodedCircuit}
use Rattle.encode.specs.Encode.{from_counts, instructions}

-- a node is operation i
abbrev pub is_operation_at : AceNode → ℕ → Bool
is_operation_at (Node.Input j) i = false
is_operation_at (Node.Constant j) i = false
is_operation_at (Node.Operation j) i = eqb j i

-- a key's input number: its last place among the first k of the layout
unfoldable pub input_number : List ℕ → ℕ → ℕ → Option ℕ
input_number layout k = entry_of layout_words layout k

module _ (field : Field) (s : View) (n : ℕ) (roots layout : List ℕ) (k : ℕ) where
  -- the circuit's constants, its operations, and its counts
  unfoldable pub circuit_constants : List NodeKind
  circuit_constants = constants field.elements (nodes s n) n

  unfoldable pub circuit_operations : List AceOpNode
  circuit_operations = operations field.elements (input_number layout k) (nodes s n) n

  unfoldable pub geometry : StreamGeometry
  geometry = from_counts k (length circuit_constants) (length circuit_operations)

  -- its words
  unfoldable pub emitted : List ℕ
  emitted = instructions geometry circuit_constants circuit_operations

  -- there is one root, and it is the last operation
  unfoldable pub root_is_last : Bool
  root_is_last =
      eqb (length roots) 1
      && is_operation_at (node field.elements (input_number layout k) (nodes s n) (slice_index roots 0)) (length circuit_operations - 1)

  -- the tests of the circuit: 42, 43, 44
  unfoldable pub circuit_check : Checked
  circuit_check =
      need (ltb 0 (length circuit_operations)) NoOperations
      then need root_is_last RootNotLast
      then need (eqb (k % 2) 0) OddLayout

  -- Emit's tests: the list check, the layout, the inputs, the circuit, then the result store's words
  unfoldable pub emit_check : ℕ → Checked
  emit_check result_words =
      list_check field.bounds s n roots
      then entries_check field.bounds layout_words layout k
      then inputs_check (input_number layout k) (nodes s n) n
      then circuit_check
      then need (leb (length emitted) result_words) StoreTooShort

  -- the number of variables, inputs and constants, and of operations, padding counted in
  unfoldable pub encoded : EncodedCircuit
  encoded = record { num_vars = geometry.inputs + geometry.constants; num_ops = geometry.operations }

  unfoldable pub emit_answer : ℕ → Result EncodedCircuit Refusal
  emit_answer result_words = unless_refused (emit_check result_words) Err (Ok encoded)

  -- the circuit's words, blanks behind them
  unfoldable pub emit_result : List ℕ → List ℕ
  emit_result result = unless_refused (emit_check (length result)) (λ r. result) (filled (length result) emitted)
