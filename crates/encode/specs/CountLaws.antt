-- How many constants, operations, nodes and words the circuit of a list has.
use Rattle.std.specs.Prelude.{ℕ, ◌+◌, ◌-◌, ◌*◌, ◌<◌, ◌≤◌, Option, List, ◌≡◌, length}
use Rattle.std.proofs.Common.{arith}
use Rattle.ring.specs.Ring.{Ops}
use Rattle.field.specs.declared.QuadFelt.{QuadFelt}
use Rattle.dag.specs.WellFormed.{WellFormed}
use Rattle.dag.specs.declared.NodeKind.{NodeKind}
use Rattle.circuit.specs.declared.AceOpNode.{AceOpNode}
use Rattle.circuit.specs.Circuit.{operation_count, constants, operations}
use Rattle.circuit.specs.CircuitLaws.{constants_few, operation_count_few, operation_count_fewer, constants_operations_few, length_operations}
use Rattle.encode.specs.declared.StreamGeometry.{StreamGeometry}
use Rattle.encode.specs.Encode.{from_counts, num_nodes, instructions}
use Rattle.encode.specs.EncodeLaws.{Counted, counted, length_instructions}

-- a list, the input numbers that its layout gives, and the number of the layout's places
module _ (F : Ops QuadFelt) (find : ℕ → Option ℕ) (k : ℕ) (l : List NodeKind) where
  abbrev cs : List NodeKind
  cs = constants F l (length l)

  abbrev os : List AceOpNode
  os = operations F find l (length l)

  abbrev g : StreamGeometry
  g = from_counts k (length cs) (length os)

  -- twice the constants and the operations are a multiple of 8, constants are even, and both are what is counted and few more
  pub counts : Counted k (length cs) (operation_count l (length l)) g
  counts = rw (← length_operations F find l (length l)) (counted k (length cs) (length os))

  -- there are fewer than 8 pads
  pub few_pads : g.operations - operation_count l (length l) < 8
  few_pads = omega (arith, counts.operations_least, counts.operations_most)

  -- at most one constant and one operation for each record
  pub few_constants : g.constants ≤ length l + 1
  few_constants = omega (arith, counts.constants_most, constants_few F l (length l))

  pub few_operations : g.operations < length l + 8
  few_operations = omega (arith, counts.operations_most, operation_count_few l (length l))

  -- at most a node for each place and record, and nine more
  pub nodes_most : num_nodes g ≤ k + length l + 9
  unfolding num_nodes
  nodes_most = omega (arith, counts.inputs_lem, counts.constants_most, counts.operations_most, constants_operations_few F l (length l))

  -- the words are as many as the counts say
  pub word_count : length (instructions g cs os) ≡ 2 * g.constants + 3 * g.operations
  word_count = length_instructions k cs os

  -- at most three for each record, and 23 more, where operands come earlier
  pub emitted_most : (Low : QuadFelt → Type 0) → WellFormed Low l → 2 * g.constants + 3 * g.operations ≤ 3 * length l + 23
  emitted_most Low w =
      let n = length l in
      omega (
        arith,
        counts.constants_even,
        counts.constants_least,
        counts.constants_most,
        counts.whole_blocks,
        counts.operations_most,
        constants_few F l n,
        constants_operations_few F l n,
        operation_count_fewer l Low w n,
      )
