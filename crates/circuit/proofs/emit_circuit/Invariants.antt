-- The invariant: the inputs before record i have a place, their nodes are filled in, and the constants that they use are interned.
use Rattle.std.proofs.Common.{◌≡◌, Ok}
use Rattle.field.specs.Fields.{field_of}
use Rattle.field.specs.Field.{elements}
use Rattle.dag.specs.View.{interleaved}
use Rattle.dag.specs.Nodes.{nodes}
use Rattle.entries.specs.Entries.{inputs_check, entry_of}
use Rattle.builder.specs.Promises.{SameStores}
use Rattle.circuit.specs.Circuit.{layout_words, constants, operation_count}
use Rattle.circuit.specs.Promises.{held, Table, ZeroStands, NodesAre}
use Rattle.circuit.proofs.emit_circuit.Given as goal

abbrev pub invariant-loop-i : goal.invariant-loop-i
invariant-loop-i l =
    let d = l.fn.dag in
    let e = l.fn.layout.entries in
    record {
      same : SameStores l.initial.constants l.constants;
      table : Table l.constants;
      constants_are : held l.constants ≡ constants (elements d.prime) (nodes (interleaved d.list.now) d.n) l.i;
      zero_stands : ZeroStands (elements d.prime) l.zero (constants (elements d.prime) (nodes (interleaved d.list.now) d.n) l.i);
      operations_are : l.operations ≡ operation_count (nodes (interleaved d.list.now) d.n) l.i;
      nodes_are : NodesAre (field_of d.prime) (interleaved d.list.now) d.n e.words.now e.count l.nodes l.i;
      passed : inputs_check (entry_of layout_words e.words.now e.count) (nodes (interleaved d.list.now) d.n) l.i ≡ Ok tt;
    }
