-- The invariant: the operations of the records before record i are written.
use Rattle.field.specs.Fields.{field_of}
use Rattle.circuit.specs.Circuit.{operations}
use Rattle.circuit.specs.AceCircuits.{listed, placed}
use Rattle.encode.specs.Promises.{Wrote}
use Rattle.encode.proofs.StreamGeometry.put_operations.Given as goal

abbrev pub invariant-loop-i : goal.invariant-loop-i
invariant-loop-i l = Wrote l.self l.initial.store 0 (operations (field_of l.circuit.dag.prime).elements (placed l.circuit) (listed l.circuit) l.i) l.store l.next
