use Rattle.std.proofs.Common.{◌≡◌, arith, add-one}
use Rattle.field.specs.Fields.{field_of}
use Rattle.dag.specs.ViewLaws.{same_room}
use Rattle.circuit.specs.Circuit.{operations}
use Rattle.circuit.specs.CircuitLaws.{length_operations, operation_count_few}
use Rattle.circuit.specs.AceCircuits.{listed, placed}
use Rattle.encode.specs.WriteLaws.{wrote_none, wrote_more, next_room}
use Rattle.encode.proofs.StreamGeometry.put_operations.Goals as goal

pub loop-i-init : goal.loop-i-init
unfolding operations
loop-i-init c = wrote_none c.args.self c.args.store.now 0

pub put_next-next-requires : goal.put_next-next-requires
put_next-next-requires c =
    let a = c.args.circuit in
    let v = c.loop-i.invariant in
    let room = next_room (field_of a.dag.prime).elements (placed a) (listed a) c.loop-i.i a.dag.n (omega arith) in (
      c.requires.0,
      omega (arith, v.next_is, length_operations (field_of a.dag.prime).elements (placed a) (listed a) c.loop-i.i, operation_count_few (listed a) c.loop-i.i, a.dag.most),
      rw (c.operation.ensures, same_room c.loop-i.store c.args.store.now v.same) (omega (arith, v.next_is, room, a.emitted.operations_are, c.requires.1)),
    )

pub loop-i-preserved : goal.loop-i-preserved
unfolding operations
loop-i-preserved c =
    let a = c.args.circuit in
    rw (add-one c.loop-i.i)
    (wrote_more c.args.self c.args.store.now 0 (operations (field_of a.dag.prime).elements (placed a) (listed a) c.loop-i.i) c.loop-i.store c.loop-i.next _ _ _ c.loop-i.invariant
    (rw c.operation.ensures at c.put_next-next.ensures))

pub returns : goal.returns
returns c =
    let a = c.args.circuit in
    let e : c.loop-i.i ≡ a.dag.n = omega arith in
    let v = rw e at c.loop-i.invariant in
    let k : c.loop-i.next ≡ a.counts.operations = omega (arith, v.next_is, length_operations (field_of a.dag.prime).elements (placed a) (listed a) a.dag.n, a.emitted.operations_are) in
    rw (← k) v
