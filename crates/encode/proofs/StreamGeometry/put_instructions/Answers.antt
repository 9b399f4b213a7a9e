use Rattle.std.proofs.Common.{◌≡◌, sym, ◌∙◌, ap, arith, length}
use Rattle.field.specs.Fields.{field_of}
use Rattle.dag.specs.View.{interleaved}
use Rattle.dag.specs.NodeLaws.{length_nodes}
use Rattle.circuit.specs.CircuitLaws.{length_operations}
use Rattle.circuit.specs.AceCircuits.{listed, placed, circuit_constants, circuit_operations}
use Rattle.encode.specs.WriteLaws.{whole}
use Rattle.encode.proofs.StreamGeometry.put_instructions.Goals as goal

pub put_operations-requires : goal.put_operations-requires
unfolding interleaved
put_operations-requires c =
    let size = c.split_at_mut-constants.ensures.back_len in
    let k = c.requires.counts in
    (c.requires.small, omega (arith, size, k.operations, k.room))

pub put_padding-requires : goal.put_padding-requires
unfolding interleaved
put_padding-requires c =
    let size = c.split_at_mut-constants.ensures.back_len in
    let k = c.requires.counts in
    (c.requires.small, k.some, k.operations, omega (arith, size, k.room, c.put_operations.ensures.same))

pub returns : goal.returns
returns c =
    let a = c.args.circuit in
    let k = c.requires.counts in
    let F = (field_of a.dag.prime).elements in
    let many = length_operations F (placed a) (listed a) a.dag.n ∙ sym a.emitted.operations_are in
    let few : length (circuit_constants a) ≡ a.counts.constants = sym (ap length a.emitted.constants_are) ∙ length_nodes (interleaved a.constants.now) a.counts.constants in
    whole c.args.self (circuit_constants a) (circuit_operations a) a.counts.operations many (omega (arith, few, k.constants)) c.put_constants.ensures c.put_operations.ensures c.put_padding.ensures
    c.blank_from.ensures c.split_at_mut-constants.ensures.back_len k.operations
