use Rattle.std.proofs.Common.{◌≡◌, refl, sym, ◌∙◌, arith, slice_index_or}
use Rattle.field.specs.Fields.{field_of}
use Rattle.dag.specs.View.{interleaved}
use Rattle.dag.specs.PassLaws.{rooted}
use Rattle.dag.specs.Roots.{roots_of, roots_from}
use Rattle.circuit.specs.declared.AceNode.TheVariants as Node
use Rattle.circuit.specs.AceCircuits.{circuit_node}
use Rattle.encode.specs.Calls.{root_is_last, input_number}
use Rattle.encode.specs.CallLaws.{many_operations}
use Rattle.encode.proofs.root_is_last.Goals as goal

pub node-requires : goal.node-requires
unfolding roots_of roots_from
node-requires c =
    let d = c.args.circuit.dag in
    (rooted (field_of d.prime).bounds (interleaved d.list.now) d.n c.args.roots.now c.requires).inside.below 0 (omega (arith, c.if-not-alone.false))

pub returns-in-Operation : goal.returns-in-Operation
unfolding root_is_last input_number
returns-in-Operation c =
    let a = c.args.circuit in
    let d = a.dag in
    let many = many_operations (field_of d.prime) (interleaved d.list.now) d.n c.args.roots.now a.layout.words.now a.layout.count ∙ sym a.emitted.operations_are in
    let here : circuit_node a (slice_index_or c.args.roots.now 0 0) ≡ Node.Operation c.in-Operation.i = sym c.node.ensures ∙ c.in-Operation.is in
    rw (c.if-not-alone.false, here, many, c.saturating_sub.ensures) refl

pub returns-in-Input : goal.returns-in-Input
unfolding root_is_last input_number
returns-in-Input c =
    let a = c.args.circuit in
    let d = a.dag in
    let here : circuit_node a (slice_index_or c.args.roots.now 0 0) ≡ Node.Input c.in-Input.field-0 = sym c.node.ensures ∙ c.in-Input.is in
    rw (c.if-not-alone.false, here) refl

pub returns-in-Constant : goal.returns-in-Constant
unfolding root_is_last input_number
returns-in-Constant c =
    let a = c.args.circuit in
    let d = a.dag in
    let here : circuit_node a (slice_index_or c.args.roots.now 0 0) ≡ Node.Constant c.in-Constant.field-0 = sym c.node.ensures ∙ c.in-Constant.is in
    rw (c.if-not-alone.false, here) refl
