use Rattle.std.proofs.Common.{◌≡◌, sym, ◌∙◌, arith}
use Rattle.field.specs.Field.{modulus_of}
use Rattle.field.specs.Fields.{field_of}
use Rattle.dag.specs.View.{interleaved}
use Rattle.dag.specs.Nodes.{nodes, at}
use Rattle.text.specs.Text.{rows}
use Rattle.text.specs.PieceLaws.{rows_next}
use Rattle.draw.specs.Promises.{both_lines}
use Rattle.draw.specs.SizeLaws.{node_is, low_at, lines_most, length_lines, length_record}
use Rattle.draw.proofs.drawing_length.Goals as goal

pub loop-i-init : goal.loop-i-init
unfolding rows
loop-i-init c = omega arith

pub node_length-requires : goal.node_length-requires
node_length-requires c =
    let d = c.args.dag in
    rw c.node-x.ensures (low_at d.prime (interleaved d.list.now) d.n d.sound c.loop-i.i c.loop-i-test.true)

pub overflow_add-length-in-loop-i-2 : goal.overflow_add-length-in-loop-i-2
overflow_add-length-in-loop-i-2 c =
    let d = c.args.dag in
    let before = lines_most d.prime (interleaved d.list.now) d.n d.sound d.most c.loop-i.i (omega arith) in
    omega (arith, c.loop-i.invariant, d.most, c.node_length.ensures.few, c.edges_length.ensures.few)

pub loop-i-preserved : goal.loop-i-preserved
loop-i-preserved c =
    let d = c.args.dag in
    let m = modulus_of d.prime in
    let l = nodes (interleaved d.list.now) d.n in
    let x = node_is d.prime (interleaved d.list.now) d.n d.sound c.loop-i.i c.node-x.result c.loop-i-test.true c.node-x.ensures in
    let node = rw x at c.node_length.ensures.length in
    let edges = rw x at c.edges_length.ensures.length in
    omega (arith, c.loop-i.invariant, rows_next (λ i. both_lines m i (at l i)) c.loop-i.i, length_record d.prime c.loop-i.i (at l c.loop-i.i))

pub returns : goal.returns
returns c =
    let d = c.args.dag in
    let end : c.loop-i.i ≡ d.n = omega arith in
    (rw end at c.loop-i.invariant) ∙ sym (length_lines (field_of d.prime) (interleaved d.list.now) d.n)
