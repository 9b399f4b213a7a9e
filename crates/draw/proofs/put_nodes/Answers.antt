use Rattle.std.proofs.Common.{arith, ap}
use Rattle.text.specs.Text.{rows}
use Rattle.text.specs.PieceLaws.{rows_fit, rows_more}
use Rattle.text.specs.WritingLaws.{wrote_nothing, wrote_as}
use Rattle.field.specs.Field.{modulus_of}
use Rattle.dag.specs.View.{interleaved}
use Rattle.dag.specs.Nodes.{nodes, at}
use Rattle.draw.specs.Drawing.{node_line}
use Rattle.draw.specs.SizeLaws.{node_is, low_at}
use Rattle.draw.proofs.put_nodes.Goals as goal

pub loop-i-init : goal.loop-i-init
unfolding rows
loop-i-init c = wrote_nothing _ (omega arith)

pub put_node-requires-clause-low : goal.put_node-requires-clause-low
put_node-requires-clause-low c =
    let d = c.args.dag in
    rw c.node.ensures (low_at d.prime (interleaved d.list.now) d.n d.sound c.loop-i.i c.loop-i-test.true)

pub put_node-requires-clause-room : goal.put_node-requires-clause-room
put_node-requires-clause-room c =
    let d = c.args.dag in
    let l = nodes (interleaved d.list.now) d.n in
    rw (node_is d.prime (interleaved d.list.now) d.n d.sound c.loop-i.i c.node.result c.loop-i-test.true c.node.ensures)
    (omega (arith, rows_fit (λ i. node_line (modulus_of d.prime) i (at l i)) d.n c.loop-i.i c.loop-i-test.true))

pub loop-i-preserved : goal.loop-i-preserved
loop-i-preserved c =
    let d = c.args.dag in
    let l = nodes (interleaved d.list.now) d.n in
    let x = node_is d.prime (interleaved d.list.now) d.n d.sound c.loop-i.i c.node.result c.loop-i-test.true c.node.ensures in
    rows_more (λ i. node_line (modulus_of d.prime) i (at l i)) c.loop-i.i c.loop-i.invariant (wrote_as (ap (node_line (modulus_of d.prime) c.loop-i.i) x) c.put_node.ensures)
