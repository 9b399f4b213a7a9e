use Rattle.std.proofs.Common.{arith, ap, ◌∙◌}
use Rattle.text.specs.Text.{rows}
use Rattle.text.specs.PieceLaws.{rows_fit, rows_more}
use Rattle.text.specs.WritingLaws.{wrote_nothing, wrote_as}
use Rattle.dag.specs.View.{interleaved}
use Rattle.dag.specs.Nodes.{nodes, at, operands}
use Rattle.draw.specs.Drawing.{edges}
use Rattle.draw.specs.SizeLaws.{node_is}
use Rattle.draw.proofs.put_operands.Goals as goal

pub loop-i-init : goal.loop-i-init
unfolding rows
loop-i-init c = wrote_nothing _ (omega arith)

pub put_edges-requires : goal.put_edges-requires
put_edges-requires c =
    let d = c.args.dag in
    let l = nodes (interleaved d.list.now) d.n in
    let x = node_is d.prime (interleaved d.list.now) d.n d.sound c.loop-i.i c.node.result c.loop-i-test.true c.node.ensures in
    rw (c.as_slice.ensures.value, c.operands.ensures, x) (omega (arith, rows_fit (λ i. edges i (operands (at l i))) d.n c.loop-i.i c.loop-i-test.true))

pub loop-i-preserved : goal.loop-i-preserved
loop-i-preserved c =
    let d = c.args.dag in
    let l = nodes (interleaved d.list.now) d.n in
    let x = node_is d.prime (interleaved d.list.now) d.n d.sound c.loop-i.i c.node.result c.loop-i-test.true c.node.ensures in
    let same = c.as_slice.ensures.value ∙ (c.operands.ensures ∙ ap operands x) in
    rows_more (λ i. edges i (operands (at l i))) c.loop-i.i c.loop-i.invariant (wrote_as (ap (edges c.loop-i.i) same) c.put_edges.ensures)
