use Rattle.std.proofs.Common.{arith}
use Rattle.text.specs.Text.{pieces}
use Rattle.text.specs.PieceLaws.{pieces_fit, pieces_more}
use Rattle.text.specs.WritingLaws.{wrote_nothing}
use Rattle.draw.specs.Drawing.{edge_line}
use Rattle.draw.proofs.put_edges.Goals as goal

pub loop-operand-init : goal.loop-operand-init
unfolding pieces
loop-operand-init c = wrote_nothing _ (omega arith)

pub put_edge-requires : goal.put_edge-requires
put_edge-requires c =
    omega (arith, pieces_fit (edge_line c.args.i) c.args.operands.now c.loop-operand.operand-index c.loop-operand-test.true)

pub loop-operand-preserved : goal.loop-operand-preserved
loop-operand-preserved c =
    pieces_more (edge_line c.args.i) c.args.operands.now c.loop-operand.operand-index c.loop-operand-test.true c.loop-operand.invariant c.put_edge.ensures
