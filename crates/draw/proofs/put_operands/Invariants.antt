-- The invariant: the lines of the operands of the records before this one are written.
use Rattle.dag.specs.View.{interleaved}
use Rattle.dag.specs.Nodes.{nodes}
use Rattle.text.specs.Promises.{Wrote}
use Rattle.draw.specs.Drawing.{edge_lines}
use Rattle.draw.proofs.put_operands.Given as goal

abbrev pub invariant-loop-i : goal.invariant-loop-i
invariant-loop-i l = let d = l.dag in Wrote l.initial.text (edge_lines (nodes (interleaved d.list.now) d.n) l.i) l.text
