-- The invariant: the lines of the operands before this one are written.
use Rattle.std.proofs.Common.{take}
use Rattle.text.specs.Promises.{Wrote}
use Rattle.draw.specs.Drawing.{edges}
use Rattle.draw.proofs.put_edges.Given as goal

abbrev pub invariant-loop-operand : goal.invariant-loop-operand
invariant-loop-operand l = Wrote l.initial.text (edges l.i (take l.operand-index l.operands)) l.text
