-- The invariant: the first and the last line, and the lines of the records before this one.
use Rattle.std.proofs.Common.{◌≡◌, ◌+◌, length}
use Rattle.field.specs.Field.{modulus_of}
use Rattle.dag.specs.View.{interleaved}
use Rattle.dag.specs.Nodes.{nodes, at}
use Rattle.text.specs.Text.{rows}
use Rattle.draw.specs.Promises.{both_lines, frame_bytes}
use Rattle.draw.proofs.drawing_length.Given as goal

abbrev pub invariant-loop-i : goal.invariant-loop-i
invariant-loop-i l =
    let d = l.dag in
    l.length ≡ frame_bytes + length (rows (λ i. both_lines (modulus_of d.prime) i (at (nodes (interleaved d.list.now) d.n) i)) l.i)
