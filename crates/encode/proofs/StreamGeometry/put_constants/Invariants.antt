-- The invariant: the words of the constants before constant i are written, zeros behind them.
use Rattle.std.proofs.Common.{◌≡◌, ◌*◌}
use Rattle.dag.specs.View.{interleaved}
use Rattle.dag.specs.Nodes.{nodes}
use Rattle.dag.specs.Arrays.{padded}
use Rattle.encode.specs.Encode.{constant_words}
use Rattle.encode.proofs.StreamGeometry.put_constants.Given as goal

abbrev pub invariant-loop-i : goal.invariant-loop-i
invariant-loop-i l = l.store ≡ padded 0 (2 * l.fn.self.constants) (constant_words (nodes (interleaved l.circuit.constants.now) l.i))
