use Rattle.std.proofs.Common.{◌≡◌}
use Rattle.dag.specs.View.{interleaved}
use Rattle.dag.specs.Nodes.{nodes}
use Rattle.compact.specs.Reach.{sweep}
use Rattle.compact.proofs.mark_reachable.Given as goal

abbrev pub invariant-loop-i : goal.invariant-loop-i
invariant-loop-i l =
    sweep (nodes (interleaved l.list) l.n) l.n l.initial.reachable ≡ sweep (nodes (interleaved l.list) l.n) l.i l.reachable
