use Rattle.std.proofs.Common.{◌≡◌}
use Rattle.dag.specs.View.{interleaved}
use Rattle.dag.specs.Nodes.{nodes}
use Rattle.compact.specs.Compact.{kept}
use Rattle.dag.specs.Store.{written}
use Rattle.compact.proofs.write_marked.Given as goal

abbrev pub invariant-loop-i : goal.invariant-loop-i
invariant-loop-i l = l.res ≡ written l.initial.res (kept (nodes (interleaved l.list) l.n) l.reachable l.i)
