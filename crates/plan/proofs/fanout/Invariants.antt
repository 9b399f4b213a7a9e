use Rattle.dag.specs.View.{interleaved}
use Rattle.dag.specs.Nodes.{nodes}
use Rattle.plan.specs.FanoutLaws as Fanouts
use Rattle.plan.proofs.fanout.Given as goal

abbrev pub invariant-loop-i : goal.invariant-loop-i
invariant-loop-i l = Fanouts.Counted (nodes (interleaved l.list) l.n) l.i l.fan
