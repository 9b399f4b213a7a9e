use Rattle.std.proofs.Common.{◌≡◌, ◌++◌, drop}
use Rattle.compact.specs.Compact.{rank, ranks}
use Rattle.compact.proofs.number_marked.Given as goal

abbrev pub invariant-loop-i : goal.invariant-loop-i
invariant-loop-i l = (l.count ≡ rank l.reachable l.i) × (l.remap ≡ ranks l.reachable l.i ++ drop l.i l.initial.remap)
