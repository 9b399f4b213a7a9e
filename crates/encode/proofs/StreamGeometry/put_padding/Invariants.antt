-- The invariant: the squares before operation j are written.
use Rattle.std.proofs.Common.{◌+◌, ◌-◌}
use Rattle.dag.specs.Arrays.{up_to}
use Rattle.encode.specs.Encode.{square}
use Rattle.encode.specs.Promises.{Wrote}
use Rattle.encode.proofs.StreamGeometry.put_padding.Given as goal

abbrev pub invariant-loop-j : goal.invariant-loop-j
invariant-loop-j l = Wrote l.self l.initial.store l.operations (up_to (λ i. square (l.operations + i)) (l.j - l.operations)) l.store l.j
