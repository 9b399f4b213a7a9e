use Rattle.std.proofs.Common.{◌≡◌, length}
use Rattle.field.specs.Fields.{field_of}
use Rattle.normalize.specs.Promises.{Running}
use Rattle.normalize.proofs.normalize_within.Given as goal

abbrev pub invariant-loop-kept : goal.invariant-loop-kept
invariant-loop-kept g l = record {
  running : Running (field_of l.fn.prime) l.initial.res l.fn.dag.count l.fn.dag.roots l.res l.end.dag.count l.end.dag.roots l.end.rounds;
  words : length l.scratch ≡ length l.initial.scratch;
}

abbrev pub decreases-loop-kept : goal.decreases-loop-kept
decreases-loop-kept g l = l.end.dag.count
