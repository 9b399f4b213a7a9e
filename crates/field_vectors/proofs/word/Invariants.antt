use Rattle.std.proofs.Common.{◌≡◌}
use Rattle.field_vectors.specs.Vectors.{digits}
use Rattle.field_vectors.proofs.word.Given as goal

abbrev pub invariant-loop-b : goal.invariant-loop-b
invariant-loop-b l = l.n ≡ digits l.s l.at l.b-index
