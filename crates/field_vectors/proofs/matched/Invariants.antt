use Rattle.std.proofs.Common.{◌≡◌, ◌≤◌}
use Rattle.field_vectors.specs.Vectors as Vectors
use Rattle.field_vectors.proofs.matched.Given as goal

abbrev pub invariant-loop-i : goal.invariant-loop-i
invariant-loop-i l = (l.matched ≤ l.i) × (l.matched ≡ Vectors.matched l.s l.i)
