-- The invariant: the table has n rows of s words.
use Rattle.field.specs.Fields.{field_of}
use Rattle.coefficients.specs.Split as Split
use Rattle.coefficients.proofs.sums.Given as goal

abbrev pub invariant-loop-s : goal.invariant-loop-s
invariant-loop-s l = Split.Reached (field_of l.col.prime) l.col.entries.now l.s l.n l.table

abbrev pub decreases-loop-s : goal.decreases-loop-s
decreases-loop-s l = l.s
