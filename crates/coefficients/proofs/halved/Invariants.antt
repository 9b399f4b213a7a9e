-- The invariant: the rows before j are made.
use Rattle.field.specs.Fields.{field_of}
use Rattle.coefficients.specs.SplitLaws.{Rows}
use Rattle.coefficients.proofs.halved.Given as goal

abbrev pub invariant-loop-j : goal.invariant-loop-j
invariant-loop-j l = Rows (field_of l.prime) l.from l.factors l.s l.n l.j l.to
