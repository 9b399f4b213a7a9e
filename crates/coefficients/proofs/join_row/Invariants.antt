-- The invariant: r words of the row are written.
use Rattle.field.specs.Fields.{field_of}
use Rattle.field.specs.Field.{felt}
use Rattle.coefficients.specs.Split as Split
use Rattle.coefficients.proofs.join_row.Given as goal

abbrev pub invariant-loop-r : goal.invariant-loop-r
invariant-loop-r l = Split.RowDone (field_of l.prime) (Split.joined (felt l.prime) l.from l.s l.x l.a) l.initial.to l.at l.r l.to
