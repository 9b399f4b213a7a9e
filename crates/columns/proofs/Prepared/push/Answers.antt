use Rattle.std.proofs.Common.{arith, ap, length}
use Rattle.dag.specs.CellLaws.{celled_set}
use Rattle.dag.specs.Cells.{celled_length}
use Rattle.columns.specs.declared.Form.TheVariants.{Sparse}
use Rattle.columns.proofs.Prepared.push.Goals as goal

pub invariant_of-self : goal.invariant_of-self
invariant_of-self c = celled_set Sparse 16 _ _ c.self.invariant (omega (arith, celled_length Sparse 16 _ _ c.self.invariant, c.requires, ap length c.self.view_is)) c.args.form
