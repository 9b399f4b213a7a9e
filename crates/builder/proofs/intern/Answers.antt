use Rattle.dag.specs.View.{interleaved}
use Rattle.std.specs.Prelude.{Some, None}
use Rattle.builder.specs.CallLaws.{stays, stepped_as}
use Rattle.builder.specs.RequestLaws.{intern_found}
use Rattle.builder.proofs.intern.Goals as goal

pub returns-in-Some : goal.returns-in-Some
returns-in-Some c =
    stays c.args.list.now c.args.n c.requires.0 _ _ (intern_found (interleaved c.args.list.now) c.args.n c.args.y (Some c.in-Some.place) c.in-Some.ensures)

pub returns-in-None : goal.returns-in-None
returns-in-None c =
    stepped_as c.args.list.now c.args.n _ _ _ _ (intern_found (interleaved c.args.list.now) c.args.n c.args.y None c.in-None.ensures) c.append.ensures
