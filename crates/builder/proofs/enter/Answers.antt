use Rattle.field.specs.Fields.{field_of}
use Rattle.builder.specs.CallLaws.{stays, stepped_as, step_placed, step_interned}
use Rattle.builder.proofs.enter.Goals as goal

pub returns-in-Place : goal.returns-in-Place
returns-in-Place c =
    stays c.args.list.now c.args.n (_, c.requires.0.sound) _ _ (step_placed (field_of c.args.prime) _ c.args.x _ c.in-Place.ensures)

pub returns-in-Node : goal.returns-in-Node
returns-in-Node c =
    stepped_as c.args.list.now c.args.n _ _ _ _ (step_interned (field_of c.args.prime) _ c.args.x _ c.in-Node.ensures) c.intern.ensures
