use Rattle.std.proofs.Common.{◌∙◌, refl}
use Rattle.recorded.specs.Stream.{hold_all}
use Rattle.replay.specs.CaseLaws.{answered_is}
use Rattle.replay.proofs.Case.answered_with.Goals as goal

pub returns-then-told : goal.returns-then-told
returns-then-told c = rw c.if-told.true at (answered_is _ _ _ c.args.self.parts _ c.requires.laid (cc) c.ask-told.ensures.asked c.hold_all.ensures)

pub returns-else-told : goal.returns-else-told
returns-else-told c = c.if-told.false ∙ rw c.if-told.false at (answered_is _ _ _ c.args.self.parts (hold_all c.args.self.start.stream.now c.args.self.parts.held _ _ _) c.requires.laid (cc) c.ask-told.ensures.asked refl)
