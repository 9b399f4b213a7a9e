use Rattle.replay.specs.CaseLaws.{room_is}
use Rattle.replay.proofs.Case.same.Goals as goal

pub answered-requires : goal.answered-requires
answered-requires c = room_is _ _ (cc)
