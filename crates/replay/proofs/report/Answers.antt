-- the number of the line is the call's
use Rattle.replay.proofs.report.Goals as goal

pub returns : goal.returns
returns g c = rw (← c.requires) c.writeln.ensures.bytes
