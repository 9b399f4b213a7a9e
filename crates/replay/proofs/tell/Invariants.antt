-- what is written is the lines of the cases before this one
use Rattle.std.proofs.Common.{◌≡◌}
use Rattle.std.specs.Io.KnownBytes.{Appends}
use Rattle.replay.specs.Cases as Cases
use Rattle.replay.specs.Report as Report
use Rattle.replay.proofs.tell.Given as goal

abbrev pub invariant-loop-i : goal.invariant-loop-i
invariant-loop-i g l = (l.at ≡ Cases.place_of l.call l.s l.i-counter) × Appends (g.W.Write.contents l.initial.output) (g.W.Write.contents l.output) (Report.differing l.call l.s l.i-counter)
