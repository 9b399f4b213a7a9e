-- a case that differs has its line behind the others
use Rattle.std.proofs.Common.{rules}
use Rattle.std.proofs.KnownBytes.{Appends-nil}
use Rattle.replay.specs.Cases.{place_of}
use Rattle.replay.specs.Report.{differing}
use Rattle.replay.specs.CaseLaws.{place_next}
use Rattle.replay.specs.ReportLaws.{differs, matches}
use Rattle.replay.proofs.tell.Goals as goal
use Rattle.replay.proofs.tell.Goals.{then-not-same+in_ok-writeln, else-not-same}

pub loop-i-init : goal.loop-i-init
unfolding place_of differing
loop-i-init g c = (search rules, Appends-nil _)

pub loop-i-preserved : goal.loop-i-preserved
loop-i-preserved g c =
    let l = c.loop-i in
    let next = place_next _ _ _ _ l.invariant.0 c.new-case.result.parts.next (cc) in
    elim c.if-not-same.branch [
      | then-not-same+in_ok-writeln w ↦ (next, rw w.output-is (differs _ _ _ _ _ _ l.invariant.0 l.invariant.1 (cc) _ w.in_ok-writeln.ensures.bytes))
      | else-not-same w ↦ (next, rw w.output-is (matches _ _ _ _ _ _ l.invariant.0 l.invariant.1 (cc)))
    ]
