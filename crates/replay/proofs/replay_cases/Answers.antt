-- the line of how many match stands behind those of the cases that differ, of which there is none where all match
use Rattle.std.proofs.lemmas.Result.{on_ok_weaker}
use Rattle.std.proofs.KnownBytes.{Appends-trans}
use Rattle.replay.specs.ReportLaws.{none_differ}
use Rattle.replay.proofs.replay_cases.Goals as goal
use Rattle.replay.proofs.replay_cases.Goals.{then-matched-cases+in_ok-tell, else-matched-cases}

pub returns : goal.returns
returns g c =
    elim c.if-matched-cases.branch [
      | then-matched-cases+in_ok-tell w ↦ on_ok_weaker _ (Appends-trans _ _ _ _ _ (rw w.output-is w.in_ok-tell.ensures)) c.report.ensures
      | else-matched-cases w ↦
          let none = none_differ c.args.call c.args.s.now c.args.cases (rw c.compare-matched.ensures at w.if-matched-cases.false) in
          rw (none, ← w.output-is) c.report.ensures
    ]
