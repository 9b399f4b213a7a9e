use Rattle.std.proofs.Common.{rules}
use Rattle.replay.specs.Cases.{place_of, matched}
use Rattle.replay.specs.CaseLaws.{place_next, matched_next}
use Rattle.replay.proofs.compare.Goals as goal

pub loop-init : goal.loop-init
unfolding place_of matched
loop-init c = search rules

pub loop-preserved : goal.loop-preserved
loop-preserved c =
    let l = c.loop in
    (place_next _ _ _ _ l.invariant.0 c.new-case.result.parts.next (cc), search rules, matched_next _ _ _ _ l.invariant.0 _ _ c.same.result l.invariant.2 (cc) (search rules))
