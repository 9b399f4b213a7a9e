use Rattle.std.proofs.Common.{arith, sym, ◌∙◌, ap}
use Rattle.dag.specs.NodeLaws.{at_nodes}
use Rattle.dag.specs.Roots.{roots_of}
use Rattle.dag.specs.RootLaws.{inside_mono}
use Rattle.compact.specs.LoopLaws.{operands_inside, sweep_marked, sweep_unmarked, sweep_none}
use Rattle.compact.specs.OperandLaws.{inside_below}
use Rattle.compact.specs.Reach.{sweep}
use Rattle.compact.proofs.mark_reachable.Goals as goal

pub mark-requires : goal.mark-requires
unfolding roots_of
mark-requires c = rw c.as_slice.ensures.value (inside_below _ c.args.roots.now (inside_mono _ _ c.requires.inside _ c.requires.fits))

pub mark-requires-then-reachable-i : goal.mark-requires-then-reachable-i
mark-requires-then-reachable-i c =
    rw (c.deref.ensures.0, c.operands.ensures)
    (operands_inside _ _ _ _ _ c.requires.sound (omega arith) (omega (arith, c.requires.fits)) c.node_at.ensures)

pub loop-i-preserved-then-reachable-i : goal.loop-i-preserved-then-reachable-i
loop-i-preserved-then-reachable-i c =
    let e = rw (c.deref.ensures.0, c.operands.ensures) at c.mark-then-reachable-i.ensures in
    c.loop-i.invariant ∙
    (sweep_marked _ _ _ c.loop-i-test.true _ c.if-reachable-i.true (c.node_at.ensures ∙ sym (at_nodes _ _ _ (omega arith)))
    ∙ ap (sweep _ _) (sym e))

pub loop-i-preserved : goal.loop-i-preserved
loop-i-preserved c = c.loop-i.invariant ∙ sweep_unmarked _ _ _ c.loop-i-test.true c.if-reachable-i.false

pub returns : goal.returns
unfolding roots_of
returns c =
    let e = rw c.as_slice.ensures.value at c.mark.ensures in
    sym (ap (sweep _ _) (sym e) ∙ (c.loop-i.invariant ∙ sweep_none _ _ _ c.loop-i-test.false))
