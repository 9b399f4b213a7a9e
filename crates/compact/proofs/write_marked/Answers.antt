use Rattle.std.proofs.Common.{sym, ◌∙◌, arith}
use Rattle.dag.specs.ViewLaws.{same_room}
use Rattle.compact.specs.Compact.{kept}
use Rattle.compact.specs.LoopLaws.{record_fine, place_room, write_kept, write_skipped}
use Rattle.dag.specs.WordLaws.{written_nil}
use Rattle.compact.proofs.write_marked.Goals as goal
use Rattle.compact.proofs.write_marked.Goals.{then-reachable-i, else-reachable-i}

pub loop-i-init : goal.loop-i-init
unfolding kept
loop-i-init c = sym (written_nil _)

pub renamed-x-requires : goal.renamed-x-requires
renamed-x-requires c = record_fine _ _ _ _ _ c.requires.sound (omega arith) c.requires.remaps.fits c.node_at.ensures

pub put_node-requires : goal.put_node-requires
put_node-requires c =
    rw (same_room c.loop-i.res c.args.res.now c.loop-i.auto.res, c.mapped.ensures)
    (place_room _ _ _ _ c.args.res.now c.requires _ (omega arith) c.if-reachable-i.true)

pub loop-i-preserved : goal.loop-i-preserved
loop-i-preserved c =
    elim c.if-reachable-i.branch [
      | then-reachable-i w ↦ w.res-is ∙ (rw w.mapped.ensures at w.put_node.ensures)
          ∙ write_kept _ _ _ _ _ c.requires _ (omega arith) _ _ _ c.loop-i.invariant w.if-reachable-i.true w.node_at.ensures
          w.renamed-x.ensures
      | else-reachable-i w ↦ w.res-is ∙ write_skipped _ _ _ _ _ c.requires _ (omega arith) _ c.loop-i.invariant w.if-reachable-i.false
    ]
