use Rattle.dag.specs.View.{interleaved}
use Rattle.compact.specs.CallLaws.{numbered}
use Rattle.compact.proofs.number_reachable.Goals as goal

pub returns : goal.returns
returns c =
    numbered (interleaved c.args.list.now) c.args.n c.args.roots.now c.args.reachable.now _ c.args.remap.now _ _ c.requires.0
    c.requires.1 c.requires.2 c.mark_reachable.ensures c.mark_reachable.auto.reachable
    c.number_marked.ensures.value c.number_marked.ensures.remap_after c.number_marked.auto.remap
