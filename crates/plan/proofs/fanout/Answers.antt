use Rattle.std.proofs.Common.{◌≡◌, arith, sym, ◌∙◌, ap}
use Rattle.dag.specs.View.{interleaved}
use Rattle.dag.specs.Nodes.{nodes}
use Rattle.dag.specs.NodeLaws.{at_nodes}
use Rattle.dag.specs.Roots.{roots_of}
use Rattle.dag.specs.RootLaws.{inside_mono}
use Rattle.builder.specs.Promises.{read}
use Rattle.compact.specs.OperandLaws.{inside_below}
use Rattle.plan.specs.FanoutLaws as Fanouts
use Rattle.plan.proofs.fanout.Goals as goal

pub loop-i-init : goal.loop-i-init
loop-i-init c = Fanouts.counted_none (nodes (interleaved c.args.list.now) c.args.n) c.args.fan.now c.requires.zeros

pub mention-requires : goal.mention-requires
mention-requires c = (
  rw (c.deref.ensures.0, c.operands.ensures)
      (Fanouts.operands_inside (interleaved c.args.list.now) c.args.n c.args.roots.now c.args.fan.now c.requires c.loop-i.i
      c.loop-i.fan c.loop-i.auto.fan c.loop-i.invariant c.loop-i-test.true _
      (c.node_at.ensures ∙ sym (at_nodes _ _ _ c.loop-i-test.true))),
  Fanouts.counted_countable (interleaved c.args.list.now) c.args.n c.args.roots.now c.args.fan.now c.requires c.loop-i.i
      c.loop-i.fan c.loop-i.auto.fan c.loop-i.invariant c.loop-i-test.true _ c.deref.ensures.1,
)

pub loop-i-preserved : goal.loop-i-preserved
loop-i-preserved c =
    rw (c.mention.ensures, c.deref.ensures.0, c.operands.ensures)
    (Fanouts.counted_more (interleaved c.args.list.now) c.args.n c.args.roots.now c.args.fan.now c.requires c.loop-i.i
    c.loop-i.fan c.loop-i.auto.fan c.loop-i.invariant c.loop-i-test.true _
    (c.node_at.ensures ∙ sym (at_nodes _ _ _ c.loop-i-test.true)))

pub mention-requires-2 : goal.mention-requires-2
unfolding roots_of
mention-requires-2 c = (
  rw c.as_slice.ensures.value (inside_below _ c.args.roots.now (inside_mono _ _ c.requires.inside _ (rw c.loop-i.auto.fan c.requires.fits))),
  Fanouts.counted_few (interleaved c.args.list.now) c.args.n c.args.roots.now c.args.fan.now c.requires c.loop-i.i
      c.loop-i.fan c.loop-i.auto.fan c.loop-i.invariant (omega arith) _ c.as_slice.ensures.fits,
)

pub returns : goal.returns
unfolding roots_of
returns c =
    ap read (rw c.as_slice.ensures.value at c.mention-2.ensures)
    ∙ Fanouts.counted_roots (interleaved c.args.list.now) c.args.n c.args.roots.now c.args.fan.now
    c.requires c.loop-i.fan c.loop-i.auto.fan
    (let e : c.loop-i.i ≡ c.args.n = omega arith in rw e at c.loop-i.invariant)
