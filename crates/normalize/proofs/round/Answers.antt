use Rattle.std.proofs.Common.{◌∙◌, ap, length, sym, arith}
use Rattle.field.specs.Fields.{field_of}
use Rattle.dag.specs.Nodes as Nodes
use Rattle.dag.specs.NodeLaws.{at_nodes}
use Rattle.builder.specs.HoldLaws.{same_stores, same_still}
use Rattle.normalize.specs.TurnLaws as Turn
use Rattle.normalize.proofs.round.Goals as goal

pub loop-i-init : goal.loop-i-init
unfolding Nodes.nodes
loop-i-init c =
    let e = c.new-built.ensures.empty in
    record { same = same_stores _; held = rw e.none (Turn.round_begins _ _ _ _ _ _); index = rw e.none e.index }

pub plan_of-plan-requires : goal.plan_of-plan-requires
plan_of-plan-requires c =
    let v = c.loop-i.invariant in
    let e = c.new-built.ensures.empty in
    let g = Turn.rounding_still (field_of c.args.prime) c.requires.0 _ _ (v.same.list_words ∙ ap length e.list_is) c.loop-i.auto.map in
    ((_, c.requires.0.sound), omega arith, Turn.fine_turn (field_of c.args.prime) g v.held c.loop-i-test.true _ (c.node_at-x.ensures ∙ sym (at_nodes _ _ _ c.loop-i-test.true)))

pub enter_planned-place-requires : goal.enter_planned-place-requires
enter_planned-place-requires c =
    let v = c.loop-i.invariant in
    let e = c.new-built.ensures.empty in
    let g = Turn.rounding_still (field_of c.args.prime) c.requires.0 _ _ (v.same.list_words ∙ ap length e.list_is) c.loop-i.auto.map in
    let h = Turn.round_count (field_of c.args.prime) g v.held in (
      (c.loop-i.i, rw (v.same.prime, e.prime_is) (Turn.turn_entering (field_of c.args.prime) g v.held c.loop-i-test.true _ (c.node_at-x.ensures ∙ sym (at_nodes _ _ _ c.loop-i-test.true)) _ c.plan_of-plan.ensures)),
      record { index = v.index; room = omega (arith, h, c.requires.1, c.loop-i-test.true, v.same.link_words, c.new-built.ensures.same_links.words) },
    )

pub loop-i-preserved : goal.loop-i-preserved
loop-i-preserved c =
    let v = c.loop-i.invariant in
    let e = c.new-built.ensures.empty in
    let g = Turn.rounding_still (field_of c.args.prime) c.requires.0 _ _ (v.same.list_words ∙ ap length e.list_is) c.loop-i.auto.map in
    let p = c.enter_planned-place.ensures in
    record {
      same = same_still _ _ _ v.same p.same;
      held = Turn.turn_held (field_of c.args.prime) g v.held c.loop-i-test.true _ (c.node_at-x.ensures ∙ sym (at_nodes _ _ _ c.loop-i-test.true)) _ c.plan_of-plan.ensures _ _ _ (rw (v.same.prime, e.prime_is) at p.planned) cc;
      index = p.index;
    }
