use Rattle.std.proofs.Common.{rules, ◌≡◌, ◌∙◌, ap, length, sym, arith}
use Rattle.dag.specs.ViewLaws.{same_room}
use Rattle.dag.specs.Nodes as Nodes
use Rattle.dag.specs.NodeLaws.{at_nodes}
use Rattle.dag.specs.WellFormedLaws.{fine_any}
use Rattle.field.specs.Field.{Below}
use Rattle.field.specs.Fields.{field_of}
use Rattle.builder.specs.Steps as Steps
use Rattle.builder.specs.OutcomeLaws.{list_fine}
use Rattle.builder.specs.HoldLaws.{holds_nothing, same_stores, same_still, turn_fine, turn_request, turn_short, turn_holds}
use Rattle.builder.proofs.replay.Goals as goal

pub loop-i-init : goal.loop-i-init
unfolding Steps.replay Nodes.nodes
loop-i-init c =
    let e = c.new-builder.ensures.empty in
    record { same = same_stores _; holds = rw e.none (holds_nothing _ _ _); index = rw e.none e.index }

pub renamed-x-requires : goal.renamed-x-requires
renamed-x-requires c =
    let w = list_fine (field_of c.args.dag.prime) _ _ c.args.dag.sound in
    fine_any (Below c.args.dag.prime) _ _ (turn_fine (field_of c.args.dag.prime) _ w c.loop-i.i _ _
    (omega (arith, c.requires.1, c.loop-i.auto.map, c.loop-i-test.true))
    (c.node.ensures ∙ sym (at_nodes _ _ _ c.loop-i-test.true)))

pub push-requires : goal.push-requires
push-requires c =
    let v = c.loop-i.invariant in
    let e = c.new-builder.ensures.empty in
    let w = list_fine (field_of c.args.dag.prime) _ _ c.args.dag.sound in
    let h = turn_short (field_of c.args.dag.prime) _ w v.holds in (
      rw (v.same.prime, e.prime_is, c.renamed-x.ensures)
          (turn_request (field_of c.args.dag.prime) _ w v.holds (c.node.ensures ∙ sym (at_nodes _ _ _ c.loop-i-test.true))),
      record {
        room = rw (same_room c.loop-i.builder.list.now c.args.res.now (v.same.list_words ∙ ap length e.list_is)) (omega (arith, h, c.requires.0, c.loop-i-test.true));
        index = v.index;
        link_room = omega (arith, h, c.requires.2, c.loop-i-test.true, v.same.link_words, c.new-builder.ensures.same_links.words);
      },
    )

pub loop-i-preserved : goal.loop-i-preserved
loop-i-preserved c =
    let v = c.loop-i.invariant in
    let e = c.push.ensures in
    let w = list_fine (field_of c.args.dag.prime) _ _ c.args.dag.sound in
    record {
      same = same_still _ _ _ v.same e.same;
      holds = turn_holds (field_of c.args.dag.prime) _ w v.holds (c.node.ensures ∙ sym (at_nodes _ _ _ c.loop-i-test.true))
          (rw (v.same.prime, c.new-builder.ensures.empty.prime_is, c.renamed-x.ensures) at e.noted.pushed)
          (omega (arith, c.requires.1, c.loop-i-test.true, c.loop-i.auto.map));
      index = e.noted.index;
    }

pub returns : goal.returns
returns c =
    let e : c.loop-i.i ≡ c.args.dag.n = omega arith in
    let h = rw e at c.loop-i.invariant.holds in
    search rules
