use Rattle.std.proofs.Common.{ℕ, ◌+◌, ◌<◌, ◌∙◌, subst}
use Rattle.field.specs.Fields.{field_of}
use Rattle.builder.specs.Steps as Steps
use Rattle.builder.specs.OutcomeLaws.{operands_below, add_told, add_lower, sub_told, sub_lower}
use Rattle.builder.proofs.+add_outcome_sub_outcome.Goals as goal

pub add_outcome-add_rule-requires : goal.add_outcome-add_rule-requires
add_outcome-add_rule-requires t c = operands_below (field_of c.args.prime) c.requires c.node_at.ensures c.node_at-2.ensures

pub add_outcome-sub_outcome-requires : goal.add_outcome-sub_outcome-requires
add_outcome-sub_outcome-requires t c =
    let h = add_lower (field_of c.args.prime) c.requires c.node_at.ensures c.node_at-2.ensures c.in-HandOver.ensures in
    (subst (λ (j : ℕ). c.in-HandOver.c + c.in-HandOver.d < j) c.decreases h.0, h.1)

pub add_outcome-returns-in-ComesTo : goal.add_outcome-returns-in-ComesTo
unfolding Steps.follow
add_outcome-returns-in-ComesTo t c = add_told (field_of c.args.prime) c.requires c.node_at.ensures c.node_at-2.ensures c.in-ComesTo.ensures

pub add_outcome-returns-in-HandOver : goal.add_outcome-returns-in-HandOver
unfolding Steps.follow
add_outcome-returns-in-HandOver t c = c.sub_outcome.ensures ∙ add_told (field_of c.args.prime) c.requires c.node_at.ensures c.node_at-2.ensures c.in-HandOver.ensures

pub sub_outcome-sub_rule-requires : goal.sub_outcome-sub_rule-requires
sub_outcome-sub_rule-requires t c = operands_below (field_of c.args.prime) c.requires c.node_at.ensures c.node_at-2.ensures

pub sub_outcome-add_outcome-requires : goal.sub_outcome-add_outcome-requires
sub_outcome-add_outcome-requires t c =
    let h = sub_lower (field_of c.args.prime) c.requires c.node_at.ensures c.node_at-2.ensures c.in-HandOver.ensures in
    (subst (λ (j : ℕ). c.in-HandOver.c + c.in-HandOver.d < j) c.decreases h.0, h.1)

pub sub_outcome-returns-in-ComesTo : goal.sub_outcome-returns-in-ComesTo
unfolding Steps.follow
sub_outcome-returns-in-ComesTo t c = sub_told (field_of c.args.prime) c.requires c.node_at.ensures c.node_at-2.ensures c.in-ComesTo.ensures

pub sub_outcome-returns-in-HandOver : goal.sub_outcome-returns-in-HandOver
unfolding Steps.follow
sub_outcome-returns-in-HandOver t c = c.add_outcome.ensures ∙ sub_told (field_of c.args.prime) c.requires c.node_at.ensures c.node_at-2.ensures c.in-HandOver.ensures
