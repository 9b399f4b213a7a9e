use Rattle.std.proofs.Common.{◌∙◌, arith}
use Rattle.periodic.specs.Periodic as Periodic
use Rattle.periodic.specs.RunLaws.{list_none, list_next, list_long, list_all, none_inside, refused_list}
use Rattle.columns.specs.ColumnLaws.{length_columns}
use Rattle.lower.proofs.build_periodic_nodes.Goals as goal

pub loop-j-init : goal.loop-j-init
loop-j-init c = list_none _ _ _ _ c.new-nodes.ensures (none_inside _)

pub column_node-requires : goal.column_node-requires
column_node-requires c = rw c.new-weighed.ensures (c.loop-j.invariant.ran.prime_is ∙ c.requires.0, c.requires.1, c.loop-j-test.true)

pub returns-in_err-node : goal.returns-in_err-node
unfolding Periodic.build_periodic_nodes
returns-in_err-node c =
    let n = length_columns c.args.columns.lengths.now c.args.columns.entries.now in
    refused_list _ _ c.from_residual.ensures (list_long _ _ _ _ (rw n c.loop-j-test.true) c.loop-j.invariant (rw c.new-weighed.ensures at c.in_err-node.ensures.told))

pub loop-j-preserved : goal.loop-j-preserved
loop-j-preserved c = list_next _ _ _ _ _ c.loop-j.invariant (rw c.new-weighed.ensures at c.in_ok-node.ensures.told) c.push.ensures.items

pub returns : goal.returns
unfolding Periodic.build_periodic_nodes
returns c =
    let n = length_columns c.args.columns.lengths.now c.args.columns.entries.now in
    rw n (list_all _ _ _ _ c.loop-j.auto.j-end c.loop-j-test.false (omega arith) c.loop-j.invariant)
