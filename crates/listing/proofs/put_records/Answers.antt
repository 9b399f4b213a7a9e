use Rattle.std.proofs.Common.{sym, ◌∙◌, ap, arith}
use Rattle.text.specs.Text.{rows}
use Rattle.text.specs.PieceLaws.{rows_fit, rows_more}
use Rattle.text.specs.WritingLaws.{wrote_nothing, wrote_as}
use Rattle.dag.specs.View.{interleaved}
use Rattle.dag.specs.Nodes.{nodes, at}
use Rattle.dag.specs.NodeLaws.{at_nodes}
use Rattle.listing.specs.Listing.{record_line}
use Rattle.listing.proofs.put_records.Goals as goal

pub loop-i-init : goal.loop-i-init
unfolding rows
loop-i-init c = wrote_nothing _ (omega arith)

pub put_record-requires : goal.put_record-requires
put_record-requires c =
    let l = nodes (interleaved c.args.list.now) c.args.n in
    rw (c.node_at.ensures ∙ sym (at_nodes (interleaved c.args.list.now) c.args.n c.loop-i.i c.loop-i-test.true))
    (omega (arith, rows_fit (λ i. record_line i (at l i)) c.args.n c.loop-i.i c.loop-i-test.true))

pub loop-i-preserved : goal.loop-i-preserved
loop-i-preserved c =
    let l = nodes (interleaved c.args.list.now) c.args.n in
    let x = c.node_at.ensures ∙ sym (at_nodes (interleaved c.args.list.now) c.args.n c.loop-i.i c.loop-i-test.true) in
    rows_more (λ i. record_line i (at l i)) c.loop-i.i c.loop-i.invariant (wrote_as (ap (record_line c.loop-i.i) x) c.put_record.ensures)
