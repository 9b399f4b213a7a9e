use Rattle.std.proofs.Common.{arith}
use Rattle.text.specs.CutLaws.{one_more, two_more, all_cut}
use Rattle.text.specs.WritingLaws.{wrote_as}
use Rattle.text.proofs.Text.decimal.Goals as goal
use Rattle.text.proofs.Text.decimal.Goals.{then-rest-ge10, else-rest-ge10}

pub loop-rest-preserved : goal.loop-rest-preserved
loop-rest-preserved c = two_more c.loop-rest.invariant c.loop-rest-test.true

pub bytes-requires : goal.bytes-requires
bytes-requires c =
    elim c.if-rest-ge10.branch [
      | then-rest-ge10 w ↦ rw (w.digits-is, w.at-is, w.rest-is, all_cut (one_more c.loop-rest.invariant w.if-rest-ge10.true) (omega (arith, c.loop-rest-test.false))) c.requires
      | else-rest-ge10 w ↦ rw (w.digits-is, w.at-is, w.rest-is, all_cut c.loop-rest.invariant w.if-rest-ge10.false) c.requires
    ]

pub returns : goal.returns
returns c =
    elim c.if-rest-ge10.branch [
      | then-rest-ge10 w ↦
          wrote_as (all_cut (one_more c.loop-rest.invariant w.if-rest-ge10.true) (omega (arith, c.loop-rest-test.false))) (rw (w.digits-is, w.at-is, w.rest-is) at c.bytes.ensures)
      | else-rest-ge10 w ↦ wrote_as (all_cut c.loop-rest.invariant w.if-rest-ge10.false) (rw (w.digits-is, w.at-is, w.rest-is) at c.bytes.ensures)
    ]
