use Rattle.text.specs.Text.{ascii}
use Rattle.text.specs.WritingLaws.{and_then, wrote_as}
use Rattle.draw.specs.LineLaws.{edge_is}
use Rattle.draw.proofs.put_edge.Goals as goal

pub returns : goal.returns
unfolding ascii
returns c =
    wrote_as (edge_is c.args.i c.args.operand)
    (and_then c.bytes.ensures (and_then c.decimal.ensures (and_then c.bytes-2.ensures (and_then c.decimal-2.ensures c.bytes-3.ensures))))
