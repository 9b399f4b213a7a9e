use Rattle.text.specs.Text.{ascii}
use Rattle.text.specs.WritingLaws.{and_then, wrote_as}
use Rattle.draw.specs.LineLaws.{node_is}
use Rattle.draw.proofs.put_node.Goals as goal

pub returns : goal.returns
unfolding ascii
returns c =
    wrote_as (node_is _ _ _)
    (and_then c.bytes.ensures
    (and_then c.decimal.ensures
    (and_then c.bytes-2.ensures (and_then (rw c.kind_of.ensures at c.bytes-3.ensures) (and_then c.put_numbers.ensures c.bytes-4.ensures)))))
