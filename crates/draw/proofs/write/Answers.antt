use Rattle.std.proofs.Common.{rules}
use Rattle.text.specs.Text.{ascii}
use Rattle.text.specs.WritingLaws.{and_then, wrote_as, wrote_laid}
use Rattle.field.specs.Fields.{field_of}
use Rattle.dag.specs.View.{interleaved}
use Rattle.draw.specs.SizeLaws.{drawn_is}
use Rattle.draw.proofs.write.Goals as goal

pub returns : goal.returns
unfolding ascii
returns c =
    let d = c.args.dag in
    wrote_laid c.new-text.ensures.held c.new-text.ensures.empty
    (wrote_as (drawn_is (field_of d.prime) (interleaved d.list.now) d.n) (and_then c.bytes.ensures (and_then c.put_nodes.ensures (and_then c.put_operands.ensures c.bytes-2.ensures))))
    (search rules) c.finish.ensures.length
