use Rattle.std.proofs.Common.{rules, arith, SFits, w64, to_z-of_z}
use Rattle.field.specs.Field.{modulus_of}
use Rattle.text.specs.Text.{ascii}
use Rattle.text.specs.WritingLaws.{and_then}
use Rattle.draw.specs.Drawing.{coordinate}
use Rattle.draw.specs.LineLaws.{length_coordinate}
use Rattle.draw.proofs.put_coordinate.Goals as goal

pub integer-requires : goal.integer-requires
integer-requires c =
    let fits : SFits w64 c.signed.result = search rules in
    rw (to_z-of_z fits, c.signed.ensures) (omega (arith, length_coordinate (modulus_of c.args.prime) c.args.c, c.requires.room, c.bytes.ensures.len_is, c.bytes.ensures.same_length))

pub returns : goal.returns
unfolding coordinate ascii
returns c =
    let fits : SFits w64 c.signed.result = search rules in
    and_then c.bytes.ensures (rw (to_z-of_z fits, c.signed.ensures) at c.integer.ensures)
