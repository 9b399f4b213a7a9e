use Rattle.std.proofs.Common.{arith}
use Rattle.field.specs.Field.{modulus_of}
use Rattle.text.specs.Text.{ascii}
use Rattle.text.specs.WritingLaws.{and_then, wrote_as, wrote_nothing}
use Rattle.draw.specs.Drawing.{numbers}
use Rattle.draw.specs.LineLaws.{bare, length_constant}
use Rattle.draw.proofs.put_numbers.Goals as goal

pub put_coordinate-requires-clause-room : goal.put_coordinate-requires-clause-room
put_coordinate-requires-clause-room c =
    let room = rw c.in-Constant.is at c.requires.room in
    omega (arith, length_constant (modulus_of c.args.prime) c.in-Constant.c)

pub put_coordinate-requires-in-Constant-clause-room : goal.put_coordinate-requires-in-Constant-clause-room
put_coordinate-requires-in-Constant-clause-room c =
    let room = rw c.in-Constant.is at c.requires.room in
    omega (arith, length_constant (modulus_of c.args.prime) c.in-Constant.c, c.put_coordinate.ensures.len_is, c.put_coordinate.ensures.same_length)

pub returns-in-Input : goal.returns-in-Input
unfolding numbers ascii
returns-in-Input c = rw c.in-Input.is (and_then c.bytes.ensures c.decimal.ensures)

pub returns-in-Constant : goal.returns-in-Constant
unfolding numbers
returns-in-Constant c = rw c.in-Constant.is (and_then c.put_coordinate.ensures c.put_coordinate-in-Constant.ensures)

pub returns-in_default : goal.returns-in_default
returns-in_default c = wrote_as (bare _ _ c.in_default.not-Input c.in_default.not-Constant) (wrote_nothing _ (omega arith))
