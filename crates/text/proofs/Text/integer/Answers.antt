use Rattle.std.proofs.Common.{ap, arith, to_z-of_z, unsigned_abs, ◌∙◌}
use Rattle.text.specs.IntegerLaws.{integer_below, integer_above, length_below, length_above}
use Rattle.text.specs.WritingLaws.{wrote_as, and_then}
use Rattle.text.proofs.Text.integer.Goals as goal
use Rattle.text.proofs.Text.integer.Goals.{then-n-lt0, else-n-lt0}

pub byte-requires : goal.byte-requires
byte-requires c =
    let below = rw (to_z-of_z c.ranges.n) at c.if-n-lt0.true in
    omega (arith, length_below c.args.n below)

pub decimal-requires : goal.decimal-requires
decimal-requires c =
    let value = c.unsigned_abs.ensures.value ∙ ap unsigned_abs (to_z-of_z c.ranges.n) in
    elim c.if-n-lt0.branch [
      | then-n-lt0 w ↦
          let below = rw (to_z-of_z c.ranges.n) at w.if-n-lt0.true in
          rw (value, w.self-is) (omega (arith, length_below c.args.n below, w.byte.ensures.len_is, w.byte.ensures.same_length))
      | else-n-lt0 w ↦
          let above = rw (to_z-of_z c.ranges.n) at w.if-n-lt0.false in
          rw (value, w.self-is) (omega (arith, length_above c.args.n above))
    ]

pub returns : goal.returns
returns c =
    let value = c.unsigned_abs.ensures.value ∙ ap unsigned_abs (to_z-of_z c.ranges.n) in
    let wrote = rw value at c.decimal.ensures in
    elim c.if-n-lt0.branch [
      | then-n-lt0 w ↦
          let below = rw (to_z-of_z c.ranges.n) at w.if-n-lt0.true in
          wrote_as (integer_below c.args.n below) (and_then w.byte.ensures (rw w.self-is at wrote))
      | else-n-lt0 w ↦
          let above = rw (to_z-of_z c.ranges.n) at w.if-n-lt0.false in
          wrote_as (integer_above c.args.n above) (rw w.self-is at wrote)
    ]
