use Rattle.std.proofs.Common.{ap, to_z-of_z, unsigned_abs, ◌∙◌}
use Rattle.text.specs.IntegerLaws.{length_below, length_above}
use Rattle.text.proofs.integer_length.Goals as goal

pub returns-then-n-lt0-clause-length : goal.returns-then-n-lt0-clause-length
returns-then-n-lt0-clause-length c =
    let value = c.unsigned_abs.ensures.value ∙ ap unsigned_abs (to_z-of_z c.ranges.n) in
    rw (c.decimal_length-digits.ensures.length, value) (length_below c.args.n (rw (to_z-of_z c.ranges.n) at c.if-n-lt0.true))

pub returns-else-n-lt0-clause-length : goal.returns-else-n-lt0-clause-length
returns-else-n-lt0-clause-length c =
    let value = c.unsigned_abs.ensures.value ∙ ap unsigned_abs (to_z-of_z c.ranges.n) in
    rw (c.decimal_length-digits.ensures.length, value) (length_above c.args.n (rw (to_z-of_z c.ranges.n) at c.if-n-lt0.false))
