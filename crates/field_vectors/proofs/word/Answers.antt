-- `field_vectors::word` meets its contract: a digit of the part is a digit of the text.
use Rattle.std.proofs.Common.{arith, refl, ◌+◌}
use Rattle.std.proofs.lemmas.List.Edits.{get_or-between}
use Rattle.field_vectors.specs.VectorLaws.{digits_more}
use Rattle.field_vectors.proofs.word.Goals as goal

pub loop-b-preserved : goal.loop-b-preserved
loop-b-preserved c =
    let same = get_or-between c.args.s.now c.args.at (c.args.at + 16) c.loop-b.b-index 0 (omega arith) in
    rw (digits_more c.args.s.now c.args.at c.loop-b.b-index, c.nibble.ensures.0, same, c.loop-b.invariant) refl
