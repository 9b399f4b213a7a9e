use Rattle.std.proofs.Common.{rules}
use Rattle.text.specs.Text.{ascii}
use Rattle.text.specs.WritingLaws.{and_then, wrote_as, wrote_laid}
use Rattle.wording.specs.RefusedLaws.{refused_is}
use Rattle.wording.proofs.write_refused.Goals as goal

pub returns : goal.returns
unfolding ascii
returns c =
    let first = rw c.number.ensures at c.named.ensures in
    let second = rw c.place.ensures at c.number-2.ensures in
    wrote_laid c.new-text.ensures.held c.new-text.ensures.empty (wrote_as (refused_is c.args.r) (and_then first second)) (search rules) c.finish.ensures.length
