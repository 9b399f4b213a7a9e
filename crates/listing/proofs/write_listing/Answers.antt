use Rattle.std.proofs.Common.{rules}
use Rattle.text.specs.WritingLaws.{and_then, wrote_as, wrote_laid}
use Rattle.listing.specs.LineLaws.{answer_is}
use Rattle.listing.proofs.write_listing.Goals as goal

pub returns : goal.returns
returns c =
    wrote_laid c.new-text.ensures.held c.new-text.ensures.empty (wrote_as (answer_is _ _) (and_then c.put_first.ensures c.put_records.ensures)) (search rules) c.finish.ensures.length
