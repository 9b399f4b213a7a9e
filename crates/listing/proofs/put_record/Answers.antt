use Rattle.text.specs.Text.{line}
use Rattle.text.specs.WritingLaws.{and_then}
use Rattle.listing.specs.Listing.{record_line}
use Rattle.listing.proofs.put_record.Goals as goal

pub returns : goal.returns
unfolding record_line line
returns c =
    and_then c.number.ensures
    (and_then (rw c.kind_of.ensures at c.word.ensures) (and_then (rw c.from-words.ensures at c.number-2.ensures) (rw c.from-words.ensures at c.number-3.ensures)))
