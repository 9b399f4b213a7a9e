use Rattle.dag.specs.Roots.{roots_of}
use Rattle.text.specs.Text.{ascii}
use Rattle.text.specs.WritingLaws.{and_then, wrote_as}
use Rattle.listing.specs.LineLaws.{first_is}
use Rattle.listing.proofs.put_first.Goals as goal

pub returns : goal.returns
unfolding ascii roots_of
returns c =
    wrote_as (first_is _ _ _)
    (and_then c.named.ensures (and_then c.word.ensures (and_then (rw c.as_slice.ensures.value at c.put_roots.ensures) c.named-2.ensures)))
