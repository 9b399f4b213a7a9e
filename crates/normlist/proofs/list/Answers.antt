-- the buffer holds what the reader gives, or as much of it as decides the listing; what is written of the text is the listing
use Rattle.std.proofs.Common.{rules}
use Rattle.std.proofs.Math.Nat.{le_trans}
use Rattle.std.proofs.lemmas.Result.{on_ok_weaker}
use Rattle.text.specs.OutputLaws.{appended}
use Rattle.listing.specs.Listing.{listing}
use Rattle.listing.specs.SizeLaws.{listing_most}
use Rattle.normlist.proofs.list.Goals as goal

pub list_input-length-requires : goal.list_input-length-requires
list_input-length-requires g c = (search rules, search rules, le_trans (listing_most _) (search rules))

pub returns : goal.returns
returns g c = on_ok_weaker _ (appended listing _ _ _ _ _ c.in_ok-n.ensures.front c.list_input-length.ensures.listed) c.write_all.ensures.bytes
