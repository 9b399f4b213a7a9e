-- What is written of the bytes that were read is the input's listing.
use Rattle.std.specs.Prelude.{ℕ, ◌≤◌, List, get_or, length, take}
use Rattle.text.specs.Promises.{Laid, Writes}
use Rattle.wording.specs.Refused.{refused_line}
use Rattle.house_file.specs.File.{most_named, enough}
use Rattle.house_file.specs.CutLaws.{of_input}
use Rattle.listing.specs.Listing.{held_listing, listing}

pub lists : (buffer : List ℕ) (n : ℕ) {before after : List ℕ} {r : ℕ} → enough ≤ length buffer → get_or buffer 5 0 ≤ most_named → Laid before (listing (take n buffer)) after r
    → Writes listing buffer n before after r
unfolding listing
lists buffer n h b l input read =
    rw (of_input refused_line held_listing buffer n h b input read) l
