use Rattle.std.proofs.Common.{refl}
use Rattle.text.specs.WritingLaws.{wrote_bytes}
use Rattle.text.proofs.Text.bytes.Goals as goal

pub returns : goal.returns
returns c = wrote_bytes _ _ refl c.requires c.copy_from_slice.ensures.after refl refl
