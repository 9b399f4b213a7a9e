use Rattle.std.proofs.Common.{refl}
use Rattle.text.specs.WritingLaws.{wrote_byte}
use Rattle.text.proofs.Text.byte.Goals as goal

pub returns : goal.returns
returns c = wrote_byte _ refl c.requires refl refl
