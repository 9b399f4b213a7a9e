use Rattle.text.specs.Text.{named}
use Rattle.text.specs.WritingLaws.{and_then}
use Rattle.text.proofs.Text.named.Goals as goal

pub returns : goal.returns
unfolding named
returns c = and_then c.word.ensures c.number.ensures
