use Rattle.text.specs.Text.{ended}
use Rattle.text.specs.WritingLaws.{and_then}
use Rattle.text.proofs.Text.number.Goals as goal

pub returns : goal.returns
unfolding ended
returns c = and_then c.decimal.ensures (rw c.from.ensures at c.byte.ensures)
