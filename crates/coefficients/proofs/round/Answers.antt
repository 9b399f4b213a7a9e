use borrow.Author.Tests.{lt-ltb, le-ltb}
use Rattle.coefficients.specs.Split as Split
use Rattle.coefficients.proofs.round.Goals as goal

pub returns-then-j-n : goal.returns-then-j-n
unfolding Split.round
returns-then-j-n c = rw (lt-ltb c.args.j c.args.n c.if-j-n.true)

pub returns-else-j-n : goal.returns-else-j-n
unfolding Split.round
returns-else-j-n c = rw (le-ltb c.args.j c.args.n c.if-j-n.false)
