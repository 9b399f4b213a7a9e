-- `field::felt::sub` meets its contract: the prime is added where the difference is negative.
use Rattle.std.proofs.Common.{arith, rules}
use Rattle.field.specs.Field.{felt}
use Rattle.field.proofs.Residues.{difference_below, difference_above}
use Rattle.field.proofs.felt.sub.Goals as goal

pub returns-then-a-b : goal.returns-then-a-b
unfolding felt
returns-then-a-b c = rw c.modulus.ensures (difference_below _ _ _ c.requires.0 c.requires.1 c.if-a-b.true)

pub returns-else-a-b : goal.returns-else-a-b
unfolding felt
returns-else-a-b c = difference_above _ _ _ (search rules) (search rules) (omega arith)
