-- `field::felt::add` meets its contract: the sum, less the prime where it reaches it.
use Rattle.std.proofs.Common.{arith, rules}
use Rattle.field.specs.Field.{felt}
use Rattle.field.proofs.Residues.{sum_below, sum_above}
use Rattle.field.proofs.felt.add.Goals as goal

pub returns-then-a-rest : goal.returns-then-a-rest
unfolding felt
returns-then-a-rest c = sum_below _ _ _ (search rules) (search rules) (omega arith)

pub returns-else-a-rest : goal.returns-else-a-rest
unfolding felt
returns-else-a-rest c = rw c.modulus.ensures (sum_above _ _ _ (search rules) (search rules) (let e = c.modulus.ensures in omega arith))
