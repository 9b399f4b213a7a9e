-- `field::felt::neg` meets its contract.
use Rattle.field.specs.Field.{felt}
use Rattle.field.proofs.Residues.{negative_zero, negative_above}
use Rattle.std.proofs.Common.{rules}
use Rattle.field.proofs.felt.neg.Goals as goal

pub returns-then-a-eq0 : goal.returns-then-a-eq0
unfolding felt
returns-then-a-eq0 c = negative_zero _ _ (search rules) (search rules)

pub returns-else-a-eq0 : goal.returns-else-a-eq0
unfolding felt
returns-else-a-eq0 c = rw c.modulus.ensures (negative_above _ _ c.requires (search rules))
