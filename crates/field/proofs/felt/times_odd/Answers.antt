-- `field::felt::times_odd` meets its contract: the power 0 is one, and the power 1 is the number.
use Rattle.std.proofs.Common.{◌∙◌, rules}
use Rattle.field.proofs.Squaring.{even, odd}
use Rattle.field.proofs.felt.times_odd.Goals as goal

pub returns-then-exponent-eq0 : goal.returns-then-exponent-eq0
returns-then-exponent-eq0 c = (even _ _ _ _ (search rules) c.if-exponent-eq0.true, search rules)

pub returns-else-exponent-eq0 : goal.returns-else-exponent-eq0
returns-else-exponent-eq0 c = (c.mul.ensures.0 ∙ odd _ _ _ _ (search rules) c.if-exponent-eq0.false, search rules)
