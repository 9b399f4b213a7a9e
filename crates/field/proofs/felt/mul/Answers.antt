-- `field::felt::mul` meets its contract, prime by prime.
use Rattle.field.specs.Field.{felt}
use Rattle.field.proofs.felt.mul.Goals as goal

pub returns-in-Goldilocks : goal.returns-in-Goldilocks
unfolding felt
returns-in-Goldilocks c = rw c.in-Goldilocks.is c.wide_product.ensures

pub returns-in-BabyBear : goal.returns-in-BabyBear
unfolding felt
returns-in-BabyBear c = rw c.in-BabyBear.is c.short_product.ensures
