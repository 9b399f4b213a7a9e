-- `field::QuadFelt::pair_mul` meets its contract, part by part.
use Rattle.std.proofs.Common.{ap₂, rules}
use Rattle.field.specs.Field.{felt, elements, new}
use Rattle.field.proofs.QuadFelt.pair_mul.Goals as goal

pub returns : goal.returns
unfolding elements felt
returns c = (
  ap₂ new
      (cc)
      (cc),
  search rules,
)
