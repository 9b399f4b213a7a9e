-- `field::felt::low_word` meets its contract: modulo 2^64 the product of the high halves does not count.
use Rattle.std.proofs.Common.{refl}
use Rattle.field.proofs.Words.{low_carried}
use Rattle.field.proofs.felt.low_word.Goals as goal

pub returns : goal.returns
returns c = low_carried _ _ _ refl
