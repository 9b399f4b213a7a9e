-- `field::felt::high_word` meets its contract: schoolbook multiplication with digits of 32 bits.
use Rattle.field.proofs.Words.{high_carried}
use Rattle.field.proofs.felt.high_word.Goals as goal

pub returns : goal.returns
returns c = high_carried c.args.a c.args.b
