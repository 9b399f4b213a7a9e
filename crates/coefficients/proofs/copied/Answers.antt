use Rattle.coefficients.specs.TermLaws.{copied_is}
use Rattle.coefficients.proofs.copied.Goals as goal

pub returns : goal.returns
returns c = copied_is _ _ c.copy_from_slice.ensures.after
