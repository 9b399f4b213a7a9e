use mathlib.Core.Path.{◌∙◌, ap₂}
use Rattle.ring.specs.Power.{pow}
use Rattle.coefficients.specs.Terms as Terms
use Rattle.coefficients.proofs.size_inverse.Goals as goal

pub returns : goal.returns
unfolding Terms.size_inverse
returns c = (c.pow.ensures.0 ∙ ap₂ (pow _) c.half.ensures.0 c.log_length.ensures.0, c.pow.ensures.1)
