use Rattle.coefficients.specs.Terms as Terms
use Rattle.coefficients.proofs.root_inverse.Goals as goal

pub returns : goal.returns
unfolding Terms.root_inverse
returns c = c.root.ensures
