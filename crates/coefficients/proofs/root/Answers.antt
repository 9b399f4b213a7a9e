use mathlib.Core.Path.{◌∙◌, ap}
use Rattle.ring.specs.Power.{pow}
use Rattle.field.specs.Field.{felt}
use Rattle.field.specs.Generators.{generator}
use Rattle.coefficients.specs.Terms as Terms
use Rattle.coefficients.proofs.root.Goals as goal

pub returns : goal.returns
unfolding Terms.root
returns c = (
  c.pow.ensures.0 ∙ ap (λ w. pow (felt c.args.col.prime) w c.args.k) (c.two_adic_generator.ensures.0 ∙ ap (generator c.args.col.prime)
      c.log_length.ensures.0),
  c.pow.ensures.1,
)
