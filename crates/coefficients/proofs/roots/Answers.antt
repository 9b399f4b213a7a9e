use mathlib.Core.Path.{◌∙◌, ap}
use lib.ListN.{length}
use Rattle.field.specs.Field.{felt}
use Rattle.field.specs.Generators.{generator}
use Rattle.coefficients.specs.Terms as Terms
use Rattle.coefficients.specs.Arrays as Arrays
use Rattle.coefficients.proofs.roots.Goals as goal

pub returns : goal.returns
unfolding Arrays.powers Arrays.roots Terms.root
returns c =
    c.powers.ensures ∙ ap (λ w. Arrays.powers (felt c.args.prime) w (length c.args.col.now))
    (c.two_adic_generator.ensures.0 ∙ ap (generator c.args.prime) c.log_length.ensures.0)
