use Rattle.std.proofs.Common.{rules}
use Rattle.field.specs.Field.{large}
use Rattle.field.proofs.Squaring.{start, round, end}
use Rattle.field.proofs.felt.pow.Goals as goal

pub loop-left-init : goal.loop-left-init
loop-left-init c = (start c.args.prime c.args.base c.args.exponent, large c.args.prime, search rules)

pub loop-left-preserved : goal.loop-left-preserved
loop-left-preserved c = (
  round _ _ _ _ _ _ _ c.times_odd-result.ensures.0 c.mul-square.ensures.0 c.loop-left.invariant.0,
  c.times_odd-result.ensures.1,
  c.mul-square.ensures.1,
)

pub returns : goal.returns
returns c = (end _ _ _ _ _ c.loop-left.invariant.1 (search rules) c.loop-left.invariant.0, c.loop-left.invariant.1)
