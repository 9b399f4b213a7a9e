use Rattle.std.proofs.Common.{length, ap}
use Rattle.draw.specs.LineLaws.{bare}
use Rattle.draw.proofs.numbers_length.Goals as goal

pub returns-in_default-clause-length : goal.returns-in_default-clause-length
returns-in_default-clause-length c = ap length (bare _ _ c.in_default.not-Input c.in_default.not-Constant)
