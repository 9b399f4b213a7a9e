use Rattle.std.proofs.Common.{arith}
use Rattle.evaluate.proofs.value_at.Goals as goal

pub offset_bounds-values-i : goal.offset_bounds-values-i
offset_bounds-values-i c = omega (arith, c.well_formed.0.1)
