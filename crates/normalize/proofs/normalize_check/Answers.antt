use Rattle.std.proofs.Common.{arith}
use Rattle.normalize.proofs.normalize_check.Goals as goal

pub overflow_mul-n : goal.overflow_mul-n
overflow_mul-n c = omega (arith, c.in_ok-dag.ensures.held.2, c.in_ok-dag.dag.most)
