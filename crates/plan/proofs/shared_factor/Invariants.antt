use Rattle.std.proofs.Common.{◌≡◌, ◌+◌, ◌*◌}
use Rattle.plan.specs.FactorLaws.{left}
use Rattle.plan.specs.Promises.{shared_in}
use Rattle.plan.proofs.shared_factor.Given as goal

abbrev pub invariant-loop-i : goal.invariant-loop-i
invariant-loop-i l = shared_in l.a l.b ≡ left l.a l.b (2 * l.i)

abbrev pub invariant-loop-j : goal.invariant-loop-j
invariant-loop-j l = shared_in l.a l.b ≡ left l.a l.b (2 * l.i + l.j)
