-- The invariant: the lengths before place j are good.
use Rattle.std.proofs.Common.{◌≡◌, Ok}
use Rattle.dag.specs.Refusals.{first_refused}
use Rattle.columns.specs.Prepare as Prepare
use Rattle.columns.proofs.lengths_check.Given as goal

abbrev pub invariant-loop-j : goal.invariant-loop-j
invariant-loop-j l = first_refused (Prepare.length_check l.lengths) l.j ≡ Ok tt
