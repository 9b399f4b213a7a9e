-- The invariant: sum is the place after the terms before k.
use Prim.Native.Nat.{◌-◌}
use mathlib.Core.List.{[]}
use lib.ListN.{get_or}
use Rattle.periodic.specs.Builder as Builder
use Rattle.periodic.specs.Periodic as Periodic
use Rattle.periodic.specs.Runs as Runs
use Rattle.periodic.proofs.PeriodicBuilder.sparse_sum.Given as goal

abbrev pub invariant-loop-k : goal.invariant-loop-k
invariant-loop-k l =
    Runs.Entered (Runs.held l.initial.self)
    (λ field. Builder.turns (Periodic.sum_turn field.elements l.zpow (λ k i. get_or (get_or l.rows k []) i 0) l.log (λ k. get_or l.values k 0)) (l.k - 1) l.initial.sum) (Runs.held l.self) l.sum
