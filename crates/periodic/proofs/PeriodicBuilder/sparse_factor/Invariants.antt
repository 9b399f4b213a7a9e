-- The invariant: factor is the place after i turns.
use lib.ListN.{get_or}
use Rattle.periodic.specs.Builder as Builder
use Rattle.periodic.specs.Periodic as Periodic
use Rattle.periodic.specs.Runs as Runs
use Rattle.periodic.proofs.PeriodicBuilder.sparse_factor.Given as goal

abbrev pub invariant-loop-i : goal.invariant-loop-i
invariant-loop-i l =
    Runs.Entered (Runs.held l.initial.self) (λ field. Builder.turns (λ i factor. Periodic.sparse_turn field.elements (get_or l.row i 0) (get_or l.zpow i 0) factor) l.i l.initial.factor) (Runs.held l.self) l.factor
