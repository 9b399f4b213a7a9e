-- The invariant: acc is the place after j turns.
use Rattle.periodic.specs.Builder as Builder
use Rattle.periodic.specs.Periodic as Periodic
use Rattle.periodic.specs.Runs as Runs
use Rattle.basis.proofs.LagrangeBasis.class_sum.Given as goal

abbrev pub invariant-loop-j : goal.invariant-loop-j
invariant-loop-j l =
    Runs.Entered (Runs.held l.initial.builder) (λ field. Builder.turns (λ j acc. Periodic.class_turn field l.self.col.entries.now l.self.prefix.now l.self.suffix.now l.v j acc) l.j l.initial.acc) (Runs.held l.builder) l.acc
