-- The invariant: acc is the place after so many turns.
use lib.ListN.{length}
use Rattle.periodic.specs.Builder as Builder
use Rattle.periodic.specs.Periodic as Periodic
use Rattle.periodic.specs.Runs as Runs
use Rattle.periodic.proofs.PeriodicBuilder.horner_eval.Given as goal

abbrev pub invariant-loop-coeff : goal.invariant-loop-coeff
invariant-loop-coeff l =
    Runs.Entered (Runs.held l.initial.self) (λ field. Builder.turns (Periodic.horner_turn field.elements l.point l.coeffs (length l.coeffs)) (length l.yielded) l.initial.acc) (Runs.held l.self) l.acc
