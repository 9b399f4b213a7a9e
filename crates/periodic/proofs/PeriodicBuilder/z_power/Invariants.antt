-- The invariant: z is the place after so many turns.
use Rattle.periodic.specs.Builder as Builder
use Rattle.periodic.specs.Runs as Runs
use Rattle.periodic.proofs.PeriodicBuilder.z_power.Given as goal

abbrev pub invariant-loop : goal.invariant-loop
invariant-loop l = Runs.Entered (Runs.held l.initial.self) (λ field. Builder.turns (λ i z. Builder.mul field.elements z z) l.counter l.initial.z) (Runs.held l.self) l.z
