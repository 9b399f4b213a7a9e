-- The invariant: the places of the factors so far.
use mathlib.Core.List.{[]}
use Rattle.periodic.specs.Builder as Builder
use Rattle.periodic.specs.Periodic as Periodic
use Rattle.periodic.specs.Runs as Runs
use Rattle.basis.proofs.basis_factors.Given as goal

abbrev pub invariant-loop-root : goal.invariant-loop-root
invariant-loop-root l =
    Runs.Listed (Runs.held l.initial.builder) (λ field. Builder.turns (λ k fs. Builder.also fs (Periodic.factor field l.col.entries.now l.point k)) l.root-index []) (Runs.held l.builder) l.root-index l.factors.items
