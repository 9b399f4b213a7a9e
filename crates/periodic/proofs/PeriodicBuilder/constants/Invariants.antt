-- The invariant: the places so far.
use mathlib.Core.List.{[]}
use lib.ListN.{get_or}
use Rattle.periodic.specs.Builder as Builder
use Rattle.periodic.specs.Runs as Runs
use Rattle.periodic.proofs.PeriodicBuilder.constants.Given as goal

abbrev pub invariant-loop-number : goal.invariant-loop-number
invariant-loop-number l =
    Runs.Listed (Runs.held l.initial.self) (λ field. Builder.turns (λ j ks. Builder.also ks (Builder.constant field.elements (get_or l.numbers j 0))) l.number-index []) (Runs.held l.self) l.number-index l.places.items
