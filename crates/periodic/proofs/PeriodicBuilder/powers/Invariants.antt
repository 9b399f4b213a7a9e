-- The invariant: the places so far, and the last of them.
use Prim.Native.Nat.{◌+◌, ◌<◌}
use mathlib.Core.List.{[], ◌∷◌}
use mathlib.Core.Path.{◌≡◌}
use lib.ListN.{get_or}
use Rattle.periodic.specs.Builder as Builder
use Rattle.periodic.specs.Runs as Runs
use Rattle.periodic.proofs.PeriodicBuilder.powers.Given as goal

abbrev pub invariant-loop : goal.invariant-loop
invariant-loop l =
    record {
      listed : Runs.Listed (Runs.held l.initial.self) (λ field. Builder.turns (λ i ps. Builder.also ps (Builder.mul field.elements (get_or ps i 0) (get_or ps i 0))) l.counter (l.z ∷ [])) (Runs.held l.self) (l.counter + 1) l.powers.items;
      last : l.power ≡ get_or l.powers.items l.counter 0;
      inside : l.power < l.self.count;
    }
