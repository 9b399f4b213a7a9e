-- The invariant: the places so far, and the last of them.
use Prim.Native.Nat.{◌+◌, ◌<◌}
use mathlib.Core.List.{[], ◌∷◌}
use mathlib.Core.Path.{◌≡◌}
use lib.ListN.{get_or}
use Rattle.periodic.specs.Builder as Builder
use Rattle.periodic.specs.Runs as Runs
use Rattle.periodic.proofs.PeriodicBuilder.chain.Given as goal

abbrev pub invariant-loop-factor : goal.invariant-loop-factor
invariant-loop-factor g l =
    record {
      listed : Runs.Listed (Runs.held l.initial.self) (λ field. Builder.turns (λ i ps. Builder.also ps (Builder.mul field.elements (get_or ps i 0) (get_or l.factors i 0))) l.factor-index (l.first ∷ [])) (Runs.held l.self) (l.factor-index + 1) l.products.items;
      last : l.product ≡ get_or l.products.items l.factor-index 0;
      inside : l.product < l.self.count;
    }
