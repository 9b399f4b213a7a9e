-- The invariant: sum is the place after so many turns, whatever a turn computes.
use Rattle.std.proofs.Common.{◌<◌, ℕ, get_or}
use Rattle.periodic.specs.Builder as Builder
use Rattle.periodic.specs.Runs as Runs
use Rattle.basis.specs.Promises as Promises
use Rattle.basis.proofs.all_terms.Given as goal

abbrev pub invariant-loop-v : goal.invariant-loop-v
invariant-loop-v g l =
    record {
      later : Promises.Later (Runs.held l.initial.builder) (Runs.held l.builder);
      inside : l.sum < l.builder.count;
      entered : (m : ℕ → ℕ → Builder.Builder ℕ) → Promises.Computes (Runs.held l.initial.builder) l.values (goal.F-post g l.term) m
          → Runs.Entered (Runs.held l.initial.builder) (λ field. Builder.turns (λ k s. m (get_or l.values k 0) s) l.v-index l.initial.sum) (Runs.held l.builder) l.sum;
    }
