-- The invariant: the columns before j are done.
use Rattle.std.proofs.Common.{◌≡◌, ◌<◌, ℕ, length}
use Rattle.dag.specs.Arrays.{up_to}
use Rattle.columns.proofs.Layout.each.Given as goal

abbrev pub invariant-loop-j : goal.invariant-loop-j
invariant-loop-j g l = (length l.list.items ≡ l.j) × ((f : ℕ → g.row.T.Denot) → ((j : ℕ) (r : g.row.T.Denot) → j < length l.self.lengths.now → goal.F-post g l.f j r → r ≡ f j) → l.list.items ≡ up_to f l.j)
