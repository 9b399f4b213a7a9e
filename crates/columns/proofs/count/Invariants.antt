-- The invariant: what is counted so far.
use Rattle.std.proofs.Common.{◌≡◌, ◌≤◌, take}
use Rattle.columns.specs.Columns as Columns
use Rattle.columns.proofs.count.Given as goal

abbrev pub invariant-loop-x : goal.invariant-loop-x
invariant-loop-x l = (l.n ≤ l.x-index) × (l.n ≡ Columns.count l.v (take l.x-index l.list))
