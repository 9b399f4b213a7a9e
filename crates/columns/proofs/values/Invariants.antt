-- The invariant: the values found so far, with the entries left, give all values.
use Rattle.std.proofs.Common.{◌≡◌, ◌≤◌, length, drop}
use Rattle.columns.specs.Columns as Columns
use Rattle.columns.proofs.values.Given as goal

abbrev pub invariant-loop-v : goal.invariant-loop-v
invariant-loop-v g l = (length l.values.items ≤ l.v-index) × (Columns.values_from l.values.items (drop l.v-index l.col) ≡ Columns.values l.col)
