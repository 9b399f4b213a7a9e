-- The invariant: the heaviest of the values so far, and its weight.
use Rattle.std.proofs.Common.{◌≡◌, take}
use Rattle.columns.specs.Columns.{weight, heaviest}
use Rattle.columns.proofs.dominant.Given as goal

abbrev pub invariant-loop-v : goal.invariant-loop-v
invariant-loop-v l = (l.d.value ≡ heaviest l.col 0 (take l.v-index l.values)) × (l.d.weight ≡ weight l.col l.d.value)
