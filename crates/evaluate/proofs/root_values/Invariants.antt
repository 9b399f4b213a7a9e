-- The invariant: the roots so far have their values.
use Rattle.std.proofs.Common.{◌≡◌, take}
use mathlib.Core.List as Lists
use Rattle.evaluate.specs.Promises.{at_place}
use Rattle.evaluate.proofs.root_values.Given as goal

abbrev pub invariant-loop-root : goal.invariant-loop-root
invariant-loop-root l = l.chosen.items ≡ Lists.map (at_place l.values) (take l.root-index l.roots)
