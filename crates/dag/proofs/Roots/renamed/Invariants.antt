-- The invariant: the roots so far have their new places.
use Rattle.std.proofs.Common.{◌≡◌, get_or, take}
use mathlib.Core.List as Lists
use Rattle.dag.proofs.Roots.renamed.Given as goal

abbrev pub invariant-loop-root : goal.invariant-loop-root
invariant-loop-root l = l.roots ≡ Lists.map (λ i. get_or l.map i 0) (take l.root-index l.self)
