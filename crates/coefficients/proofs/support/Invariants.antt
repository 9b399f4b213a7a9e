-- The invariant: the places found so far, with those of the entries left, are all places.
use mathlib.Core.Bool.{not}
use mathlib.Core.List.{◌++◌}
use mathlib.Core.Path.{◌≡◌}
use lib.Dec.{eqb}
use lib.ListN.{drop}
use Rattle.columns.specs.Columns as Columns
use Rattle.coefficients.proofs.support.Given as goal

abbrev pub invariant-loop-j : goal.invariant-loop-j
invariant-loop-j g l = l.places.items ++ Columns.places_from (λ v. not (eqb v 0)) l.j (drop l.j l.col) ≡ Columns.support l.col
