-- The invariant: the values before the place's.
use mathlib.Core.Path.{◌≡◌}
use lib.ListN.{get_or}
use Rattle.field.specs.Fields.{field_of}
use Rattle.columns.specs.Columns as Columns
use Rattle.coefficients.specs.Terms as Terms
use Rattle.dag.specs.Arrays.{up_to}
use Rattle.coefficients.proofs.sparse_values.Given as goal

abbrev pub invariant-loop-place : goal.invariant-loop-place
invariant-loop-place l =
    let c = l.col.entries.now in
    l.values.items ≡ up_to (λ i. Terms.scaled_value (field_of l.col.prime) c (get_or (Columns.support c) i 0)) l.place-index
