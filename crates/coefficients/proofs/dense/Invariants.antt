-- The invariant: the coefficients so far.
use mathlib.Core.Path.{◌≡◌}
use Rattle.field.specs.Fields.{field_of}
use Rattle.coefficients.specs.Terms as Terms
use Rattle.dag.specs.Arrays.{up_to}
use Rattle.coefficients.proofs.dense.Given as goal

abbrev pub invariant-loop-sum : goal.invariant-loop-sum
invariant-loop-sum l = l.coefficients.items ≡ up_to (Terms.dense (field_of l.col.prime) l.col.entries.now) l.sum-index
