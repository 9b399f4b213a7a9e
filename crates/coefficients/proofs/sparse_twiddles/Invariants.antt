-- The invariant: the rows before k are filled.
use mathlib.Core.Path.{◌≡◌}
use lib.ListN.{replicate}
use Rattle.field.specs.Fields.{field_of}
use Rattle.dag.specs.Arrays as Padded
use Rattle.coefficients.specs.Arrays as Arrays
use Rattle.coefficients.proofs.sparse_twiddles.Given as goal

abbrev pub invariant-loop-k : goal.invariant-loop-k
invariant-loop-k l = l.rows ≡ Padded.padded (replicate 7 0) 11 (Padded.up_to (Arrays.twiddles (field_of l.col.prime) l.col.entries.now) l.k)
