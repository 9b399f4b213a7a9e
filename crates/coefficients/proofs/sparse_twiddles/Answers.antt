use lib.ListN.{get_or}
use mathlib.Core.Path.{refl, sym, ap}
use native.Mathlib.Nat.{lt_of_lt_of_le}
use native.Mathlib.Omega.{arith}
use lib.ListN.{length}
use Rattle.field.specs.Fields.{field_of}
use Rattle.dag.specs.ArrayLaws.{fill_next, fill_all}
use Rattle.dag.specs.Arrays as Padded
use Rattle.coefficients.specs.Arrays as Arrays
use Rattle.coefficients.specs.TermLaws.{row_told}
use Rattle.coefficients.proofs.sparse_twiddles.Goals as goal

pub loop-k-init : goal.loop-k-init
unfolding Padded.padded Padded.up_to
loop-k-init c = refl

pub loop-k-preserved : goal.loop-k-preserved
loop-k-preserved c =
    fill_next _ _ _ _ _ _ (lt_of_lt_of_le c.loop-k-test.true c.requires.few) c.loop-k.invariant
    (row_told (field_of c.args.col.prime) _ _ _ _ _ _ _ (ap (λ l. get_or l c.loop-k.k 0) c.requires.are) c.root_inverse-step.ensures.0
    c.pow.ensures.0 c.log_length-log.ensures.0 c.squares.ensures)

pub returns : goal.returns
unfolding Arrays.sparse_twiddles
returns c = fill_all _ _ _ _ _ _ _ c.loop-k.invariant (omega arith) c.loop-k-test.false (ap length (sym c.requires.are))
