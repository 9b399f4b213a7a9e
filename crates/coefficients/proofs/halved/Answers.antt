use mathlib.Core.Path.{refl, ap}
use Prim.Native.Nat.{◌*◌}
use native.Mathlib.Omega.{arith}
use Rattle.std.proofs.Common.{le_trans}
use Rattle.field.specs.Fields.{field_of}
use Rattle.coefficients.specs.SplitLaws.{rows_none, rows_next, row_fits, round_fits}
use Rattle.coefficients.proofs.halved.Goals as goal

pub loop-j-init : goal.loop-j-init
loop-j-init c = rows_none (field_of c.args.prime) _ _ _ _

pub overflow_mul-a-in-loop-j : goal.overflow_mul-a-in-loop-j
overflow_mul-a-in-loop-j c = omega (arith, round_fits _ _ _ _ c.round.ensures (le_trans c.requires.3 c.requires.4) c.loop-j-test.true)

pub bounds-factors-j : goal.bounds-factors-j
bounds-factors-j c = omega (arith, c.requires.2, row_fits _ _ _ _ c.requires.3 c.loop-j-test.true)

pub join_row-requires : goal.join_row-requires
join_row-requires c = (
  c.requires.0,
  c.loop-j.invariant.low,
  c.requires.1.at _,
  round_fits _ _ _ _ c.round.ensures (le_trans c.requires.3 c.requires.4) c.loop-j-test.true,
  rw c.loop-j.invariant.many (row_fits _ _ _ _ (le_trans c.requires.3 c.requires.4) c.loop-j-test.true),
)

pub loop-j-preserved : goal.loop-j-preserved
loop-j-preserved c = rows_next (field_of c.args.prime) _ _ _ _ _ _ _ _ _ c.loop-j.invariant refl (ap (λ k. k * (2 * c.args.s)) c.round.ensures) c.join_row.ensures
