use native.Mathlib.Omega.{arith}
use Rattle.std.proofs.Common.{◌∙◌, mul_comm}
use Rattle.field.specs.Fields.{field_of}
use Rattle.coefficients.specs.SplitLaws.{reached_start, reached_next, reached_fits, low_powers}
use Rattle.coefficients.proofs.sums.Goals as goal

pub loop-s-init : goal.loop-s-init
loop-s-init c = rw c.copied-table.ensures (reached_start (field_of c.args.col.prime) _ c.args.col.tested)

pub halved-table-requires : goal.halved-table-requires
halved-table-requires c =
    let f = c.deref.ensures.0 ∙ c.powers-factors.ensures in
    let fits = reached_fits (field_of c.args.col.prime) _ c.args.col.tested _ _ _ _ _ f c.loop-s.invariant in (
      c.loop-s.invariant.low,
      low_powers (field_of c.args.col.prime) _ c.args.col.tested _ _ f,
      omega (arith, c.loop-s-test.true),
      fits.0,
      fits.1,
    )

pub loop-s-preserved : goal.loop-s-preserved
loop-s-preserved c =
    rw (mul_comm c.loop-s.n 2)
    (reached_next (field_of c.args.col.prime) _ c.args.col.tested _ _ _ _ _ _ c.loop-s-test.true c.root_inverse.ensures.0 (c.deref.ensures.0 ∙ c.powers-factors.ensures)
    c.loop-s.invariant c.halved-table.ensures)
