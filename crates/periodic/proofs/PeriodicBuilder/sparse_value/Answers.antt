use native.Mathlib.Omega.{arith}
use Rattle.std.proofs.Common.{sym, ◌∙◌}
use Rattle.field.specs.Fields.{field_of}
use Rattle.periodic.specs.Periodic as Periodic
use Rattle.periodic.specs.NumberLaws.{rows_low, rows_later}
use Rattle.periodic.specs.ValueLaws.{sparse_same}
use Rattle.periodic.specs.RunLaws.{long_first, then_long, then_enter, enter_like, refused}
use Rattle.periodic.proofs.PeriodicBuilder.sparse_value.Goals as goal

pub returns-in_err-z : goal.returns-in_err-z
unfolding Periodic.sparse_value
returns-in_err-z c = refused _ _ c.from_residual.ensures (long_first _ c.in_err-z.ensures.told)

pub returns-in_err-zpow : goal.returns-in_err-zpow
unfolding Periodic.sparse_value
returns-in_err-zpow c = refused _ _ c.from_residual-in_err-zpow.ensures (then_long _ c.in_ok-z.ensures.told.ran (long_first _ (rw c.log_length-log.ensures.0 at c.in_err-zpow.ensures.told)))

pub sparse_sum-requires : goal.sparse_sum-requires
sparse_sum-requires c =
    let field = field_of c.args.col.prime in
    rw (c.deref-3.ensures.0, c.deref-4.ensures.0) (
      c.in_ok-zpow.ensures.told.inside,
      rows_later _ _ _ _ (c.in_ok-zpow.ensures.told.ran.prime_is ∙ (c.in_ok-z.ensures.told.ran.prime_is ∙ sym c.requires.0))
          (rows_low field c.args.col.entries.now _ _ _ c.sparse_twiddles-rows.ensures c.sparse_values-values.ensures c.log_length-log.ensures.0 c.requires.1.few),
      omega (arith, c.in_ok-zpow.ensures.told.many),
    )

pub returns : goal.returns
unfolding Periodic.sparse_value
returns c =
    then_enter _ c.in_ok-z.ensures.told.ran
    (then_enter _ (rw c.log_length-log.ensures.0 at c.in_ok-zpow.ensures.told).ran
    (enter_like (c.in_ok-zpow.ensures.told.ran.prime_is ∙ (c.in_ok-z.ensures.told.ran.prime_is ∙ sym c.requires.0))
    (sparse_same _ _ _ _ _ _ c.sparse_twiddles-rows.ensures c.sparse_values-values.ensures c.log_length-log.ensures.0)
    (rw (c.deref-3.ensures.0, c.deref-4.ensures.0) at c.sparse_sum.ensures)))
