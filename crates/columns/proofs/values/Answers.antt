use Rattle.std.proofs.Common.{◌≡◌, sym, ◌∙◌, ap, get_or, arith, rules}
use Rattle.columns.specs.Columns as Columns
use Rattle.columns.specs.ClassLaws.{values_next, values_end, new_none, new_one}
use Rattle.columns.proofs.values.Goals as goal
use Rattle.columns.proofs.values.Goals.{then-count-eq0, else-count-eq0}

pub loop-v-init : goal.loop-v-init
unfolding Columns.values
loop-v-init g c = search rules

pub loop-v-preserved : goal.loop-v-preserved
loop-v-preserved g c =
    let counted : c.count.result ≡ Columns.count (get_or c.args.col.now c.loop-v.v-index 0) c.loop-v.values.items = c.count.ensures ∙ ap (Columns.count (get_or c.args.col.now c.loop-v.v-index 0)) c.deref.ensures.0 in
    elim c.if-count-eq0.branch [
      | then-count-eq0 w ↦ (
        rw w.values-is (omega arith),
        values_next _ _ _ _ _ c.loop-v-test.true (rw w.values-is (w.push.ensures.items ∙ new_one _ _ (sym counted ∙ w.if-count-eq0.true))) c.loop-v.invariant.1,
      )
      | else-count-eq0 w ↦ (
        rw w.values-is (omega arith),
        values_next _ _ _ _ _ c.loop-v-test.true (rw w.values-is (new_none _ _ (λ z. w.if-count-eq0.false (counted ∙ z)))) c.loop-v.invariant.1,
      )
    ]

pub returns : goal.returns
returns g c = record { value = values_end _ _ _ _ c.loop-v-test.false c.loop-v.invariant.1; few = omega (arith, c.loop-v.invariant.0) }
