use Prim.Native.Nat.{◌+◌, ◌-◌}
use mathlib.Core.Path.{◌≡◌}
use native.Mathlib.Omega.{arith}
use Rattle.std.proofs.Common.{length, sym, ◌∙◌, eqb-true}
use Rattle.std.proofs.lemmas.Bool.{eqb-false}
use Rattle.periodic.specs.Periodic as Periodic
use Rattle.periodic.specs.SameLaws.{sum_none, sum_some}
use Rattle.periodic.specs.NumberLaws.{row_later}
use Rattle.periodic.specs.RunLaws.{long_first, then_long, then_enter, then_entered, turn_long, enter_none, enter_next, enter_all, enter_as, long_as, all_later, below_later, refused}
use Rattle.periodic.proofs.PeriodicBuilder.sparse_sum.Goals as goal

pub returns-then-is_empty : goal.returns-then-is_empty
returns-then-is_empty c = enter_as (sum_none _ _ _ _ _ (eqb-true _ _ (sym c.is_empty.ensures ∙ c.if-is_empty.true))) c.constant.ensures

pub returns-in_err-sum : goal.returns-in_err-sum
returns-in_err-sum c = refused _ _ c.from_residual.ensures (long_as (sum_some _ _ _ _ _ (eqb-false _ _ (sym c.is_empty.ensures ∙ c.if-is_empty.false))) (long_first _ c.in_err-sum.ensures.told))

pub loop-k-init : goal.loop-k-init
loop-k-init c = enter_none _ _ _ c.in_ok-sum.ensures.told.inside

pub sparse_term-requires : goal.sparse_term-requires
sparse_term-requires c =
    let some = eqb-false (length c.args.values.now) 0 (sym c.is_empty.ensures ∙ c.if-is_empty.false) in
    (c.requires.0, c.requires.1.low _ (omega (arith, some)), c.requires.2, c.requires.1.scaled _ (omega (arith, some)))

pub sparse_term-requires-in-loop-k : goal.sparse_term-requires-in-loop-k
sparse_term-requires-in-loop-k c =
    let e = c.loop-k.invariant.ran.prime_is ∙ c.in_ok-sum.ensures.told.ran.prime_is in (
      all_later c.loop-k.invariant.ran.longer (all_later c.in_ok-sum.ensures.told.ran.longer c.requires.0),
      row_later _ _ e (c.requires.1.low _ c.loop-k-test.true),
      c.requires.2,
      below_later e (c.requires.1.scaled _ c.loop-k-test.true),
    )

pub returns-in_err-term : goal.returns-in_err-term
unfolding Periodic.sum_turn
returns-in_err-term c =
    let k : c.loop-k.k ≡ c.loop-k.k - 1 + 1 = omega arith in
    refused _ _ c.from_residual-in_err-term.ensures (long_as (sum_some _ _ _ _ _ (eqb-false _ _ (sym c.is_empty.ensures ∙ c.if-is_empty.false)))
    (then_long _ c.in_ok-sum.ensures.told.ran (turn_long _ _ _ (omega arith) c.loop-k.invariant.ran (long_first _ (rw k at c.in_err-term.ensures.told)))))

pub returns-in_err-sum-2 : goal.returns-in_err-sum-2
unfolding Periodic.sum_turn
returns-in_err-sum-2 c =
    let k : c.loop-k.k ≡ c.loop-k.k - 1 + 1 = omega arith in
    refused _ _ c.from_residual-in_err-sum-2.ensures (long_as (sum_some _ _ _ _ _ (eqb-false _ _ (sym c.is_empty.ensures ∙ c.if-is_empty.false)))
    (then_long _ c.in_ok-sum.ensures.told.ran (turn_long _ _ _ (omega arith) c.loop-k.invariant.ran (then_long _ (rw k at c.in_ok-term.ensures.told).ran c.in_err-sum-2.ensures.told))))

pub loop-k-preserved : goal.loop-k-preserved
unfolding Periodic.sum_turn
loop-k-preserved c =
    let k : c.loop-k.k ≡ c.loop-k.k - 1 + 1 = omega arith in
    let next : c.loop-k.k + 1 - 1 ≡ c.loop-k.k - 1 + 1 = omega arith in
    rw next (enter_next _ _ _ c.loop-k.invariant (then_entered _ (rw k at c.in_ok-term.ensures.told).ran c.in_ok-sum-2.ensures.told))

pub returns : goal.returns
returns c =
    let some = eqb-false (length c.args.values.now) 0 (sym c.is_empty.ensures ∙ c.if-is_empty.false) in
    enter_as (sum_some _ _ _ _ _ some)
    (then_enter _ c.in_ok-sum.ensures.told.ran (enter_all _ _ _ (omega (arith, some)) (omega (arith, some)) c.loop-k.invariant))
