use native.Mathlib.Omega.{arith}
use Rattle.std.proofs.Common.{refl, ◌∙◌, le_trans}
use Rattle.periodic.specs.RunLaws.{turn_long, enter_none, enter_next, enter_all, refused}
use Rattle.basis.proofs.all_terms.Goals as goal

pub loop-v-init : goal.loop-v-init
loop-v-init g c = record { later = record { prime_is = refl; longer = omega arith }; inside = c.requires.inside; entered = λ m h. enter_none _ _ _ c.requires.inside }

pub returns-in_err-sum : goal.returns-in_err-sum
returns-in_err-sum g c = λ m h.
    refused _ _ c.from_residual.ensures
    (turn_long _ _ _ c.loop-v-test.true (c.loop-v.invariant.entered m h).ran (h _ _ _ _ _ c.loop-v.invariant.later c.loop-v-test.true c.in_err-sum.ensures).told)

pub loop-v-preserved : goal.loop-v-preserved
loop-v-preserved g c =
    let kept = c.requires.kept _ _ _ _ _ c.loop-v.invariant.later c.loop-v-test.true c.in_ok-sum.ensures in
    record {
      later = record { prime_is = kept.0.prime_is ∙ c.loop-v.invariant.later.prime_is; longer = le_trans c.loop-v.invariant.later.longer kept.0.longer };
      inside = kept.1;
      entered = λ m h. enter_next _ _ _ (c.loop-v.invariant.entered m h) (h _ _ _ _ _ c.loop-v.invariant.later c.loop-v-test.true c.in_ok-sum.ensures).told;
    }

pub returns : goal.returns
returns g c = λ m h. enter_all _ _ _ (omega arith) c.loop-v-test.false (c.loop-v.invariant.entered m h)
