use Rattle.std.proofs.Common.{refl, sym, ◌∙◌, ap, ◌≡◌, cond, leb, get_or, length, take, arith}
use Rattle.std.proofs.Math.Numerals.{add-one}
use Rattle.std.proofs.Math.Seq.{take-suc, take-length}
use Rattle.columns.specs.Columns.{weight, heaviest}
use Rattle.columns.specs.ClassLaws.{heaviest_snoc}
use Rattle.columns.proofs.dominant.Goals as goal

pub loop-v-init : goal.loop-v-init
unfolding weight heaviest
loop-v-init c = (refl, refl)

pub loop-v-preserved : goal.loop-v-preserved
loop-v-preserved c =
    let l = c.loop-v in
    let vs = c.args.values.now in
    let col = c.args.col.now in (
      c.heavier-d.ensures.0
          ∙ (ap (λ d. cond (leb (weight col d) (weight col (get_or vs l.v-index 0))) (get_or vs l.v-index 0) d) l.invariant.0
          ∙ (sym (heaviest_snoc col 0 (take l.v-index vs) (get_or vs l.v-index 0))
          ∙ ap (heaviest col 0) (sym (ap (λ i. take i vs) (add-one l.v-index) ∙ take-suc vs l.v-index 0 c.loop-v-test.true)))),
      c.heavier-d.ensures.1,
    )

pub returns : goal.returns
returns c =
    let e : c.loop-v.v-index ≡ length c.args.values.now = omega (arith, c.loop-v-test.false, c.loop-v.auto.v-index-end) in
    c.loop-v.invariant.0 ∙ ap (heaviest c.args.col.now 0) (ap (λ i. take i c.args.values.now) e ∙ take-length c.args.values.now)
