use Rattle.std.proofs.Common.{◌∙◌, ◌+◌, ap, length}
use Rattle.dag.specs.Arrays as Arrays
use Rattle.columns.specs.SavingLaws.{up_next}
use Rattle.columns.proofs.Layout.each.Goals as goal

pub loop-j-init : goal.loop-j-init
unfolding Arrays.up_to
loop-j-init g c = (ap length c.new-list.ensures, λ f h. c.new-list.ensures)

pub loop-j-preserved : goal.loop-j-preserved
loop-j-preserved g c = (
  c.push.ensures.len ∙ ap (λ n. n + 1) c.loop-j.invariant.0,
  λ f h. up_next _ _ _ _ _ (c.loop-j.invariant.1 f h) c.push.ensures.items (h _ _ c.loop-j-test.true c.f.ensures),
)
