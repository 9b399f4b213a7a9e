-- `dag::roots_check` meets its contract.
use Rattle.std.proofs.Common.{rules, tests, ltb, sym, ◌∙◌}
use Rattle.std.proofs.lemmas.Iterator.{YieldsList-from_slice}
use Rattle.std.proofs.lemmas.Iterator.Search.{all_from_yields_List}
use Rattle.dag.specs.Check as Check
use Rattle.dag.proofs.roots_check.Goals as goal

pub returns : goal.returns
unfolding Check.roots_check
returns c =
    let each = all_from_yields_List (λ root. ltb root c.args.n) _ _ _ c.all.ensures.ran (YieldsList-from_slice c.args.roots.now cc) (λ x b q k. search (rules, tests)) in
    rw (sym each ∙ c.if-not-all.false) (search (rules, tests))
