use Rattle.std.proofs.Common.{◌∙◌, ap, sym, ltb, rules, tests}
use Rattle.std.proofs.lemmas.Iterator.{YieldsList-from_slice}
use Rattle.std.proofs.lemmas.Iterator.Search.{all_from_yields_List}
use Rattle.columns.specs.Prepare.{all_below}
use Rattle.columns.specs.CountLaws.{below_is}
use Rattle.columns.proofs.all_below.Goals as goal

pub returns : goal.returns
returns c =
    let m = c.modulus-modulus.result in
    all_from_yields_List (λ v. ltb v m) _ _ _ c.all.ensures.ran (YieldsList-from_slice c.args.col.now cc) (λ x b q k. search (rules, tests))
    ∙ (sym (below_is m c.args.col.now) ∙ ap (λ k. all_below k c.args.col.now) c.modulus-modulus.ensures)
