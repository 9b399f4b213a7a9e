use Rattle.std.proofs.Common.{◌≡◌, ◌∙◌, sym, ap, max}
use Rattle.std.specs.List.{reduce}
use Rattle.std.specs.Option.{unwrap_or}
use Rattle.std.proofs.lemmas.Iterator.{YieldsList-from_slice}
use Rattle.std.proofs.lemmas.Iterator.Adapters.{option_map_id}
use Rattle.std.proofs.lemmas.Iterator.Consumers.{YieldsList-from_copied, YieldsList-at, max_from_yields_List}
use Rattle.lower.specs.CallLaws.{longest_is}
use Rattle.lower.proofs.longest.Goals as goal

pub returns : goal.returns
returns c =
    let road = YieldsList-from_copied (YieldsList-at c.copied.ensures.source (YieldsList-from_slice c.args.lengths.now cc)) in
    let greatest : c.max.result ≡ reduce max c.args.lengths.now = sym (option_map_id _) ∙ max_from_yields_List c.copied.result _ c.max.ensures.ran road in
    c.unwrap_or.ensures ∙ (ap (λ o. unwrap_or o 0) greatest ∙ longest_is c.args.lengths.now)
