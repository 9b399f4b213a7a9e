use Rattle.std.proofs.Common.{◌==◌, rules}
use Rattle.std.proofs.lemmas.Iterator.{YieldsList-from_slice}
use Rattle.std.proofs.lemmas.Iterator.Search.{all_from_yields_List}
use Rattle.std.proofs.lemmas.Iterator.Consumers.{YieldsList-from_enumerate}
use Rattle.recorded.proofs.agree.Goals as goal

pub returns : goal.returns
returns g c = λ said k.
    all_from_yields_List {v = λ p. (p.0, p.1.now)} {s = c.enumerate.result} (λ p. p.1 == said p.0) _ _ _ c.all.ensures.ran
    (YieldsList-from_enumerate (YieldsList-from_slice c.args.words.now (cc)) (search rules))
    (λ x b q e. search (rules, k))
