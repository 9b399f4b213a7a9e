use Rattle.std.proofs.Common.{refl, ap, rules}
use Rattle.std.proofs.lemmas.List.{length-set}
use Rattle.index.specs.Index.{noted}
use Rattle.index.proofs.PlaceIndex.note.Goals as goal

pub returns-clause-same : goal.returns-clause-same
unfolding noted
returns-clause-same c = record { reference = refl; words = search (rules, length-set) }

pub returns-clause-noted : goal.returns-clause-noted
unfolding noted
returns-clause-noted c = ap (noted c.args.self.now.links.now c.args.n) c.bucket-k.ensures.0
