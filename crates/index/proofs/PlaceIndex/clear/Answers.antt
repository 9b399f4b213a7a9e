-- `PlaceIndex::clear` meets its contract: links that are all 0 index no record.
use Rattle.std.proofs.Common.{◌≡◌, replicate, length, rules}
use Rattle.index.specs.NodeIndexLaws.{index_none}
use Rattle.index.proofs.PlaceIndex.clear.Goals as goal

pub returns-clause-empty : goal.returns-clause-empty
returns-clause-empty c = let e : c.fill.new.self ≡ replicate (length c.args.self.now.links.now) 0 = search rules in index_none _ c.args.self.now.usable _ e
