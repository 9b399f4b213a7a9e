-- `entries::KeyedEntries::find` meets its contract: along its bucket it seeks the key.
use Rattle.std.proofs.Common.{rules}
use Rattle.entries.specs.Entries.{entry_of}
use Rattle.entries.specs.KeyIndexLaws.{seeks}
use Rattle.entries.proofs.KeyedEntries.find.Goals as goal

pub walk-requires : goal.walk-requires
walk-requires g c = (
  _,
  _,
  seeks g.row.WIDTH c.args.self.now.entries.words.now c.args.self.now.entries.count c.args.self.now.links.now c.args.key c.args.self.now.lookup _ _ c.bucket.ensures.0 c.words_of_key.ensures
      _ _ _ _ (λ i room. search rules) (λ i b p. search rules) (λ i lent. search rules) (λ i r p. search rules),
)

pub returns : goal.returns
unfolding entry_of
returns g c =
    c.walk.ensures _ _
    (seeks g.row.WIDTH c.args.self.now.entries.words.now c.args.self.now.entries.count c.args.self.now.links.now c.args.key c.args.self.now.lookup _ _ c.bucket.ensures.0 c.words_of_key.ensures
    _ _ _ _ (λ i room. search rules) (λ i b p. search rules) (λ i lent. search rules) (λ i r p. search rules))
