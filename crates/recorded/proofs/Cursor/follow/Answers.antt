use Rattle.std.proofs.Common.{rules}
use Rattle.recorded.specs.Stream.{word, behind, follows}
use Rattle.recorded.proofs.Cursor.follow.Goals as goal

pub returns : goal.returns
unfolding follows
returns c = let s = c.args.self.stream.now in c.agree.ensures (λ i. word s (behind s c.args.self.at i)) (λ i r p. search rules)
