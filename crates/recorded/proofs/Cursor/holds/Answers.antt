use Rattle.std.proofs.Common.{rules}
use Rattle.recorded.specs.Stream.{given, holds}
use Rattle.recorded.proofs.Cursor.holds.Goals as goal

pub returns-then-agree : goal.returns-then-agree
unfolding holds
returns-then-agree c =
    let told = c.agree.ensures (given c.args.self.stream.now c.args.self.at) (λ i r p. search rules) in
    search rules

pub returns-else-agree : goal.returns-else-agree
unfolding holds
returns-else-agree c =
    let told = c.agree.ensures (given c.args.self.stream.now c.args.self.at) (λ i r p. search rules) in
    search rules
