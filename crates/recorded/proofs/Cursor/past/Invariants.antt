use Rattle.std.proofs.Common.{◌≡◌}
use Rattle.recorded.specs.Stream.{past}
use Rattle.recorded.proofs.Cursor.past.Given as goal

abbrev pub invariant-loop : goal.invariant-loop
invariant-loop l = (l.place.stream.now ≡ l.self.stream.now) × (l.place.at ≡ past l.self.stream.now l.self.at l.head l.counter)
