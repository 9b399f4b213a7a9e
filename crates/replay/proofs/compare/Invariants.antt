-- the place and the count are those of the cases before this one
use Rattle.std.proofs.Common.{◌≡◌, ◌≤◌}
use Rattle.replay.specs.Cases as Cases
use Rattle.replay.proofs.compare.Given as goal

abbrev pub invariant-loop : goal.invariant-loop
invariant-loop l = (l.at ≡ Cases.place_of l.call l.s l.counter) × (l.matched ≤ l.counter) × (l.matched ≡ Cases.matched l.call l.s l.counter)
