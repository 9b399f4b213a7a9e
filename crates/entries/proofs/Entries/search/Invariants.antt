-- The invariant: the last entry of the first m is that of the first i.
use Rattle.std.proofs.Common.{◌≡◌}
use Rattle.entries.specs.Entries.{entry_of}
use Rattle.entries.proofs.Entries.search.Given as goal

abbrev pub invariant-loop-i : goal.invariant-loop-i
invariant-loop-i g l = entry_of g.row.WIDTH l.self.words.now l.m l.key ≡ entry_of g.row.WIDTH l.self.words.now l.i l.key
