use Rattle.std.proofs.Common.{◌≡◌, ℕ, ◌<◌, get_or}
use Rattle.recorded.specs.Stream.{given}
use Rattle.recorded.proofs.Cursor.lay.Given as goal

abbrev pub invariant-loop-i : goal.invariant-loop-i
invariant-loop-i l = (k : ℕ) → k < l.i → get_or l.store k 0 ≡ given l.packed.stream.now l.packed.at k
