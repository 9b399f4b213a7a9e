-- The invariant: the digits counted and those of what is left are all.
use Rattle.std.proofs.Common.{◌+◌, ◌≡◌, length}
use Rattle.text.specs.Text.{decimal}
use Rattle.text.proofs.decimal_length.Given as goal

abbrev pub invariant-loop-rest : goal.invariant-loop-rest
invariant-loop-rest l = l.length + length (decimal l.rest) ≡ length (decimal l.n)

abbrev pub decreases-loop-rest : goal.decreases-loop-rest
decreases-loop-rest l = l.rest
