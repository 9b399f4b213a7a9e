-- The invariant: the words so far are roots.
use Rattle.std.proofs.Common.{◌≡◌, take}
use Rattle.dag.proofs.Roots.of.Given as goal

abbrev pub invariant-loop-word : goal.invariant-loop-word
invariant-loop-word l = l.roots ≡ take l.word-index l.words
