-- The invariant: the coordinates of the values before place j are written.
use Rattle.std.proofs.Common.{◌≡◌, take}
use Rattle.ace.specs.Answers as Answers
use Rattle.ace.proofs.value_words.Given as goal

abbrev pub invariant-loop-j : goal.invariant-loop-j
invariant-loop-j l = l.words ≡ Answers.value_words (take l.j l.values)
