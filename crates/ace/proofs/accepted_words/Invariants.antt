-- The invariant: the places of the roots before place j are written.
use Rattle.std.proofs.Common.{◌≡◌, take}
use Rattle.ace.specs.Answers as Answers
use Rattle.ace.proofs.accepted_words.Given as goal

abbrev pub invariant-loop-j : goal.invariant-loop-j
invariant-loop-j l = l.words ≡ Answers.accepted_words l.count l.rounds (take l.j l.roots)
