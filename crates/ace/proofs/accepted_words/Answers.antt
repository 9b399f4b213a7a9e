use Rattle.std.specs.Prelude.{set}
use Rattle.std.proofs.Common.{rules, ◌≡◌, ◌≤◌, ◌∷◌, length, ℕ, ◌+◌, ◌<◌, List, [], refl, arith, get_or, take, length-take-le}
use Rattle.std.proofs.lemmas.List.{take_more}
use Rattle.dag.specs.Arrays as Arrays
use Rattle.ace.specs.Answers as Answers
use Rattle.ace.specs.AnswerLaws.{word_next}
use Rattle.ace.proofs.accepted_words.Goals as goal

-- one more root
root_turn : (count rounds : ℕ) (roots ws : List ℕ) (j v : ℕ) → ws ≡ Answers.accepted_words count rounds (take j roots) → j < length roots → length roots ≤ 8 → v ≡ get_or roots j 0
    → set ws (j + 3) v ≡ Answers.accepted_words count rounds (take (j + 1) roots)
root_turn count rounds roots ws j v held h few e =
    let done = length-take-le j roots (omega arith) in
    rw (held, e, take_more roots j 0 h) (word_next (0 ∷ count ∷ rounds ∷ []) (take j roots) 8 (j + 3) (get_or roots j 0) (omega (arith, done)) (omega (arith, done)))

pub loop-j-init : goal.loop-j-init
unfolding Arrays.padded
loop-j-init c = refl

pub loop-j-preserved : goal.loop-j-preserved
loop-j-preserved c = root_turn _ _ _ _ _ _ c.loop-j.invariant c.loop-j-test.true c.requires (search rules)
