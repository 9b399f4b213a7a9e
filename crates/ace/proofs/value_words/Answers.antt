use Rattle.std.specs.Prelude.{set}
use Rattle.std.proofs.Common.{rules, ◌≡◌, ◌≤◌, ◌∷◌, ◌++◌, length, ℕ, ◌+◌, ◌*◌, ◌<◌, List, [], ◌∙◌, refl, ap, arith, get_or, take, length-take-le, length-append, append_assoc}
use Rattle.std.proofs.lemmas.List.{take_more}
use Rattle.field.specs.Field.{new}
use Rattle.field.specs.declared.QuadFelt.{QuadFelt}
use Rattle.dag.specs.Arrays as Arrays
use Rattle.ace.specs.Answers as Answers
use Rattle.ace.specs.AnswerLaws.{word_next, length_coordinates, coordinates_more}
use Rattle.ace.proofs.value_words.Goals as goal

-- one more value
value_turn : (vs : List QuadFelt) (ws : List ℕ) (j : ℕ) (v : QuadFelt) → ws ≡ Answers.value_words (take j vs) → j < length vs → length vs ≤ 8 → v ≡ get_or vs j (new 0 0)
    → set (set ws (2 * j + 1) v.c0) (2 * j + 2) v.c1 ≡ Answers.value_words (take (j + 1) vs)
value_turn vs ws j v held h few e =
    let before = Answers.coordinates (take j vs) in
    let done : length before ≡ 2 * j = length_coordinates (take j vs) ∙ ap (λ k. 2 * k) (length-take-le j vs (omega arith)) in
    rw (held, take_more vs j (new 0 0) h, ← e, coordinates_more (take j vs) v)
    (ap (λ l. set l (2 * j + 2) v.c1) (word_next (0 ∷ []) before 16 (2 * j + 1) v.c0 (omega (arith, done)) (omega (arith, done)))
    ∙ (word_next (0 ∷ []) (before ++ (v.c0 ∷ [])) 16 (2 * j + 2) v.c1 (omega (arith, done, length-append before (v.c0 ∷ []))) (omega (arith, done, length-append before (v.c0 ∷ [])))
    ∙ ap (λ l. 0 ∷ Arrays.padded 0 16 l) (append_assoc before (v.c0 ∷ []) (v.c1 ∷ []))))

pub loop-j-init : goal.loop-j-init
unfolding Arrays.padded Answers.coordinates
loop-j-init c = refl

pub loop-j-preserved : goal.loop-j-preserved
loop-j-preserved c = value_turn _ _ _ _ c.loop-j.invariant c.loop-j-test.true c.requires (search rules)
