use Rattle.std.specs.Prelude.{set}
use Rattle.std.proofs.Common.{rules, ◌≡◌, ◌≤◌, ◌∷◌, length, ℕ, ◌+◌, ◌<◌, List, [], ◌∙◌, refl, arith, get_or, take, map, length-take-le}
use Rattle.std.proofs.lemmas.List.{take_more, map-append, length-map}
use Rattle.dag.specs.Arrays as Arrays
use Rattle.columns.specs.Columns.{form_number}
use Rattle.columns.specs.declared.Form.{Form}
use Rattle.columns.specs.declared.Form.TheVariants.{Sparse}
use Rattle.ace.specs.AnswerLaws.{word_next}
use Rattle.ace.proofs.form_words.Goals as goal

-- one more form
form_turn : (count : ℕ) (fs : List Form) (ws : List ℕ) (j v : ℕ) → ws ≡ 0 ∷ count ∷ Arrays.padded 0 16 (map form_number (take j fs)) → j < length fs → length fs ≤ 16
    → v ≡ form_number (get_or fs j Sparse) → set ws (j + 2) v ≡ 0 ∷ count ∷ Arrays.padded 0 16 (map form_number (take (j + 1) fs))
form_turn count fs ws j v held h few e =
    let before = map form_number (take j fs) in
    let done : length before ≡ j = length-map (take j fs) form_number ∙ length-take-le j fs (omega arith) in
    rw (held, e, take_more fs j Sparse h, map-append form_number (take j fs) (get_or fs j Sparse ∷ []))
    (word_next (0 ∷ count ∷ []) before 16 (j + 2) (form_number (get_or fs j Sparse)) (omega (arith, done)) (omega (arith, done)))

pub loop-j-init : goal.loop-j-init
unfolding Arrays.padded
loop-j-init c = refl

pub loop-j-preserved : goal.loop-j-preserved
loop-j-preserved c = form_turn _ _ _ _ _ c.loop-j.invariant c.loop-j-test.true c.requires (search rules)
