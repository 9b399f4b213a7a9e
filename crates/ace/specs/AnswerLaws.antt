-- An answer's words as they are written: a head, the words so far, 0 behind them.
use Rattle.std.specs.Prelude.{ℕ, ◌+◌, ◌-◌, ◌*◌, ◌<◌, List, [], ◌∷◌, ◌++◌, ◌≡◌, length, set}
use Rattle.std.proofs.Common.{refl, ap, ◌∙◌, arith}
use Rattle.std.proofs.lemmas.List.{set-append_right}
use Rattle.dag.specs.Arrays.{padded}
use Rattle.dag.specs.ArrayLaws.{padded_set}
use Rattle.field.specs.declared.QuadFelt.{QuadFelt}
use Rattle.ace.specs.Answers.{coordinates}

-- one word more
pub word_next : (head ws : List ℕ) (m k v : ℕ) → length ws < m → k ≡ length head + length ws
    → set (head ++ padded 0 m ws) k v ≡ head ++ padded 0 m (ws ++ (v ∷ []))
word_next head ws m k v h e =
    let behind : k - length head ≡ length ws = omega arith in
    set-append_right head (padded 0 m ws) (length head) k v refl (omega arith)
    ∙ ap (λ t. head ++ t) (ap (λ j. set (padded 0 m ws) j v) behind ∙ padded_set 0 m ws v h)

-- coordinates of elements, and of one more
pub length_coordinates : (vs : List QuadFelt) → length (coordinates vs) ≡ 2 * length vs
unfolding coordinates
length_coordinates [] = refl
length_coordinates (v ∷ vs) = omega (arith, length_coordinates vs)

pub coordinates_more : (vs : List QuadFelt) (v : QuadFelt) → coordinates (vs ++ (v ∷ [])) ≡ coordinates vs ++ (v.c0 ∷ v.c1 ∷ [])
unfolding coordinates
coordinates_more [] v = refl
coordinates_more (w ∷ vs) v = ap (λ t. w.c0 ∷ w.c1 ∷ t) (coordinates_more vs v)
