-- A rule of a table, shown at all of its entries by one test that computes.
use Rattle.std.proofs.Common.{◌∙◌, subst, sym, add-zero, zero-add, add-suc, suc-add, le_of_suc-le-suc, not-suc-le-zero}
use Rattle.std.specs.Prelude.{ℕ, zero, suc, ◌+◌, ◌<◌, Bool, true, ◌&&◌, T, List, [], ◌∷◌, length, slice_index}
use Rattle.std.proofs.Math.Facts.{and_yes}

-- the test f passes at each entry and its place, counted from i
abbrev pub every : (ℕ → ℕ → Bool) → ℕ → List ℕ → Bool
every f i [] = true
every f i (x ∷ xs) = f i x && every f (suc i) xs

from : (f : ℕ → ℕ → Bool) (xs : List ℕ) (i : ℕ) → T (every f i xs) → (k : ℕ) → k < length xs → T (f (i + k) (slice_index xs k))
from f [] i t k h = absurd (not-suc-le-zero h)
from f (x ∷ xs) i t zero h = subst (λ (m : ℕ). T (f m x)) (sym (add-zero i)) (and_yes (f i x) (every f (suc i) xs) t).0
from f (x ∷ xs) i t (suc k) h =
    subst (λ (m : ℕ). T (f m (slice_index xs k))) (suc-add i k ∙ sym (add-suc i k))
    (from f xs (suc i) (and_yes (f i x) (every f (suc i) xs) t).1 k (le_of_suc-le-suc h))

pub at : (f : ℕ → ℕ → Bool) (xs : List ℕ) → T (every f 0 xs) → (k : ℕ) → k < length xs → T (f k (slice_index xs k))
at f xs t k h = subst (λ (m : ℕ). T (f m (slice_index xs k))) (zero-add k) (from f xs 0 t k h)
