-- Arrays filled from the front.
use Rattle.std.specs.Prelude.{ℕ, zero, suc, ◌-◌, List, [], ◌∷◌, ◌++◌, length, replicate}

-- f 0, f 1, .., f (n − 1)
unfoldable pub up_to : {A : Type 0} → (ℕ → A) → ℕ → List A
up_to f zero = []
up_to f (suc n) = up_to f n ++ (f n ∷ [])

-- an array of n elements that begins with ws, then z
unfoldable pub padded : {A : Type 0} → A → ℕ → List A → List A
padded z n ws = ws ++ replicate (n - length ws) z
