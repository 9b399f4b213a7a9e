-- A list from its end.
use Prim.Native.Nat.{ℕ, ◌+◌, ◌-◌, ◌<◌}
use mathlib.Core.List.{List, reverse}
use mathlib.Core.Path.{◌≡◌}
use lib.ListN.{length, get_or}
use native.Mathlib.Omega.{arith}
use Rattle.std.proofs.Common.{◌∙◌, ap}
use Rattle.std.proofs.lemmas.List.{get_or-reverse, length-reverse, get_or_read}

pub turned_item : (ps : List ℕ) (k v : ℕ) → (k < length (reverse ps)) × (v ≡ get_or (reverse ps) k v) → (k < length ps) × (v ≡ get_or ps (length ps - (k + 1)) 0)
turned_item ps k v h =
    let lt : k < length ps = omega (arith, h.0, length-reverse ps) in
    let i : length ps - 1 - k ≡ length ps - (k + 1) = omega arith in
    (lt, get_or_read (reverse ps) k v h.0 h.1 0 ∙ (get_or-reverse ps k 0 lt ∙ ap (λ j. get_or ps j 0) i))

pub turned_end : (ps : List ℕ) (k : ℕ) → k ≡ length (reverse ps) → k ≡ length ps
turned_end ps k e = e ∙ length-reverse ps
