-- Roots one by one, and their new places.
use Rattle.std.specs.Prelude.{ℕ, suc, ◌<◌, ◌≤◌, List, [], ◌∷◌, map, ◌≡◌, refl, get_or, length}
use Rattle.std.proofs.Common.{ap₂, arith}
use Rattle.std.proofs.lemmas.List.{length-map, get_or-map}
use Rattle.dag.specs.Roots.{most_roots, roots_of, roots_from, Inside}
use Rattle.dag.specs.declared.Roots.{Roots}

-- functions that agree at each element
module _ {A : Type 0} (f g : ℕ → A) where
  pub map_agree : (l : List ℕ) → ((j : ℕ) → j < length l → f (get_or l j 0) ≡ g (get_or l j 0)) → map f l ≡ map g l
  map_agree [] h = refl
  map_agree (x ∷ l) h = ap₂ (λ y t. y ∷ t) (h 0 (omega arith)) (map_agree l (λ j k. h (suc j) (omega arith)))

-- the roots that were put in
pub roots_from_lem : (is : List ℕ) → roots_of (roots_from is) ≡ is
unfolding roots_of roots_from
roots_from_lem is = refl

-- roots are their places alone
pub roots_exact : (r : Roots) → roots_from (roots_of r) ≡ r
unfolding roots_of roots_from
roots_exact r = refl

module _ (n : ℕ) (r : Roots) (inside : Inside n r) where
  -- new places that agree below n
  pub roots_agree : (f g : ℕ → ℕ) → ((i : ℕ) → i < n → f i ≡ g i) → map f (roots_of r) ≡ map g (roots_of r)
  roots_agree f g h = map_agree f g (roots_of r) (λ j k. h (get_or (roots_of r) j 0) (inside.below j k))

  pub inside_mono : (m : ℕ) → n ≤ m → Inside m r
  inside_mono m h = record { some = inside.some; few = inside.few; below = λ j k. omega (arith, inside.below j k) }

-- one to eight places below n are roots of a list of n records
pub inside_from : (n : ℕ) (is : List ℕ) → 0 < length is → length is ≤ most_roots → ((j : ℕ) → j < length is → get_or is j 0 < n) → Inside n (roots_from is)
unfolding roots_of roots_from
inside_from n is some few low = record { some = some; few = few; below = low }

-- there are one to eight
pub root_count : (n : ℕ) (is : List ℕ) → Inside n (roots_from is) → (0 < length is) × (length is ≤ most_roots)
unfolding roots_of roots_from
root_count n is inside = (inside.some, inside.few)

-- new places below n are roots of a list of n records
pub inside_renamed : (f : ℕ → ℕ) (m n : ℕ) (r : Roots) → Inside m r → ((i : ℕ) → i < m → f i < n) → Inside n (roots_from (map f (roots_of r)))
inside_renamed f m n r inside low =
    let same = length-map (roots_of r) f in
    inside_from n (map f (roots_of r)) (rw same inside.some) (rw same inside.few)
    (λ j k.
    let h : j < length (roots_of r) = rw same at k in
    rw (get_or-map f (roots_of r) j 0 0 h) (low (get_or (roots_of r) j 0) (inside.below j h)))
