-- The lists that hold a column's numbers.
use Rattle.std.specs.Prelude.{ℕ, ◌^◌, ◌≤◌, cond, List, [], ◌∷◌, ◌≡◌, eqb, get_or, length, replicate}
use Rattle.ring.specs.Ring.{Ops}
use Rattle.ring.specs.Power.{pow}
use Rattle.field.specs.Fields.{Field}
use Rattle.columns.specs.Columns.{log_length, support}
use Rattle.dag.specs.Arrays.{up_to, padded}
use Rattle.coefficients.specs.Terms.{root, dense, scaled_value, twiddle}

-- place j, unless its entry v is 0
unfoldable pub placed : ℕ → ℕ → List ℕ
placed j v = cond (eqb v 0) [] (j ∷ [])

-- base^(2^i) for i below L, then 0: the twiddles of a sparse term
unfoldable pub squares : Ops ℕ → ℕ → ℕ → List ℕ
squares o base L = padded 0 7 (up_to (λ i. pow o base (2 ^ i)) L)

-- a column's entries, then 0
unfoldable pub copied : List ℕ → List ℕ
copied c = padded 0 128 (up_to (λ i. get_or c i 0) (length c))

-- base^i for i below n
unfoldable pub powers : Ops ℕ → ℕ → ℕ → List ℕ
powers o base n = up_to (pow o base) n

module _ (field : Field) where
  -- w^k for each row k
  unfoldable pub roots : List ℕ → List ℕ
  roots c = up_to (root field c) (length c)

  -- the dense coefficients
  unfoldable pub coefficients : List ℕ → List ℕ
  coefficients c = up_to (dense field c) (length c)

  -- the twiddles of sparse term k, then 0
  unfoldable pub twiddles : List ℕ → ℕ → List ℕ
  twiddles c k = padded 0 7 (up_to (twiddle field c (get_or (support c) k 0)) (log_length c))

  -- the sparse terms' twiddles, 0 past the last, and scaled values
  unfoldable pub sparse_twiddles : List ℕ → List (List ℕ)
  sparse_twiddles c = padded (replicate 7 0) 11 (up_to (twiddles c) (length (support c)))

  unfoldable pub sparse_values : List ℕ → List ℕ
  sparse_values c = up_to (λ k. scaled_value field c (get_or (support c) k 0)) (length (support c))

-- the places of a sparse column's terms
pub record Places (c ps : List ℕ) : Type 0 where
  pub are : ps ≡ support c
  pub few : length ps ≤ 11
