-- What the functions ask of a column's numbers and of places.
use Rattle.std.specs.Prelude.{ℕ, ◌<◌, ◌≤◌, List, [], get_or, length}
use Rattle.field.specs.Fields.{Field, modulus}
use Rattle.columns.specs.Columns.{support}

-- these places are among n records
pub record AllInside (n : ℕ) (ps : List ℕ) : Type 0 where
  pub at : (i : ℕ) → i < length ps → get_or ps i 0 < n

-- a column that a sparse form can hold
pub record Few (c : List ℕ) : Type 0 where
  pub few : length (support c) ≤ 11

module _ (field : Field) where
  -- the twiddles of a sparse term
  pub record Row (row : List ℕ) (log : ℕ) : Type 0 where
    pub few : log ≤ 7
    pub low : (i : ℕ) → i < log → get_or row i 0 < modulus field

  -- the twiddles and scaled values of t sparse terms
  pub record Rows (rows : List (List ℕ)) (log : ℕ) (values : List ℕ) (t : ℕ) : Type 0 where
    pub few : t ≤ 11
    pub low : (k : ℕ) → k < t → Row (get_or rows k []) log
    pub scaled : (k : ℕ) → k < t → get_or values k 0 < modulus field
