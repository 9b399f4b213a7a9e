-- The numbers that a column's form holds (`sparse_terms` and `LagrangeBasis` of ir.rs, and the inverse DFT). They are
-- coordinates of a field.
use Rattle.std.specs.Prelude.{ℕ, ◌*◌, ◌-◌, ◌^◌, List, get_or, length}
use Rattle.field.specs.Fields.{Field}
use Rattle.ring.specs.Power.{pow}
use Rattle.ring.specs.Sums.{sum}
use Rattle.columns.specs.Columns.{log_length}

module _ (field : Field) where
  -- w^k, where w generates the subgroup of the column's P rows
  unfoldable pub root : List ℕ → ℕ → ℕ
  root c k = pow field.coordinates (field.generator (log_length c)) k

  -- w⁻¹
  unfoldable pub root_inverse : List ℕ → ℕ
  root_inverse c = root c (length c - 1)

  -- P⁻¹
  unfoldable pub size_inverse : List ℕ → ℕ
  size_inverse c = pow field.coordinates field.half (log_length c)

  -- dense coefficient j, that of degree j
  unfoldable pub dense : List ℕ → ℕ → ℕ
  dense c j = field.coordinates.mul (sum field.coordinates (λ i. field.coordinates.mul (get_or c i 0) (pow field.coordinates (root_inverse c) (j * i))) (length c)) (size_inverse c)

  -- the scaled value of the sparse term of entry j, and its twiddle i
  unfoldable pub scaled_value : List ℕ → ℕ → ℕ
  scaled_value c j = field.coordinates.mul (get_or c j 0) (size_inverse c)

  unfoldable pub twiddle : List ℕ → ℕ → ℕ → ℕ
  twiddle c j i = pow field.coordinates (root_inverse c) (j * 2 ^ i)
