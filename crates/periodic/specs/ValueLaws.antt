-- A column's value, from the parts that its code runs.
use Rattle.std.specs.Prelude.{ℕ, true, List, [], ◌≡◌, get_or, length}
use Rattle.field.specs.Fields.{Field}
use Rattle.field.specs.Field.{modulus_of}
use Rattle.field.specs.declared.Prime.{Prime}
use Rattle.columns.specs.Columns.{log_length, support}
use Rattle.columns.specs.Prepare.{all_below}
use Rattle.coefficients.specs.Terms.{dense, scaled_value, twiddle}
use Rattle.coefficients.specs.Arrays.{coefficients, sparse_twiddles, sparse_values}
use Rattle.periodic.specs.Periodic.{constants, sparse_sum}
use Rattle.periodic.specs.SameLaws.{Same, same_constants, same_sum}
use Rattle.periodic.specs.NumberLaws.{dense_at, length_dense, twiddle_at, value_at, length_values}

-- numbers below the modulus, under the same prime
pub all_below_later : {p q : Prime} (ns : List ℕ) → p ≡ q → all_below (modulus_of q) ns ≡ true → all_below (modulus_of p) ns ≡ true
all_below_later ns e h = rw e h

module _ (field : Field) (c : List ℕ) where
  -- the dense coefficients as constants
  pub dense_same : (numbers : List ℕ) → numbers ≡ coefficients field c
      → Same (constants field.elements (λ j. get_or numbers j 0) (length numbers)) (constants field.elements (dense field c) (length c))
  dense_same numbers e =
      rw (length_dense field c numbers e)
      (same_constants field.elements (λ j. get_or numbers j 0) (dense field c) (length c) (λ j h. dense_at field c numbers e j h))

  -- the sparse terms of a column
  pub sparse_same : (zpow : List ℕ) (rows : List (List ℕ)) (values : List ℕ) (log : ℕ) → rows ≡ sparse_twiddles field c → values ≡ sparse_values field c → log ≡ log_length c
      → Same (sparse_sum field.elements zpow (λ k i. get_or (get_or rows k []) i 0) log (λ k. get_or values k 0) (length values))
      (sparse_sum field.elements zpow (λ i. twiddle field c (get_or (support c) i 0)) (log_length c) (λ i. scaled_value field c (get_or (support c) i 0)) (length (support c)))
  sparse_same zpow rows values log er ev el =
      rw (el, length_values field c values ev)
      (same_sum field.elements zpow (λ k i. get_or (get_or rows k []) i 0) (λ i. twiddle field c (get_or (support c) i 0)) (log_length c) (λ k. get_or values k 0) (λ i. scaled_value field c (get_or (support c) i 0)) (length (support c))
      (λ k h i j. twiddle_at field c rows k i er h j) (λ k h. value_at field c values k ev h))
