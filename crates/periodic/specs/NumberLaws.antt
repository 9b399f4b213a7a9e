-- The numbers of a column's terms and coefficients.
use Prim.Native.Nat.{ℕ, zero, suc, ◌<◌, ◌≤◌}
use Rattle.std.specs.Prelude.{true, ◌≡◌, length, get_or, replicate}
use mathlib.Core.List.{List, []}
use Rattle.std.proofs.Math.Path.{refl}
use Rattle.std.proofs.Common.{◌∙◌, ap}
use Rattle.field.specs.Fields.{Field, field_of, modulus, coordinate_laws}
use Rattle.ring.specs.Power.{low_pow}
use Rattle.columns.specs.Columns.{log_length, support}
use Rattle.columns.specs.Prepare.{all_below}
use Rattle.dag.specs.Arrays.{up_to}
use Rattle.dag.specs.ArrayLaws.{length_up_to, get_or_up_to, get_or_filled}
use Rattle.columns.specs.CostLaws.{log_length_le}
use Rattle.columns.specs.ClassLaws.{below_snoc}
use Rattle.coefficients.specs.Terms.{dense, scaled_value, twiddle}
use Rattle.coefficients.specs.Arrays.{coefficients, twiddles, sparse_twiddles, sparse_values}
use Rattle.field.specs.declared.Prime.{Prime}
use Rattle.periodic.specs.Promises.{Row, Rows}

module _ (field : Field) (c : List ℕ) where
  dense_low : (j : ℕ) → dense field c j < modulus field
  unfolding dense
  dense_low j = (coordinate_laws field).low_mul _ _

  scaled_low : (j : ℕ) → scaled_value field c j < modulus field
  unfolding scaled_value
  scaled_low j = (coordinate_laws field).low_mul _ _

  twiddle_low : (j i : ℕ) → twiddle field c j i < modulus field
  unfolding twiddle
  twiddle_low j i = low_pow (coordinate_laws field) _ _

  up_to_below : (f : ℕ → ℕ) → ((j : ℕ) → f j < modulus field) → (n : ℕ) → all_below (modulus field) (up_to f n) ≡ true
  unfolding up_to all_below
  up_to_below f h zero = refl
  up_to_below f h (suc n) = below_snoc (modulus field) (up_to f n) (f n) (up_to_below f h n) (h n)

  -- sparse terms
  pub twiddle_at : (rows : List (List ℕ)) (k i : ℕ) → rows ≡ sparse_twiddles field c → k < length (support c) → i < log_length c → get_or (get_or rows k []) i 0 ≡ twiddle field c (get_or (support c) k 0) i
  unfolding sparse_twiddles twiddles
  twiddle_at rows k i e h j =
      rw (e, get_or_filled (replicate 7 0) [] 11 (twiddles field c) (length (support c)) k h)
      (get_or_filled 0 0 7 (twiddle field c (get_or (support c) k 0)) (log_length c) i j)

  pub value_at : (values : List ℕ) (k : ℕ) → values ≡ sparse_values field c → k < length (support c) → get_or values k 0 ≡ scaled_value field c (get_or (support c) k 0)
  unfolding sparse_values
  value_at values k e h = rw e (get_or_up_to (λ k. scaled_value field c (get_or (support c) k 0)) 0 (length (support c)) k h)

  pub length_values : (values : List ℕ) → values ≡ sparse_values field c → length values ≡ length (support c)
  unfolding sparse_values
  length_values values e = ap length e ∙ length_up_to (λ k. scaled_value field c (get_or (support c) k 0)) (length (support c))

  pub rows_low : (rows : List (List ℕ)) (values : List ℕ) (log : ℕ) → rows ≡ sparse_twiddles field c → values ≡ sparse_values field c → log ≡ log_length c → length (support c) ≤ 11 → Rows field rows log values (length values)
  rows_low rows values log er ev el few =
      let t = length_values values ev in
      record {
        few = rw t few;
        low = λ k h.
            record {
              few = rw el (log_length_le c);
              low = λ i j. rw (twiddle_at rows k i er (rw (← t) h) (rw (← el) j)) (twiddle_low (get_or (support c) k 0) i);
            };
        scaled = λ k h. rw (value_at values k ev (rw (← t) h)) (scaled_low (get_or (support c) k 0));
      }

  -- dense coefficients
  module _ (numbers : List ℕ) (e : numbers ≡ coefficients field c) where
    pub dense_below : all_below (modulus field) numbers ≡ true
    unfolding coefficients
    dense_below = rw e (up_to_below (dense field c) dense_low (length c))

    pub length_dense : length numbers ≡ length c
    unfolding coefficients
    length_dense = ap length e ∙ length_up_to (dense field c) (length c)

    pub dense_at : (j : ℕ) → j < length c → get_or numbers j 0 ≡ dense field c j
    unfolding coefficients
    dense_at j h = rw e (get_or_up_to (dense field c) 0 (length c) j h)

-- under the same prime
pub row_later : {p q : Prime} (row : List ℕ) (log : ℕ) → p ≡ q → Row (field_of q) row log → Row (field_of p) row log
row_later row log e d = rw e d

pub rows_later : {p q : Prime} (rows : List (List ℕ)) (log : ℕ) (values : List ℕ) (t : ℕ) → p ≡ q → Rows (field_of q) rows log values t → Rows (field_of p) rows log values t
rows_later rows log values t e d = rw e d
