-- `build_periodic_nodes` of periodic.rs, without its caches: an equal request is answered by the same place. F is the
-- ring of the list's elements.
use Rattle.std.specs.Prelude.{ℕ, zero, suc, ◌+◌, ◌-◌, Bool, true, false, cond, not, ◌&&◌, List, [], ◌∷◌, eqb, get_or, length}
use Rattle.ring.specs.Ring.{Ops}
use Rattle.ring.specs.Residue as Residue
use Rattle.field.specs.Fields.{Field, modulus}
use Rattle.field.specs.declared.QuadFelt.{QuadFelt}
use Rattle.dag.specs.Keys.{ZK}
use Rattle.columns.specs.Columns.{log_length, support, values, offset, column, form}
use Rattle.dag.specs.Arrays.{up_to}
use Rattle.columns.specs.declared.Form.{Form}
use Rattle.columns.specs.declared.Form.TheVariants.{Sparse, Dense, Basis}
use Rattle.coefficients.specs.Terms.{root, size_inverse, dense, scaled_value, twiddle}
use Rattle.periodic.specs.Builder.{Builder, done, turns, input, constant, add, sub, mul, also, ◌>>=◌}

-- a list from its end
unfoldable pub backwards : List ℕ → List ℕ
backwards ps = up_to (λ i. get_or ps (length ps - (i + 1)) 0) (length ps)

module _ (F : Ops QuadFelt) where
  -- ZK, squared k times
  unfoldable pub z_power : ℕ → Builder ℕ
  z_power k = do
    z ← input F ZK
    turns (λ i z. mul F z z) k z

  -- z and its squares, n + 1 in all
  unfoldable pub powers : ℕ → ℕ → Builder (List ℕ)
  powers z n = turns (λ i ps. also ps (mul F (get_or ps i 0) (get_or ps i 0))) n (z ∷ [])

  -- first, times the first factor, times the first two, ..
  unfoldable pub chain : ℕ → List ℕ → ℕ → Builder (List ℕ)
  chain first factors n = turns (λ i ps. also ps (mul F (get_or ps i 0) (get_or factors i 0))) n (first ∷ [])

  -- Horner's rule from the highest of n coefficients
  unfoldable pub horner_turn : ℕ → List ℕ → ℕ → ℕ → ℕ → Builder ℕ
  horner_turn point coeffs n i acc = do
    product ← mul F point acc
    add F (get_or coeffs (n - (i + 1)) 0) product

  unfoldable pub horner_eval : ℕ → List ℕ → ℕ → Builder ℕ
  horner_eval point coeffs n = do
    start ← constant F 0
    turns (horner_turn point coeffs n) n start

  -- n constants
  unfoldable pub constants : (ℕ → ℕ) → ℕ → Builder (List ℕ)
  constants f n = turns (λ j ks. also ks (constant F (f j))) n []

  -- factor · (1 + twiddle · power)
  unfoldable pub sparse_turn : ℕ → ℕ → ℕ → Builder ℕ
  sparse_turn twiddle power factor = do
    twiddle ← constant F twiddle
    scaled ← mul F twiddle power
    one ← constant F 1
    sum ← add F one scaled
    mul F factor sum

  -- the product of 1 + twiddle i · power i, over n powers
  unfoldable pub sparse_factor : List ℕ → (ℕ → ℕ) → ℕ → Builder ℕ
  sparse_factor zpow twiddle n = do
    one ← constant F 1
    turns (λ i factor. sparse_turn (twiddle i) (get_or zpow i 0) factor) n one

  -- a sparse term
  unfoldable pub sparse_term : List ℕ → (ℕ → ℕ) → ℕ → ℕ → Builder ℕ
  sparse_term zpow twiddle n value = do
    factor ← sparse_factor zpow twiddle n
    value ← constant F value
    mul F value factor

  -- the sum of t sparse terms: turn k adds term k + 1
  unfoldable pub sum_turn : List ℕ → (ℕ → ℕ → ℕ) → ℕ → (ℕ → ℕ) → ℕ → ℕ → Builder ℕ
  sum_turn zpow twiddle n value k acc = do
    term ← sparse_term zpow (twiddle (k + 1)) n (value (k + 1))
    add F acc term

  unfoldable pub sparse_sum : List ℕ → (ℕ → ℕ → ℕ) → ℕ → (ℕ → ℕ) → ℕ → Builder ℕ
  sparse_sum zpow twiddle n value zero = constant F 0
  sparse_sum zpow twiddle n value (suc t) = do
    first ← sparse_term zpow (twiddle 0) n (value 0)
    turns (sum_turn zpow twiddle n value) t first

module _ (field : Field) (c : List ℕ) where
  -- the column's point is ZK squared k times
  unfoldable pub sparse_value : ℕ → Builder ℕ
  sparse_value k = do
    z ← z_power field.elements k
    zpow ← powers field.elements z (log_length c)
    sparse_sum field.elements zpow (λ i. twiddle field c (get_or (support c) i 0)) (log_length c) (λ i. scaled_value field c (get_or (support c) i 0)) (length (support c))

  unfoldable pub dense_value : ℕ → Builder ℕ
  dense_value k = do
    z ← z_power field.elements k
    coeffs ← constants field.elements (dense field c) (length c)
    horner_eval field.elements z coeffs (length c)

  -- point − w^k
  unfoldable pub factor : ℕ → ℕ → Builder ℕ
  factor point k = do
    root ← constant field.elements (root field c k)
    sub field.elements point root

  -- for each row k
  unfoldable pub factors : ℕ → Builder (List ℕ)
  factors point = turns (λ k fs. also fs (factor point k)) (length c) []

  -- element j of the basis, from the products before and behind it
  unfoldable pub element : List ℕ → List ℕ → ℕ → Builder ℕ
  element prefix suffix j = do
    product ← mul field.elements (get_or prefix j 0) (get_or suffix (length c - 1 - j) 0)
    root ← constant field.elements (root field c j)
    mul field.elements root product

  -- the sum of the elements whose entry is v: row j, with the sum before it
  unfoldable pub class_turn : List ℕ → List ℕ → ℕ → ℕ → ℕ → Builder ℕ
  class_turn prefix suffix v j acc =
      cond (eqb (get_or c j 0) v) (do
        element ← element prefix suffix j
        add field.elements acc element) (done acc)

  unfoldable pub class_sum : List ℕ → List ℕ → ℕ → Builder ℕ
  class_sum prefix suffix v = do
    start ← constant field.elements 0
    turns (λ j acc. class_turn prefix suffix v j acc) (length c) start

  -- the coefficient of the class of value v
  unfoldable pub coefficient : ℕ → ℕ
  coefficient v = Residue.sub (modulus field) v (offset (modulus field) c)

  -- the offset is no class; a class is added, or subtracted where its coefficient is −1
  unfoldable pub is_added : ℕ → Bool
  is_added v = not (eqb v (offset (modulus field) c)) && not (eqb (coefficient v) (modulus field - 1))

  unfoldable pub is_subtracted : ℕ → Bool
  is_subtracted v = not (eqb v (offset (modulus field) c)) && eqb (coefficient v) (modulus field - 1)

  unfoldable pub add_class : List ℕ → List ℕ → ℕ → ℕ → Builder ℕ
  add_class prefix suffix v sum = do
    class ← class_sum prefix suffix v
    scale ← constant field.elements (coefficient v)
    term ← mul field.elements scale class
    add field.elements sum term

  unfoldable pub sub_class : List ℕ → List ℕ → ℕ → ℕ → Builder ℕ
  sub_class prefix suffix v sum = do
    class ← class_sum prefix suffix v
    sub field.elements sum class

  -- the term of the class of value v: added, or where coefficients of −1 are asked for, subtracted
  unfoldable pub term_turn : Bool → List ℕ → List ℕ → ℕ → ℕ → Builder ℕ
  term_turn false prefix suffix v sum = cond (is_added v) (add_class prefix suffix v sum) (done sum)
  term_turn true prefix suffix v sum = cond (is_subtracted v) (sub_class prefix suffix v sum) (done sum)

  -- those terms of all classes, in order of first index
  unfoldable pub all_terms : Bool → List ℕ → List ℕ → ℕ → Builder ℕ
  all_terms minus prefix suffix = turns (λ k sum. term_turn minus prefix suffix (get_or (values c) k 0) sum) (length (values c))

  -- the offset and its classes, over the products before and behind each row
  unfoldable pub basis_sum : List ℕ → List ℕ → Builder ℕ
  basis_sum prefix suffix = do
    start ← constant field.elements (offset (modulus field) c)
    sum ← all_terms false prefix suffix start
    all_terms true prefix suffix sum

  -- the products behind each row, and then the sum
  unfoldable pub basis_back : List ℕ → List ℕ → Builder ℕ
  basis_back factors prefix = do
    one ← constant field.elements 1
    suffix ← chain field.elements one (backwards factors) (length c - 1)
    basis_sum prefix suffix

  -- the factors and the products before each row
  unfoldable pub basis_front : ℕ → Builder ℕ
  basis_front point = do
    factors ← factors point
    scale ← constant field.elements (size_inverse field c)
    prefix ← chain field.elements scale factors (length c - 1)
    basis_back factors prefix

  unfoldable pub basis_value : ℕ → Builder ℕ
  basis_value k = do
    z ← z_power field.elements k
    basis_front z

  unfoldable pub column_value : Form → ℕ → Builder ℕ
  column_value Sparse k = sparse_value k
  column_value Dense k = dense_value k
  column_value Basis k = basis_value k

module _ (field : Field) where
  -- the node of column j under the shared period 2^S
  unfoldable pub column_node : List (List ℕ) → ℕ → ℕ → Builder ℕ
  column_node cs S j = column_value field (column cs j) (form (modulus field) cs j) (S - log_length (column cs j))

  -- the nodes of all columns
  unfoldable pub build_periodic_nodes : List (List ℕ) → ℕ → Builder (List ℕ)
  build_periodic_nodes cs S = turns (λ j ps. also ps (column_node cs S j)) (length cs) []
