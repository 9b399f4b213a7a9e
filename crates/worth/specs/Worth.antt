-- What the computations of Periodic.antt are worth, over any ring, in the order in which they compute.
use Rattle.std.specs.Prelude.{ℕ, zero, suc, ◌+◌, ◌-◌, cond, List, eqb, get_or, length}
use Rattle.ring.specs.Ring.{Ops}
use Rattle.field.specs.Field.{new}
use Rattle.field.specs.Fields.{Field, modulus}
use Rattle.field.specs.declared.QuadFelt.{QuadFelt}
use Rattle.columns.specs.Columns.{log_length, support, values, offset, column, form}
use Rattle.columns.specs.declared.Form.{Form}
use Rattle.columns.specs.declared.Form.TheVariants.{Sparse, Dense, Basis}
use Rattle.coefficients.specs.Terms.{root, size_inverse, dense, scaled_value, twiddle}
use Rattle.periodic.specs.Periodic.{coefficient, is_added, is_subtracted}

-- n turns, turn i on the value of the turns before it
unfoldable pub folded : {A : Type 0} → (ℕ → A → A) → ℕ → A → A
folded g zero a = a
folded g (suc n) a = g n (folded g n a)

-- the element that a number is
abbrev number : ℕ → QuadFelt
number c = new c 0

module _ (F : Ops QuadFelt) where
  -- z, squared k times
  unfoldable pub squared : QuadFelt → ℕ → QuadFelt
  squared z k = folded (λ i u. F.mul u u) k z

  -- first, times n factors
  unfoldable pub chained : QuadFelt → (ℕ → QuadFelt) → ℕ → QuadFelt
  chained first factors n = folded (λ i u. F.mul u (factors i)) n first

  -- Horner's rule from the highest of n coefficients
  unfoldable pub horner_worth : QuadFelt → (ℕ → QuadFelt) → ℕ → QuadFelt
  horner_worth point coeffs n = folded (λ i u. F.add (coeffs (n - (i + 1))) (F.mul point u)) n (number 0)

  -- the product of 1 + twiddle i · power i, over n powers
  unfoldable pub factor_worth : (ℕ → QuadFelt) → (ℕ → ℕ) → ℕ → QuadFelt
  factor_worth zpow twiddle n = folded (λ i u. F.mul u (F.add (number 1) (F.mul (number (twiddle i)) (zpow i)))) n (number 1)

  -- a sparse term
  unfoldable pub term_worth : (ℕ → QuadFelt) → (ℕ → ℕ) → ℕ → ℕ → QuadFelt
  term_worth zpow twiddle n value = F.mul (number value) (factor_worth zpow twiddle n)

  -- the sum of t sparse terms
  unfoldable pub sum_worth : (ℕ → QuadFelt) → (ℕ → ℕ → ℕ) → ℕ → (ℕ → ℕ) → ℕ → QuadFelt
  sum_worth zpow twiddle n value zero = number 0
  sum_worth zpow twiddle n value (suc t) =
      folded (λ k u. F.add u (term_worth zpow (twiddle (k + 1)) n (value (k + 1)))) t (term_worth zpow (twiddle 0) n (value 0))

module _ (field : Field) (c : List ℕ) where
  unfoldable pub sparse_worth : QuadFelt → QuadFelt
  sparse_worth z =
      sum_worth field.elements (squared field.elements z) (λ i. twiddle field c (get_or (support c) i 0)) (log_length c)
      (λ i. scaled_value field c (get_or (support c) i 0)) (length (support c))

  unfoldable pub dense_worth : QuadFelt → QuadFelt
  dense_worth z = horner_worth field.elements z (λ j. number (dense field c j)) (length c)

  -- z − w^k
  unfoldable pub root_factor : QuadFelt → ℕ → QuadFelt
  root_factor z k = field.elements.sub z (number (root field c k))

  -- over the products before and behind each row
  module _ (prefix suffix : ℕ → QuadFelt) where
    -- element j of the basis
    unfoldable pub element_worth : ℕ → QuadFelt
    element_worth j = field.elements.mul (number (root field c j)) (field.elements.mul (prefix j) (suffix (length c - 1 - j)))

    -- the sum of the elements whose entry is v
    unfoldable pub class_worth : ℕ → QuadFelt
    class_worth v = folded (λ j u. cond (eqb (get_or c j 0) v) (field.elements.add u (element_worth j)) u) (length c) (number 0)

    -- u, with the class of value v where it is added, or subtracted
    unfoldable pub added_worth : ℕ → QuadFelt → QuadFelt
    added_worth v u = cond (is_added field c v) (field.elements.add u (field.elements.mul (number (coefficient field c v)) (class_worth v))) u

    unfoldable pub subtracted_worth : ℕ → QuadFelt → QuadFelt
    subtracted_worth v u = cond (is_subtracted field c v) (field.elements.sub u (class_worth v)) u

    -- the offset and its classes: those that are added, then those that are subtracted
    unfoldable pub combined_worth : QuadFelt
    combined_worth =
        folded (λ k u. subtracted_worth (get_or (values c) k 0) u) (length (values c))
        (folded (λ k u. added_worth (get_or (values c) k 0) u) (length (values c)) (number (offset (modulus field) c)))

  unfoldable pub basis_worth : QuadFelt → QuadFelt
  basis_worth z =
      combined_worth (chained field.elements (number (size_inverse field c)) (root_factor z)) (chained field.elements (number 1) (λ i. root_factor z (length c - (i + 1))))

  unfoldable pub column_worth : Form → QuadFelt → QuadFelt
  column_worth Sparse z = sparse_worth z
  column_worth Dense z = dense_worth z
  column_worth Basis z = basis_worth z

-- column j under the shared period 2^S, where ZK is z
unfoldable pub node_worth : Field → List (List ℕ) → ℕ → QuadFelt → ℕ → QuadFelt
node_worth field cs S z j = column_worth field (column cs j) (form (modulus field) cs j) (squared field.elements z (S - log_length (column cs j)))
