-- The classes of a column in basis, by the tests that the code makes.
use Rattle.std.specs.Prelude.{ℕ, ◌+◌, ◌-◌, ◌<◌, ◌≤◌, Bool, List, ◌≡◌, refl, get_or, length, take, Result, Ok, Err, IfOk, ◌⊎◌}
use Rattle.std.proofs.Math.Bool.{true, false, not, cond, ◌&&◌}
use Rattle.std.proofs.Common.{inl, inr, sym, ◌∙◌, ap, arith, eq-eqb, ne_eqb, get_or-take, le_trans}
use Rattle.std.proofs.lemmas.List.{length-take-le}
use Rattle.std.proofs.Math.Path.{subst}
use Rattle.std.proofs.Math.Dec.{eqb}
use Rattle.ring.specs.Ring.{Ops}
use Rattle.ring.specs.Power.{low_pow}
use Rattle.field.specs.Fields.{Field, field_of, modulus, coordinate_laws}
use Rattle.field.specs.declared.Prime.{Prime}
use Rattle.field.specs.declared.QuadFelt.{QuadFelt}
use Rattle.dag.specs.ArrayLaws.{length_up_to, get_or_up_to}
use Rattle.dag.specs.declared.Refusal.{Refusal}
use Rattle.columns.specs.Columns.{log_length, offset, values}
use Rattle.columns.specs.Prepare.{all_below}
use Rattle.columns.specs.ClassLaws.{below_at, below_values}
use Rattle.coefficients.specs.Terms.{root}
use Rattle.coefficients.specs.Arrays.{roots}
use Rattle.periodic.specs.Builder.{Builder, done, ◌>>=◌, turns, add}
use Rattle.periodic.specs.Periodic.{backwards, chain, factor, element, class_turn, coefficient, is_added, is_subtracted, add_class, sub_class, term_turn, all_terms}
use Rattle.periodic.specs.Promises.{AllInside}
use Rattle.periodic.specs.SameLaws.{Same, same_is, chain_front}
use Rattle.periodic.specs.Runs.{State, Entering}
use Rattle.periodic.specs.RunLaws.{enter_like}
use Rattle.basis.specs.Promises as Said
use Rattle.basis.specs.Promises.{Later, Roots, Class}
use Rattle.basis.specs.Within.{Within}
use Rattle.basis.specs.declared.LagrangeBasis.{LagrangeBasis}

-- a list of places from its end
pub backwards_inside : (n : ℕ) (ps : List ℕ) → AllInside n ps → AllInside n (backwards ps)
unfolding backwards
backwards_inside n ps a =
    record {
      at = λ i h.
          let k : i < length ps = subst (λ x. i < x) (length_up_to (λ i. get_or ps (length ps - (i + 1)) 0) (length ps)) h in
          rw (get_or_up_to (λ i. get_or ps (length ps - (i + 1)) 0) 0 (length ps) i k) (a.at (length ps - (i + 1)) (omega arith));
    }

pub length_backwards : (ps : List ℕ) → length (backwards ps) ≡ length ps
unfolding backwards
length_backwards ps = length_up_to (λ i. get_or ps (length ps - (i + 1)) 0) (length ps)

-- the first of these places
pub front_inside : (n k : ℕ) (ps : List ℕ) → k ≤ length ps → AllInside n ps → AllInside n (take k ps)
front_inside n k ps h a = record { at = λ i j. let l : i < k = omega (arith, length-take-le k ps h) in rw (get_or-take k ps i 0 l) (a.at i (omega arith)) }

-- a chain over the first k of these places
pub chain_taken : (F : Ops QuadFelt) (first : ℕ) (fs gs : List ℕ) (l k : ℕ) → gs ≡ fs → l ≡ k → k ≤ length fs → Same (chain F first (take l gs) (length (take l gs))) (chain F first fs k)
chain_taken F first fs gs l k e q h = rw (e, q) (chain_front F first fs (take k fs) k (λ i j. get_or-take k fs i 0 j) (length-take-le k fs h))

module _ (field : Field) where
  -- the table of roots
  pub roots_of_lem : (c rs : List ℕ) → rs ≡ roots field c → Roots field c rs
  unfolding roots root
  roots_of_lem c rs e =
      record {
        at = λ k h. rw e (get_or_up_to (root field c) 0 (length c) k h);
        low = λ k h. rw (e, get_or_up_to (root field c) 0 (length c) k h) (low_pow (coordinate_laws field) (field.generator (log_length c)) k);
        many = ap length e ∙ length_up_to (root field c) (length c);
      }

  -- the factor of row k
  pub factor_at : (c rs : List ℕ) (point k : ℕ) → Roots field c rs → k < length c → Said.factor field point (get_or rs k 0) ≡ factor field c point k
  unfolding Said.factor factor
  factor_at c rs point k d h = rw (d.at k h)

  -- the class of value v, with offset d
  module _ (c : List ℕ) (d v : ℕ) (ed : d ≡ offset (modulus field) c) where
    pub is_coefficient : field.coordinates.sub v d ≡ coefficient field c v
    unfolding coefficient
    is_coefficient = ap (field.coordinates.sub v) ed ∙ field.coordinates_sub v (offset (modulus field) c)

    module _ (w : Bool) (ew : w ≡ eqb (field.coordinates.sub v d) (modulus field - 1)) where
      minus_one : eqb (coefficient field c v) (modulus field - 1) ≡ w
      minus_one = sym (ew ∙ ap (λ k. eqb k (modulus field - 1)) is_coefficient)

      module _ (prefix suffix : List ℕ) (sum : ℕ) where
        pub add_skipped : (v ≡ d) ⊎ ((v ≡ d → ⊥) × (w ≡ true)) → Same (done sum) (term_turn field c false prefix suffix v sum)
        unfolding term_turn is_added
        add_skipped (inl e) = same_is (rw (eq-eqb v (offset (modulus field) c) (e ∙ ed)) refl)
        add_skipped (inr e) = same_is (rw (minus_one ∙ e.1) (neither (eqb v (offset (modulus field) c))))
          where
            neither : (b : Bool) → done sum ≡ cond (not b && false) (add_class field c prefix suffix v sum) (done sum)
            neither true = refl
            neither false = refl

        pub add_taken : (v ≡ d → ⊥) → w ≡ false → Same (add_class field c prefix suffix v sum) (term_turn field c false prefix suffix v sum)
        unfolding term_turn is_added
        add_taken n e = same_is (rw (ne_eqb v (offset (modulus field) c) (λ q. n (q ∙ sym ed)), minus_one ∙ e) refl)

        pub sub_skipped : (v ≡ d) ⊎ ((v ≡ d → ⊥) × (w ≡ false)) → Same (done sum) (term_turn field c true prefix suffix v sum)
        unfolding term_turn is_subtracted
        sub_skipped (inl e) = same_is (rw (eq-eqb v (offset (modulus field) c) (e ∙ ed)) refl)
        sub_skipped (inr e) = same_is (rw (minus_one ∙ e.1) (neither (eqb v (offset (modulus field) c))))
          where
            neither : (b : Bool) → done sum ≡ cond (not b && false) (sub_class field c prefix suffix v sum) (done sum)
            neither true = refl
            neither false = refl

        pub sub_taken : (v ≡ d → ⊥) → w ≡ true → Same (sub_class field c prefix suffix v sum) (term_turn field c true prefix suffix v sum)
        unfolding term_turn is_subtracted
        sub_taken n e = same_is (rw (ne_eqb v (offset (modulus field) c) (λ q. n (q ∙ sym ed)), minus_one ∙ e) refl)

  -- a value of a column's, with the offset
  pub class_of : (c vs : List ℕ) (d k : ℕ) → all_below (modulus field) c ≡ true → vs ≡ values c → d ≡ offset (modulus field) c → d < modulus field → k < length vs → Class field c d (get_or vs k 0)
  class_of c vs d k low e o l h = record { offset_is = o; offset_low = l; value_low = rw e (below_at (modulus field) (values c) k (below_values (modulus field) c low) (rw e at h)) }

-- a row tested
module _ (c prefix suffix : List ℕ) (v j acc : ℕ) where
  pub row_skipped : (get_or c j 0 ≡ v → ⊥) → ◌≡◌ {A = Field → Builder ℕ} (λ field. done acc) (λ field. class_turn field c prefix suffix v j acc)
  unfolding class_turn
  row_skipped e = rw (ne_eqb (get_or c j 0) v e)

  pub row_taken : get_or c j 0 ≡ v → ◌≡◌ {A = Field → Builder ℕ} (λ field. element field c prefix suffix j >>= λ e. add field.elements acc e) (λ field. class_turn field c prefix suffix v j acc)
  unfolding class_turn
  row_taken e = rw (eq-eqb (get_or c j 0) v e)

-- a computation at the builder's prime
pub at_prime : {b a : State} {m : Field → Builder ℕ} {r : Result ℕ Refusal} {p : Prime} → b.prime ≡ p → Entering b m a r → Entering b (λ _. m (field_of p)) a r
at_prime e d = enter_like e (same_is refl) d

-- the terms of all classes, from the column's values
pub terms_entered : {b a : State} {r : Result ℕ Refusal} {p : Prime} (c prefix suffix : List ℕ) (minus : Bool) (start : ℕ) (vs : List ℕ) → b.prime ≡ p → vs ≡ values c
    → Entering b (λ _. turns (λ k sum. term_turn (field_of p) c minus prefix suffix (get_or vs k 0) sum) (length vs) start) a r → Entering b (λ field. all_terms field c minus prefix suffix start) a r
unfolding all_terms
terms_entered c prefix suffix minus start vs e v d = enter_like e (same_is (rw v refl)) d

-- what is entered keeps the prime and the records, and its place is inside
pub kept : (b c : State) (m : Field → Builder ℕ) (r : Result ℕ Refusal) → Entering b m c r → Later b c × IfOk r (λ place. place < c.count)
kept b c m (Ok place) d = (record { prime_is = d.told.ran.prime_is; longer = d.told.ran.longer }, d.told.inside)
kept b c m (Err r) d = (record { prime_is = d.told.prime_is; longer = d.told.longer }, tt)

-- within a later builder
pub within_later : {basis : LagrangeBasis} {b c : State} → c.prime ≡ b.prime → b.count ≤ c.count → Within basis b → Within basis c
within_later e h d = record { same = e ∙ d.same; longer = le_trans d.longer h }
