-- What each computation of Periodic.antt keeps, and what its answer is worth, in any field, whatever element is given to each key.
use Prim.Native.Nat.{ℕ, zero, suc, ◌+◌, ◌-◌, ◌<◌, ◌≤◌}
use Rattle.std.proofs.Math.Bool.{true, false, cond}
use mathlib.Core.List.{List, [], ◌∷◌}
use Rattle.std.specs.Prelude.{◌≡◌, refl, eqb, ltb, get_or, length}
use Rattle.std.proofs.Common.{ap₂, arith}
use Rattle.std.proofs.Math.Path.{subst}
use Rattle.std.proofs.Math.Nat.{mod-lt}
use Rattle.ring.specs.Power.{low_pow}
use Rattle.field.specs.Fields.{Field, modulus, Low, coordinate_laws, element_laws}
use Rattle.field.specs.Field.{new}
use Rattle.field.specs.declared.QuadFelt.{QuadFelt}
use Rattle.dag.specs.CaseLaws.{cond_elim}
use Rattle.dag.specs.Keys.{is_key, ZK}
use Rattle.dag.specs.WellFormed.{Fine, WellFormed}
use Rattle.dag.specs.declared.NodeKind.{NodeKind}
use Rattle.dag.specs.declared.NodeKind.TheVariants.{Input, Constant, Add, Sub, Mul}
use Rattle.meaning.specs.Values.{value_of}
use Rattle.columns.specs.Columns.{log_length, support, values, dominant, combination_cost, offset, column, form}
use Rattle.columns.specs.Prepare.{all_below}
use Rattle.columns.specs.ClassLaws.{below_values, below_heaviest}
use Rattle.columns.specs.declared.Form.{Form}
use Rattle.columns.specs.declared.Form.TheVariants.{Sparse, Dense, Basis}
use Rattle.coefficients.specs.Terms.{root, size_inverse, dense, scaled_value, twiddle}
use Rattle.periodic.specs.Builder.{Extends, Builder, done, input, constant, add, sub, mul, also}
use Rattle.periodic.specs.Periodic as Periodic
use Rattle.worth.specs.Keeps.{Keeps, Is, Are}
use Rattle.worth.specs.KeepsLaws.{later, all_later, are_none, are_one, are_backwards}
use Rattle.worth.specs.KeepsLaws.{keeps_done, keeps_then, keeps_cond, keeps_turns, keeps_folded, keeps_also, enter_keeps}
use Rattle.worth.specs.Worth.{folded, squared, chained, horner_worth, factor_worth, term_worth, sum_worth, sparse_worth, dense_worth}
use Rattle.worth.specs.Worth.{root_factor, element_worth, class_worth, added_worth, subtracted_worth, combined_worth, basis_worth, column_worth, node_worth}

module _ (field : Field) (given : ℕ → QuadFelt) (low-given : (k : ℕ) → Low field (given k)) where
  -- run on l, m keeps the list well-formed and answers a place worth v
  abbrev Gives : List NodeKind → Builder ℕ → QuadFelt → Type 0
  Gives l m v = Keeps (Low field) l m (λ k a. Is field.elements given k a v)

  -- one request
  module _ {l : List NodeKind} (w : WellFormed (Low field) l) where
    input_keeps : (k : ℕ) → is_key k ≡ true → Gives l (input field.elements k) (given k)
    unfolding value_of Fine
    input_keeps k h = enter_keeps field.elements (element_laws field) given low-given (Input k) w h

    module _ {a b : ℕ} {u v : QuadFelt} (s : Is field.elements given l a u) (t : Is field.elements given l b v) where
      add_keeps : Gives l (add field.elements a b) (field.elements.add u v)
      unfolding value_of Fine
      add_keeps = subst (λ z. Gives l (add field.elements a b) z) (ap₂ field.elements.add s.worth t.worth) (enter_keeps field.elements (element_laws field) given low-given (Add a b) w (s.inside, t.inside))

      sub_keeps : Gives l (sub field.elements a b) (field.elements.sub u v)
      unfolding value_of Fine
      sub_keeps = subst (λ z. Gives l (sub field.elements a b) z) (ap₂ field.elements.sub s.worth t.worth) (enter_keeps field.elements (element_laws field) given low-given (Sub a b) w (s.inside, t.inside))

      mul_keeps : Gives l (mul field.elements a b) (field.elements.mul u v)
      unfolding value_of Fine
      mul_keeps = subst (λ z. Gives l (mul field.elements a b) z) (ap₂ field.elements.mul s.worth t.worth) (enter_keeps field.elements (element_laws field) given low-given (Mul a b) w (s.inside, t.inside))

  -- squares, and products one after the other
  z_power_keeps : {l : List NodeKind} (k : ℕ) → WellFormed (Low field) l → Gives l (Periodic.z_power field.elements k) (squared field.elements (given ZK) k)
  unfolding Periodic.z_power squared is_key
  z_power_keeps k w =
      keeps_then (input_keeps w ZK refl)
      (λ j z x e s. keeps_folded (λ i z. mul field.elements z z) (λ i u. field.elements.mul u u) k z x s (λ i h k b u w e s. mul_keeps w s s))

  powers_keeps : {l : List NodeKind} {z : ℕ} {v : QuadFelt} (n : ℕ) → WellFormed (Low field) l → Is field.elements given l z v
      → Keeps (Low field) l (Periodic.powers field.elements z n) (λ k ps. Are field.elements given k ps (suc n) (squared field.elements v))
  unfolding Periodic.powers squared folded
  powers_keeps {z = z} {v = v} n w s =
      keeps_turns (λ i k ps. Are field.elements given k ps (suc i) (squared field.elements v)) (λ i ps. also ps (mul field.elements (get_or ps i 0) (get_or ps i 0)))
      n (z ∷ []) w (are_one (squared field.elements v) s)
      (λ i h k ps w e r. keeps_also r (mul_keeps w (r.each i (omega arith)) (r.each i (omega arith))))

  chain_keeps : {l : List NodeKind} {first : ℕ} {u : QuadFelt} {fs : List ℕ} {c : ℕ} {v : ℕ → QuadFelt} (n : ℕ) → n ≤ c
      → WellFormed (Low field) l → Is field.elements given l first u → Are field.elements given l fs c v
      → Keeps (Low field) l (Periodic.chain field.elements first fs n) (λ k ps. Are field.elements given k ps (suc n) (chained field.elements u v))
  unfolding Periodic.chain chained folded
  chain_keeps {first = first} {u = u} {fs = fs} {v = v} n few w s t =
      keeps_turns (λ i k ps. Are field.elements given k ps (suc i) (chained field.elements u v)) (λ i ps. also ps (mul field.elements (get_or ps i 0) (get_or fs i 0)))
      n (first ∷ []) w (are_one (chained field.elements u v) s)
      (λ i h k ps w e r. keeps_also r (mul_keeps w (r.each i (omega arith)) (later e (t.each i (omega arith)))))

  constant_keeps : {l : List NodeKind} (c : ℕ) → WellFormed (Low field) l → c < modulus field → Gives l (constant field.elements c) (new c 0)
  unfolding value_of Fine
  constant_keeps c w h = enter_keeps field.elements (element_laws field) given low-given (Constant (new c 0)) w (h, field.zero_second)

  -- Horner's rule
  horner_turn_keeps : {l : List NodeKind} {point : ℕ} {v : QuadFelt} {cs : List ℕ} {n : ℕ} {g : ℕ → QuadFelt} (i acc : ℕ) (u : QuadFelt)
      → i < n → WellFormed (Low field) l → Is field.elements given l point v → Are field.elements given l cs n g → Is field.elements given l acc u
      → Gives l (Periodic.horner_turn field.elements point cs n i acc) (field.elements.add (g (n - (i + 1))) (field.elements.mul v u))
  unfolding Periodic.horner_turn
  horner_turn_keeps i acc u h w s t r = keeps_then (mul_keeps w s r) (λ k q w e p. add_keeps w (later e (t.each _ (omega arith))) p)

  horner_keeps : {l : List NodeKind} {point : ℕ} {v : QuadFelt} {cs : List ℕ} {n : ℕ} {g : ℕ → QuadFelt}
      → WellFormed (Low field) l → Is field.elements given l point v → Are field.elements given l cs n g → Gives l (Periodic.horner_eval field.elements point cs n) (horner_worth field.elements v g n)
  unfolding Periodic.horner_eval horner_worth
  horner_keeps {point = point} {v = v} {cs = cs} {n = n} {g = g} w s t =
      keeps_then (constant_keeps 0 w (omega arith))
      (λ k start w e r. keeps_folded (Periodic.horner_turn field.elements point cs n) (λ i u. field.elements.add (g (n - (i + 1))) (field.elements.mul v u)) n start w r
      (λ i h j acc u w d p. horner_turn_keeps i acc u h w (later d (later e s)) (all_later d (all_later e t)) p))

  constants_keeps : {l : List NodeKind} (f : ℕ → ℕ) (n : ℕ) → ((j : ℕ) → f j < modulus field) → WellFormed (Low field) l
      → Keeps (Low field) l (Periodic.constants field.elements f n) (λ k ps. Are field.elements given k ps n (λ j. new (f j) 0))
  unfolding Periodic.constants
  constants_keeps f n h w =
      keeps_turns (λ i k ps. Are field.elements given k ps i (λ j. new (f j) 0)) (λ j ks. also ks (constant field.elements (f j))) n [] w are_none
      (λ i g k ps w e r. keeps_also r (constant_keeps (f i) w (h i)))

  -- sparse terms
  sparse_turn_keeps : {l : List NodeKind} {power factor : ℕ} {z u : QuadFelt} (t : ℕ) → t < modulus field
      → WellFormed (Low field) l → Is field.elements given l power z → Is field.elements given l factor u
      → Gives l (Periodic.sparse_turn field.elements t power factor) (field.elements.mul u (field.elements.add (new 1 0) (field.elements.mul (new t 0) z)))
  unfolding Periodic.sparse_turn
  sparse_turn_keeps t h w s r =
      keeps_then (constant_keeps t w h)
      (λ k a w e p. keeps_then (mul_keeps w p (later e s))
      (λ k b w d q. keeps_then (constant_keeps 1 w field.large)
      (λ k one w g x. keeps_then (add_keeps w x (later g q))
      (λ k sum w f y. mul_keeps w (later f (later g (later d (later e r)))) y))))

  sparse_factor_keeps : {l : List NodeKind} {zpow : List ℕ} {c : ℕ} {z : ℕ → QuadFelt} (t : ℕ → ℕ) (n : ℕ)
      → ((i : ℕ) → t i < modulus field) → n ≤ c → WellFormed (Low field) l → Are field.elements given l zpow c z
      → Gives l (Periodic.sparse_factor field.elements zpow t n) (factor_worth field.elements z t n)
  unfolding Periodic.sparse_factor factor_worth
  sparse_factor_keeps {zpow = zpow} {z = z} t n h few w s =
      keeps_then (constant_keeps 1 w field.large)
      (λ k one w e r. keeps_folded (λ i factor. Periodic.sparse_turn field.elements (t i) (get_or zpow i 0) factor)
      (λ i u. field.elements.mul u (field.elements.add (new 1 0) (field.elements.mul (new (t i) 0) (z i)))) n one w r
      (λ i g j b u w d p. sparse_turn_keeps (t i) (h i) w (later d (later e (s.each i (omega arith)))) p))

  sparse_term_keeps : {l : List NodeKind} {zpow : List ℕ} {c : ℕ} {z : ℕ → QuadFelt} (t : ℕ → ℕ) (n x : ℕ)
      → ((i : ℕ) → t i < modulus field) → x < modulus field → n ≤ c → WellFormed (Low field) l → Are field.elements given l zpow c z
      → Gives l (Periodic.sparse_term field.elements zpow t n x) (term_worth field.elements z t n x)
  unfolding Periodic.sparse_term term_worth
  sparse_term_keeps t n x h g few w s =
      keeps_then (sparse_factor_keeps t n h few w s)
      (λ k a w e p. keeps_then (constant_keeps x w g) (λ k b w d q. mul_keeps w q (later d p)))

  module _ (t : ℕ → ℕ → ℕ) (n : ℕ) (x : ℕ → ℕ) (ht : (k i : ℕ) → t k i < modulus field) (hx : (k : ℕ) → x k < modulus field) where
    sum_turn_keeps : {l : List NodeKind} {zpow : List ℕ} {c : ℕ} {z : ℕ → QuadFelt} (k acc : ℕ) (u : QuadFelt)
        → n ≤ c → WellFormed (Low field) l → Are field.elements given l zpow c z → Is field.elements given l acc u
        → Gives l (Periodic.sum_turn field.elements zpow t n x k acc) (field.elements.add u (term_worth field.elements z (t (k + 1)) n (x (k + 1))))
    unfolding Periodic.sum_turn
    sum_turn_keeps k acc u few w s r =
        keeps_then (sparse_term_keeps (t (k + 1)) n (x (k + 1)) (ht (k + 1)) (hx (k + 1)) few w s) (λ j a w e p. add_keeps w (later e r) p)

    sparse_sum_keeps : {l : List NodeKind} {zpow : List ℕ} {c : ℕ} {z : ℕ → QuadFelt} (terms : ℕ)
        → n ≤ c → WellFormed (Low field) l → Are field.elements given l zpow c z
        → Gives l (Periodic.sparse_sum field.elements zpow t n x terms) (sum_worth field.elements z t n x terms)
    unfolding Periodic.sparse_sum sum_worth
    sparse_sum_keeps zero few w s = constant_keeps 0 w (omega arith)
    sparse_sum_keeps {zpow = zpow} {z = z} (suc terms) few w s =
        keeps_then (sparse_term_keeps (t 0) n (x 0) (ht 0) (hx 0) few w s)
        (λ j a w e p. keeps_folded (Periodic.sum_turn field.elements zpow t n x) (λ k u. field.elements.add u (term_worth field.elements z (t (k + 1)) n (x (k + 1)))) terms a w p
        (λ k h j acc u w d r. sum_turn_keeps k acc u few w (all_later d (all_later e s)) r))

  offset_below : (c : List ℕ) → all_below (modulus field) c ≡ true → offset (modulus field) c < modulus field
  unfolding offset dominant
  offset_below c entries =
      cond_elim (λ d. d < modulus field) (ltb (combination_cost (modulus field) c (dominant c)) (combination_cost (modulus field) c 0)) (dominant c) 0
      (λ _. below_heaviest (modulus field) c 0 (values c) (omega arith) (below_values (modulus field) c entries)) (λ _. omega arith)

  -- the numbers of a column
  module _ (c : List ℕ) where
    root_below : (k : ℕ) → root field c k < modulus field
    unfolding root
    root_below k = low_pow (coordinate_laws field) _ k

    size_below : size_inverse field c < modulus field
    unfolding size_inverse
    size_below = low_pow (coordinate_laws field) field.half _

    dense_below : (j : ℕ) → dense field c j < modulus field
    unfolding dense
    dense_below j = (coordinate_laws field).low_mul _ _

    scaled_below : (j : ℕ) → scaled_value field c j < modulus field
    unfolding scaled_value
    scaled_below j = (coordinate_laws field).low_mul _ _

    twiddle_below : (j i : ℕ) → twiddle field c j i < modulus field
    unfolding twiddle
    twiddle_below j i = low_pow (coordinate_laws field) _ _

    coefficient_below : (v : ℕ) → Periodic.coefficient field c v < modulus field
    unfolding Periodic.coefficient
    coefficient_below v = mod-lt _ (omega arith)

    -- sparse and dense
    sparse_keeps : {l : List NodeKind} (k : ℕ) → WellFormed (Low field) l
        → Gives l (Periodic.sparse_value field c k) (sparse_worth field c (squared field.elements (given ZK) k))
    unfolding Periodic.sparse_value sparse_worth
    sparse_keeps k w =
        keeps_then (z_power_keeps k w)
        (λ j z w e s. keeps_then (powers_keeps (log_length c) w s)
        (λ j zpow w e t. sparse_sum_keeps
        (λ i. twiddle field c (get_or (support c) i 0)) (log_length c) (λ i. scaled_value field c (get_or (support c) i 0))
        (λ i. twiddle_below (get_or (support c) i 0)) (λ i. scaled_below (get_or (support c) i 0)) (length (support c)) (omega arith) w t))

    dense_keeps : {l : List NodeKind} (k : ℕ) → WellFormed (Low field) l
        → Gives l (Periodic.dense_value field c k) (dense_worth field c (squared field.elements (given ZK) k))
    unfolding Periodic.dense_value dense_worth
    dense_keeps k w =
        keeps_then (z_power_keeps k w)
        (λ j z w e s. keeps_then (constants_keeps (dense field c) (length c) dense_below w)
        (λ j cs w d t. horner_keeps w (later d s) t))

    -- the basis
    factor_keeps : {l : List NodeKind} {point : ℕ} {z : QuadFelt} (k : ℕ) → WellFormed (Low field) l → Is field.elements given l point z
        → Gives l (Periodic.factor field c point k) (root_factor field c z k)
    unfolding Periodic.factor root_factor
    factor_keeps k w s = keeps_then (constant_keeps (root field c k) w (root_below k)) (λ j a w e r. sub_keeps w (later e s) r)

    factors_keeps : {l : List NodeKind} {point : ℕ} {z : QuadFelt} → WellFormed (Low field) l → Is field.elements given l point z
        → Keeps (Low field) l (Periodic.factors field c point) (λ k fs. Are field.elements given k fs (length c) (root_factor field c z))
    unfolding Periodic.factors
    factors_keeps {point = point} {z = z} w s =
        keeps_turns (λ i k fs. Are field.elements given k fs i (root_factor field c z)) (λ k fs. also fs (Periodic.factor field c point k))
        (length c) [] w are_none
        (λ i h k fs w e r. keeps_also r (factor_keeps i w (later e s)))

    -- over the products before and behind each row
    module _ (prefix suffix : List ℕ) (p q : ℕ → QuadFelt) where
      abbrev Sides : List NodeKind → Type 0
      Sides l = Are field.elements given l prefix (suc (length c - 1)) p × Are field.elements given l suffix (suc (length c - 1)) q

      sides_later : {l k : List NodeKind} → Extends l k → Sides l → Sides k
      sides_later e s = (all_later e s.0, all_later e s.1)

      element_keeps : {l : List NodeKind} (j : ℕ) → j < length c → WellFormed (Low field) l → Sides l
          → Gives l (Periodic.element field c prefix suffix j) (element_worth field c p q j)
      unfolding Periodic.element element_worth
      element_keeps j h w s =
          keeps_then (mul_keeps w (s.0.each j (omega arith)) (s.1.each (length c - 1 - j) (omega arith)))
          (λ k a w e r. keeps_then (constant_keeps (root field c j) w (root_below j)) (λ k b w d x. mul_keeps w x (later d r)))

      class_turn_keeps : {l : List NodeKind} (v j acc : ℕ) (u : QuadFelt) → j < length c → WellFormed (Low field) l → Sides l → Is field.elements given l acc u
          → Gives l (Periodic.class_turn field c prefix suffix v j acc) (cond (eqb (get_or c j 0) v) (field.elements.add u (element_worth field c p q j)) u)
      unfolding Periodic.class_turn
      class_turn_keeps v j acc u h w s r =
          keeps_cond (λ z k a. Is field.elements given k a z) (eqb (get_or c j 0) v) _ (done acc) (field.elements.add u (element_worth field c p q j)) u
          (keeps_then (element_keeps j h w s) (λ k a w e x. add_keeps w (later e r) x)) (keeps_done acc w r)

      class_keeps : {l : List NodeKind} (v : ℕ) → WellFormed (Low field) l → Sides l
          → Gives l (Periodic.class_sum field c prefix suffix v) (class_worth field c p q v)
      unfolding Periodic.class_sum class_worth
      class_keeps v w s =
          keeps_then (constant_keeps 0 w (omega arith))
          (λ k start w e r. keeps_folded (λ j acc. Periodic.class_turn field c prefix suffix v j acc)
          (λ j u. cond (eqb (get_or c j 0) v) (field.elements.add u (element_worth field c p q j)) u) (length c) start w r
          (λ j h k acc u w d x. class_turn_keeps v j acc u h w (sides_later d (sides_later e s)) x))

      add_class_keeps : {l : List NodeKind} {sum : ℕ} {u : QuadFelt} (v : ℕ) → WellFormed (Low field) l → Sides l → Is field.elements given l sum u
          → Gives l (Periodic.add_class field c prefix suffix v sum)
          (field.elements.add u (field.elements.mul (new (Periodic.coefficient field c v) 0) (class_worth field c p q v)))
      unfolding Periodic.add_class
      add_class_keeps v w s r =
          keeps_then (class_keeps v w s)
          (λ k a w e x. keeps_then (constant_keeps (Periodic.coefficient field c v) w (coefficient_below v))
          (λ k b w d y. keeps_then (mul_keeps w y (later d x))
          (λ k z w g n. add_keeps w (later g (later d (later e r))) n)))

      sub_class_keeps : {l : List NodeKind} {sum : ℕ} {u : QuadFelt} (v : ℕ) → WellFormed (Low field) l → Sides l → Is field.elements given l sum u
          → Gives l (Periodic.sub_class field c prefix suffix v sum) (field.elements.sub u (class_worth field c p q v))
      unfolding Periodic.sub_class
      sub_class_keeps v w s r = keeps_then (class_keeps v w s) (λ k a w e x. sub_keeps w (later e r) x)

      add_turn_keeps : {l : List NodeKind} (v sum : ℕ) (u : QuadFelt) → WellFormed (Low field) l → Sides l → Is field.elements given l sum u
          → Gives l (Periodic.term_turn field c false prefix suffix v sum) (added_worth field c p q v u)
      unfolding Periodic.term_turn added_worth
      add_turn_keeps v sum u w s r =
          keeps_cond (λ z k a. Is field.elements given k a z) (Periodic.is_added field c v)
          (Periodic.add_class field c prefix suffix v sum) (done sum) _ u
          (add_class_keeps v w s r) (keeps_done sum w r)

      sub_turn_keeps : {l : List NodeKind} (v sum : ℕ) (u : QuadFelt) → WellFormed (Low field) l → Sides l → Is field.elements given l sum u
          → Gives l (Periodic.term_turn field c true prefix suffix v sum) (subtracted_worth field c p q v u)
      unfolding Periodic.term_turn subtracted_worth
      sub_turn_keeps v sum u w s r =
          keeps_cond (λ z k a. Is field.elements given k a z) (Periodic.is_subtracted field c v)
          (Periodic.sub_class field c prefix suffix v sum) (done sum) _ u
          (sub_class_keeps v w s r) (keeps_done sum w r)

      -- all classes
      add_classes_keeps : {l : List NodeKind} {sum : ℕ} {u : QuadFelt} → WellFormed (Low field) l → Sides l → Is field.elements given l sum u
          → Gives l (Periodic.all_terms field c false prefix suffix sum)
          (folded (λ k u. added_worth field c p q (get_or (values c) k 0) u) (length (values c)) u)
      unfolding Periodic.all_terms
      add_classes_keeps {sum = sum} w s r =
          keeps_folded (λ k sum. Periodic.term_turn field c false prefix suffix (get_or (values c) k 0) sum)
          (λ k u. added_worth field c p q (get_or (values c) k 0) u) (length (values c)) sum w r
          (λ i h k b u w e x. add_turn_keeps (get_or (values c) i 0) b u w (sides_later e s) x)

      sub_classes_keeps : {l : List NodeKind} {sum : ℕ} {u : QuadFelt} → WellFormed (Low field) l → Sides l → Is field.elements given l sum u
          → Gives l (Periodic.all_terms field c true prefix suffix sum)
          (folded (λ k u. subtracted_worth field c p q (get_or (values c) k 0) u) (length (values c)) u)
      unfolding Periodic.all_terms
      sub_classes_keeps {sum = sum} w s r =
          keeps_folded (λ k sum. Periodic.term_turn field c true prefix suffix (get_or (values c) k 0) sum)
          (λ k u. subtracted_worth field c p q (get_or (values c) k 0) u) (length (values c)) sum w r
          (λ i h k b u w e x. sub_turn_keeps (get_or (values c) i 0) b u w (sides_later e s) x)

      basis_sum_keeps : {l : List NodeKind} → all_below (modulus field) c ≡ true → WellFormed (Low field) l → Sides l
          → Gives l (Periodic.basis_sum field c prefix suffix) (combined_worth field c p q)
      unfolding Periodic.basis_sum combined_worth
      basis_sum_keeps entries w s =
          keeps_then (constant_keeps (offset (modulus field) c) w (offset_below c entries))
          (λ k start w e r. keeps_then (add_classes_keeps w (sides_later e s) r)
          (λ k sum w d x. sub_classes_keeps w (sides_later d (sides_later e s)) x))

    module _ (entries : all_below (modulus field) c ≡ true) where
      basis_back_keeps : {l : List NodeKind} {fs prefix : List ℕ} {f p : ℕ → QuadFelt}
          → WellFormed (Low field) l → Are field.elements given l fs (length c) f → Are field.elements given l prefix (suc (length c - 1)) p
          → Gives l (Periodic.basis_back field c fs prefix) (combined_worth field c p (chained field.elements (new 1 0) (λ i. f (length c - (i + 1)))))
      unfolding Periodic.basis_back
      basis_back_keeps w s t =
          keeps_then (constant_keeps 1 w field.large)
          (λ k one w e r. keeps_then (chain_keeps (length c - 1) (omega arith) w r (are_backwards (all_later e s)))
          (λ k suffix w d x. basis_sum_keeps _ suffix _ _ entries w (all_later d (all_later e t), x)))

      basis_front_keeps : {l : List NodeKind} {point : ℕ} {z : QuadFelt} → WellFormed (Low field) l → Is field.elements given l point z
          → Gives l (Periodic.basis_front field c point) (basis_worth field c z)
      unfolding Periodic.basis_front basis_worth
      basis_front_keeps w s =
          keeps_then (factors_keeps w s)
          (λ k fs w e r. keeps_then (constant_keeps (size_inverse field c) w size_below)
          (λ k scale w d x. keeps_then (chain_keeps (length c - 1) (omega arith) w x (all_later d r))
          (λ k prefix w g y. basis_back_keeps w (all_later g (all_later d r)) y)))

      basis_keeps : {l : List NodeKind} (k : ℕ) → WellFormed (Low field) l
          → Gives l (Periodic.basis_value field c k) (basis_worth field c (squared field.elements (given ZK) k))
      unfolding Periodic.basis_value
      basis_keeps k w = keeps_then (z_power_keeps k w) (λ j z w e s. basis_front_keeps w s)

      column_keeps : {l : List NodeKind} (f : Form) (k : ℕ) → WellFormed (Low field) l
          → Gives l (Periodic.column_value field c f k) (column_worth field c f (squared field.elements (given ZK) k))
      unfolding Periodic.column_value column_worth
      column_keeps Sparse k w = sparse_keeps k w
      column_keeps Dense k w = dense_keeps k w
      column_keeps Basis k w = basis_keeps k w

  module _ (cs : List (List ℕ)) (S : ℕ) where
    node_keeps : {l : List NodeKind} (j : ℕ) → all_below (modulus field) (column cs j) ≡ true → WellFormed (Low field) l
        → Gives l (Periodic.column_node field cs S j) (node_worth field cs S (given ZK) j)
    unfolding Periodic.column_node node_worth
    node_keeps j entries w = column_keeps (column cs j) entries (form (modulus field) cs j) (S - log_length (column cs j)) w

    -- the nodes of all columns, one for each
    pub nodes_keep : {l : List NodeKind} → ((j : ℕ) → j < length cs → all_below (modulus field) (column cs j) ≡ true) → WellFormed (Low field) l
        → Keeps (Low field) l (Periodic.build_periodic_nodes field cs S) (λ k ps. Are field.elements given k ps (length cs) (node_worth field cs S (given ZK)))
    unfolding Periodic.build_periodic_nodes
    nodes_keep entries w =
        keeps_turns (λ i k ps. Are field.elements given k ps i (node_worth field cs S (given ZK))) (λ j ps. also ps (Periodic.column_node field cs S j))
        (length cs) [] w are_none
        (λ i h k ps w e r. keeps_also r (node_keeps i (entries i h) w))
