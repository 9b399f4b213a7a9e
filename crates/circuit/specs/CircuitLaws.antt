-- How many constants and operations a list has, and that each constant keeps the place that it got.
use Rattle.std.specs.Prelude.{ℕ, zero, suc, ◌+◌, ◌-◌, ◌<◌, ◌≤◌, Bool, true, false, cond, Option, Some, None, is_some, List, [], ◌∷◌, ◌++◌, ◌≡◌, refl, length, get_or}
use Rattle.std.proofs.Common.{sym, ◌∙◌, ap, arith, length-append}
use Rattle.std.proofs.Math.ListN.{get_or-append}
use Rattle.std.proofs.lemmas.List.{get_or_at}
use Rattle.ring.specs.Ring.{Ops}
use Rattle.field.specs.declared.QuadFelt.{QuadFelt}
use Rattle.dag.specs.Nodes.{at, same_node}
use Rattle.dag.specs.NodeLaws.{at_left, at_last, length_snoc, same_node_true, same_node_refl}
use Rattle.dag.specs.CaseLaws.{below_suc_elim}
use Rattle.dag.specs.Lookup.{greatest, lookup}
use Rattle.dag.specs.SearchLaws.{greatest_same}
use Rattle.dag.specs.WellFormed.{Fine, WellFormed}
use Rattle.dag.specs.declared.NodeKind.{NodeKind}
use Rattle.dag.specs.declared.NodeKind.TheVariants.{Input, Constant, Add, Sub, Mul, Neg}
use Rattle.builder.specs.Steps.{is_constant, element, interned, intern}
use Rattle.circuit.specs.declared.AceNode.TheVariants as Node
use Rattle.circuit.specs.declared.AceOpNode.{AceOpNode}
use Rattle.circuit.specs.Circuit.{is_operation, operation_count, used, with_used, constants, constants_of, constant_node, node_of, node, operation_of, operations}

-- the lookup of a record in a list
abbrev pub found : List NodeKind → NodeKind → Option ℕ
found cs x = lookup cs x (length cs)

-- one record more
module _ (cs : List NodeKind) (y : NodeKind) where
  -- what the lookup answers then
  found_snoc : (x : NodeKind) → found (cs ++ (y ∷ [])) x ≡ cond (same_node y x) (Some (length cs)) (found cs x)
  unfolding greatest
  found_snoc x =
      rw (length_snoc cs y, greatest, at_last cs y)
      (ap (λ f. cond (same_node y x) (Some (length cs)) f)
      (greatest_same (λ i. same_node (at (cs ++ (y ∷ [])) i) x) (λ i. same_node (at cs i) x) (length cs) (λ i h. ap (λ z. same_node z x) (at_left cs (y ∷ []) i h))))

  -- a record that is interned stands at its place
  interned_found : (f : Option ℕ) → found cs y ≡ f → found (interned cs y f).list y ≡ Some (interned cs y f).place
  unfolding interned
  interned_found (Some i) e = e
  interned_found None e = rw (found_snoc y, same_node_refl y)

  -- so what is interned is found at its place
  pub intern_stands : found (intern cs y).list y ≡ Some (intern cs y).place
  unfolding intern
  intern_stands = interned_found (found cs y) refl

  -- a record that stands in the list changes nothing, any other is appended
  pub intern_old : (i : ℕ) → found cs y ≡ Some i → intern cs y ≡ record { list = cs; place = i }
  unfolding intern interned
  intern_old i e = rw e refl

  pub intern_new : found cs y ≡ None → intern cs y ≡ record { list = cs ++ (y ∷ []); place = length cs }
  unfolding intern interned
  intern_new e = rw e refl

  -- what stood in the list keeps its place
  interned_kept : (x : NodeKind) (i : ℕ) (f : Option ℕ) → found cs y ≡ f → found cs x ≡ Some i → found (interned cs y f).list x ≡ Some i
  unfolding interned
  interned_kept x i (Some j) e h = h
  interned_kept x i None e h = go (same_node y x) refl
    where
      go : (t : Bool) → same_node y x ≡ t → found (cs ++ (y ∷ [])) x ≡ Some i
      go true q = let z : ◌≡◌ {A = Option ℕ} None (Some i) = sym e ∙ (ap (found cs) (same_node_true y x q) ∙ h) in absurd cc
      go false q = rw (found_snoc x, q) h

  -- so what was found is found there still
  pub lookup_kept : (x : NodeKind) (i : ℕ) → found cs x ≡ Some i → found (intern cs y).list x ≡ Some i
  unfolding intern
  lookup_kept x i h = interned_kept x i (found cs y) refl h

  -- what all have, all have with one more that has it
  interned_all : (P : NodeKind → Type 0) (f : Option ℕ) → ((i : ℕ) → i < length cs → P (at cs i)) → P y → (i : ℕ) → i < length (interned cs y f).list → P (at (interned cs y f).list i)
  unfolding interned
  interned_all P (Some j) all one i h = all i h
  interned_all P None all one i h =
      below_suc_elim (λ i. P (at (cs ++ (y ∷ [])) i)) (length cs)
      (λ i k. rw (at_left cs (y ∷ []) i k) (all i k))
      (rw (at_last cs y) one)
      i (rw (length_snoc cs y) at h)

  -- so the list with one more has it throughout
  pub intern_all : (P : NodeKind → Type 0) → ((i : ℕ) → i < length cs → P (at cs i)) → P y → (i : ℕ) → i < length (intern cs y).list → P (at (intern cs y).list i)
  unfolding intern
  intern_all P all one i h = interned_all P (found cs y) all one i h

  -- it grows by one at most
  interned_few : (f : Option ℕ) → (length cs ≤ length (interned cs y f).list) × (length (interned cs y f).list ≤ suc (length cs))
  unfolding interned
  interned_few (Some i) = omega arith
  interned_few None = omega (arith, length_snoc cs y)

  -- so does the list with one more
  pub intern_few : (length cs ≤ length (intern cs y).list) × (length (intern cs y).list ≤ suc (length cs))
  unfolding intern
  intern_few = interned_few (found cs y)

-- a record is one operation at most
is_operation_few : (x : NodeKind) → cond (is_operation x) 1 0 ≤ 1
unfolding is_operation
is_operation_few (Input k) = omega arith
is_operation_few (Constant c) = omega arith
is_operation_few (Add a b) = omega arith
is_operation_few (Sub a b) = omega arith
is_operation_few (Mul a b) = omega arith
is_operation_few (Neg a) = omega arith

module _ (l : List NodeKind) where
  -- no more operations than records
  pub operation_count_few : (n : ℕ) → operation_count l n ≤ n
  unfolding operation_count
  operation_count_few zero = omega arith
  operation_count_few (suc n) = omega (arith, operation_count_few n, is_operation_few (at l n))

  -- where operands come earlier the first record is none
  first_no_operation : (Low : QuadFelt → Type 0) (x : NodeKind) → Fine Low 0 x → cond (is_operation x) 1 0 ≤ 0
  unfolding Fine is_operation
  first_no_operation Low (Input k) f = omega arith
  first_no_operation Low (Constant c) f = omega arith
  first_no_operation Low (Add a b) f = absurd (omega (arith, f.0))
  first_no_operation Low (Sub a b) f = absurd (omega (arith, f.0))
  first_no_operation Low (Mul a b) f = absurd (omega (arith, f.0))
  first_no_operation Low (Neg a) f = absurd (omega (arith, f))

  -- so there are fewer than records
  pub operation_count_fewer : (Low : QuadFelt → Type 0) → WellFormed Low l → (n : ℕ) → operation_count l n ≤ n - 1
  unfolding operation_count WellFormed
  operation_count_fewer Low w zero = omega arith
  operation_count_fewer Low w (suc zero) = omega (arith, first_no_operation Low (at l 0) (w 0))
  operation_count_fewer Low w (suc (suc n)) = omega (arith, operation_count_fewer Low w (suc n), is_operation_few (at l (suc n)))

  -- more records have no fewer operations
  pub operation_count_mono : (n m : ℕ) → n ≤ m → operation_count l n ≤ operation_count l m
  unfolding operation_count
  operation_count_mono n zero h = let e : n ≡ 0 = omega arith in rw e (omega arith)
  operation_count_mono n (suc m) h =
      below_suc_elim (λ n. operation_count l n ≤ operation_count l (suc m)) (suc m)
      (λ n k. omega (arith, operation_count_mono n m (omega arith)))
      (omega arith)
      n (omega arith)

  count_suc : (n : ℕ) → operation_count l (suc n) ≡ operation_count l n + cond (is_operation (at l n)) 1 0
  unfolding operation_count
  count_suc n = refl

  -- an operation is counted behind its place
  pub operation_count_next : (n : ℕ) → is_operation (at l n) ≡ true → operation_count l (suc n) ≡ suc (operation_count l n)
  unfolding operation_count
  operation_count_next n e = rw e (omega arith)

  -- so it is before what all the operations are
  pub operation_count_below : (i n : ℕ) → i < n → is_operation (at l i) ≡ true → operation_count l i < operation_count l n
  operation_count_below i n h e = omega (arith, operation_count_next i e, operation_count_mono (suc i) n h)

module _ (F : Ops QuadFelt) (find : ℕ → Option ℕ) (l : List NodeKind) where
  -- a record has an operation where it is one
  one_operation : (x : NodeKind) → length (operation_of F find l x) ≡ cond (is_operation x) 1 0
  unfolding operation_of is_operation
  one_operation (Input k) = refl
  one_operation (Constant c) = refl
  one_operation (Add a b) = refl
  one_operation (Sub a b) = refl
  one_operation (Mul a b) = refl
  one_operation (Neg a) = refl

  -- the operations are as many as are counted
  pub length_operations : (n : ℕ) → length (operations F find l n) ≡ operation_count l n
  unfolding operations operation_count
  length_operations zero = refl
  length_operations (suc n) = omega (arith, length-append (operations F find l n) (operation_of F find l (at l n)), length_operations n, one_operation (at l n))

  -- the operation of a record stands behind those of the records before
  pub operation_at : (i m : ℕ) (o d : AceOpNode) → i < m → operation_of F find l (at l i) ≡ o ∷ [] → get_or (operations F find l m) (operation_count l i) d ≡ o
  unfolding operations
  operation_at i zero o d h e = absurd (omega arith)
  operation_at i (suc m) o d h e =
      below_suc_elim (λ i. operation_of F find l (at l i) ≡ o ∷ [] → get_or (operations F find l (suc m)) (operation_count l i) d ≡ o) m
      (λ i k e.
      let one : 1 ≡ cond (is_operation (at l i)) 1 0 = ap length (sym e) ∙ one_operation (at l i) in
      get_or-append (operations F find l m) (operation_of F find l (at l m)) d (operation_count l i) (omega (arith, length_operations m, count_suc l i, operation_count_mono l (suc i) m k))
      ∙ operation_at i m o d k e)
      (λ e. rw e (get_or_at (operations F find l m) o [] d (operation_count l m) (length_operations m)))
      i h e

  -- an operation's node is its operation
  node_of_operation : (i : ℕ) (x : NodeKind) → is_operation x ≡ true → node_of F find l i x ≡ Node.Operation (operation_count l i)
  unfolding is_operation
  node_of_operation i (Input k) e = absurd cc
  node_of_operation i (Constant c) e = absurd cc
  node_of_operation i (Add a b) e = refl
  node_of_operation i (Sub a b) e = refl
  node_of_operation i (Mul a b) e = refl
  node_of_operation i (Neg a) e = refl

  pub node_operation : (i : ℕ) → is_operation (at l i) ≡ true → node F find l i ≡ Node.Operation (operation_count l i)
  unfolding node
  node_operation i e = node_of_operation i (at l i) e

  -- and only an operation's is one
  operation_node_of : (i k : ℕ) (x : NodeKind) → node_of F find l i x ≡ Node.Operation k → is_operation x ≡ true
  unfolding is_operation constant_node
  operation_node_of i k (Input n) e = absurd cc
  operation_node_of i k (Constant c) e = absurd cc
  operation_node_of i k (Add a b) e = refl
  operation_node_of i k (Sub a b) e = refl
  operation_node_of i k (Mul a b) e = refl
  operation_node_of i k (Neg a) e = refl

  pub operation_node : (i k : ℕ) → node F find l i ≡ Node.Operation k → is_operation (at l i) ≡ true
  unfolding node
  operation_node i k e = operation_node_of i k (at l i) e

module _ (F : Ops QuadFelt) where
  -- the constants with one more that is used: one more at most, those before keep their places, and what all have
  used_few : (cs : List NodeKind) (u : Option QuadFelt) → length (with_used F cs u) ≤ suc (length cs)
  used_few cs (Some c) = (intern_few cs (Constant c)).1
  used_few cs None = omega arith

  used_kept : (cs : List NodeKind) (u : Option QuadFelt) (x : NodeKind) (i : ℕ) → found cs x ≡ Some i → found (with_used F cs u) x ≡ Some i
  used_kept cs (Some c) x i h = lookup_kept cs (Constant c) x i h
  used_kept cs None x i h = h

  used_all : (P : NodeKind → Type 0) (cs : List NodeKind) (u : Option QuadFelt) → ((i : ℕ) → i < length cs → P (at cs i)) → ((c : QuadFelt) → u ≡ Some c → P (Constant c))
      → (i : ℕ) → i < length (with_used F cs u) → P (at (with_used F cs u) i)
  used_all P cs (Some c) all one i h = intern_all cs (Constant c) P all (one c refl) i h
  used_all P cs None all one i h = all i h

  -- 1 where the constants lack zero
  unfoldable missing : Option ℕ → ℕ
  missing f = cond (is_some f) 0 1

  missing_few : (f : Option ℕ) → missing f ≤ 1
  unfolding missing
  missing_few (Some i) = omega arith
  missing_few None = omega arith

  -- a constant that is used never makes zero missing
  missing_kept : (cs : List NodeKind) (u : Option QuadFelt) (f : Option ℕ) → found cs (Constant F.zero) ≡ f → missing (found (with_used F cs u) (Constant F.zero)) ≤ missing f
  unfolding missing
  missing_kept cs u (Some i) e = rw (used_kept cs u (Constant F.zero) i e) (omega arith)
  missing_kept cs u None e = missing_few (found (with_used F cs u) (Constant F.zero))

  -- zero that is used is one constant more only where it was missing
  zero_used : (cs : List NodeKind) (f : Option ℕ) → found cs (Constant F.zero) ≡ f
      → length (with_used F cs (Some F.zero)) + missing (found (with_used F cs (Some F.zero)) (Constant F.zero)) ≡ length cs + missing f
  unfolding missing
  zero_used cs (Some i) e =
      let same : length (with_used F cs (Some F.zero)) ≡ length cs = ap (λ b. length b.list) (intern_old cs (Constant F.zero) i e) in
      rw (used_kept cs (Some F.zero) (Constant F.zero) i e) (omega (arith, same))
  zero_used cs None e =
      let grown : length (with_used F cs (Some F.zero)) ≡ suc (length cs) = ap (λ b. length b.list) (intern_new cs (Constant F.zero) e) ∙ length_snoc cs (Constant F.zero) in
      rw (intern_stands cs (Constant F.zero)) (omega (arith, grown))

  -- a record brings an operation or a constant of its own; a Neg both, if zero is to come
  record_brings : (cs : List NodeKind) (x : NodeKind)
      → length (with_used F cs (used F x)) + cond (is_operation x) 1 0 + missing (found (with_used F cs (used F x)) (Constant F.zero)) ≤ suc (length cs + missing (found cs (Constant F.zero)))
  unfolding is_operation
  record_brings cs (Input k) = omega arith
  record_brings cs (Constant c) = omega (arith, used_few cs (Some c), missing_kept cs (Some c) (found cs (Constant F.zero)) refl)
  record_brings cs (Add a b) = omega arith
  record_brings cs (Sub a b) = omega arith
  record_brings cs (Mul a b) = omega arith
  record_brings cs (Neg a) = omega (arith, zero_used cs (found cs (Constant F.zero)) refl)

  module _ (l : List NodeKind) where
    -- no more constants than records
    pub constants_few : (n : ℕ) → length (constants F l n) ≤ n
    unfolding constants
    constants_few zero = omega arith
    constants_few (suc n) = omega (arith, used_few (constants F l n) (used F (at l n)), constants_few n)

    -- no more constants and operations together than records, while zero is missing
    few_with_zero : (n : ℕ) → length (constants F l n) + operation_count l n + missing (found (constants F l n) (Constant F.zero)) ≤ n + 1
    unfolding constants operation_count
    few_with_zero zero = omega (arith, missing_few (found [] (Constant F.zero)))
    few_with_zero (suc n) = omega (arith, few_with_zero n, record_brings (constants F l n) (at l n))

    -- so one more together at most
    pub constants_operations_few : (n : ℕ) → length (constants F l n) + operation_count l n ≤ n + 1
    constants_operations_few n = omega (arith, few_with_zero n)

    -- a constant keeps its place
    pub constants_kept : (x : NodeKind) (i n m : ℕ) → n ≤ m → found (constants F l n) x ≡ Some i → found (constants F l m) x ≡ Some i
    unfolding constants
    constants_kept x i n zero h e = let q : n ≡ 0 = omega arith in rw q at e
    constants_kept x i n (suc m) h e =
        below_suc_elim (λ n. found (constants F l n) x ≡ Some i → found (constants F l (suc m)) x ≡ Some i) (suc m)
        (λ n k e. used_kept (constants F l m) (used F (at l m)) x i (constants_kept x i n m (omega arith) e))
        (λ e. e)
        n (omega arith) e

    -- the constant that record i uses is found where it was put
    pub used_found : (i n : ℕ) (c : QuadFelt) → i < n → used F (at l i) ≡ Some c → found (constants F l n) (Constant c) ≡ Some (intern (constants F l i) (Constant c)).place
    unfolding constants
    used_found i n c h e = constants_kept (Constant c) (intern (constants F l i) (Constant c)).place (suc i) n h (rw e (intern_stands (constants F l i) (Constant c)))

    -- what all constants that the first n records use have, all constants have
    pub constants_all : (P : NodeKind → Type 0) (n : ℕ) → ((i : ℕ) (c : QuadFelt) → i < n → used F (at l i) ≡ Some c → P (Constant c))
        → (j : ℕ) → j < length (constants F l n) → P (at (constants F l n) j)
    unfolding constants
    constants_all P zero all j h = absurd (omega arith)
    constants_all P (suc n) all j h =
        used_all P (constants F l n) (used F (at l n)) (constants_all P n (λ i c k e. all i c (omega arith) e)) (λ c e. all n c (omega arith) e) j h

    -- all of them are constants
    pub constants_are : (n j : ℕ) → j < length (constants F l n) → is_constant (at (constants F l n) j) ≡ true
    unfolding is_constant
    constants_are n j h = constants_all (λ x. is_constant x ≡ true) n (λ i c k e. refl) j h

    -- in lowest form if those of the list and zero are
    module _ (Low : QuadFelt → Type 0) (low_zero : Low F.zero) where
      used_low : (n : ℕ) (x : NodeKind) (c : QuadFelt) → Fine Low n x → used F x ≡ Some c → Low c
      unfolding Fine
      used_low n (Input k) c f e = absurd cc
      used_low n (Constant d) c f e = let q : d ≡ c = cc in rw (← q) f
      used_low n (Add a b) c f e = absurd cc
      used_low n (Sub a b) c f e = absurd cc
      used_low n (Mul a b) c f e = absurd cc
      used_low n (Neg a) c f e = let q : F.zero ≡ c = cc in rw (← q) low_zero

      -- then each of them is
      pub constants_low : WellFormed Low l → (n j : ℕ) → j < length (constants F l n) → Low (element (at (constants F l n) j))
      unfolding element WellFormed
      constants_low w n j h = constants_all (λ x. Low (element x)) n (λ i c k e. used_low i (at l i) c (w i) e) j h

    -- the circuit's node of a constant that record i uses
    module _ (find : ℕ → Option ℕ) (i : ℕ) (c : QuadFelt) (h : i < length l) (e : used F (at l i) ≡ Some c) where
      pub found_constant : found (constants_of F find l) (Constant c) ≡ Some (intern (constants F l i) (Constant c)).place
      unfolding constants_of
      found_constant = used_found i (length l) c h e

      -- so its number is the place that it got at record i
      pub constant_node_place : constant_node F find l c ≡ Node.Constant (intern (constants F l i) (Constant c)).place
      unfolding constant_node
      constant_node_place = rw found_constant
