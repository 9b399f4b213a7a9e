-- The constants of a list's circuit: each once, all that are used and nothing else, in order of first use.
use Rattle.std.specs.Prelude.{ℕ, zero, suc, ◌<◌, Option, Some, None, List, [], ◌∷◌, ◌++◌, ◌≡◌, ◌⊎◌, refl, length}
use Rattle.std.proofs.Common.{sym, ◌∙◌, ap, inl, inr, arith}
use Rattle.ring.specs.Ring.{Ops}
use Rattle.field.specs.declared.QuadFelt.{QuadFelt}
use Rattle.dag.specs.Nodes.{at}
use Rattle.dag.specs.NodeLaws.{at_left, at_last, length_snoc}
use Rattle.dag.specs.CaseLaws.{below_suc_elim}
use Rattle.dag.specs.LookupLaws.{lookup_at, lookup_missing}
use Rattle.dag.specs.declared.NodeKind.{NodeKind}
use Rattle.dag.specs.declared.NodeKind.TheVariants.{Input, Constant, Add, Sub, Mul, Neg}
use Rattle.builder.specs.Steps.{element, intern}
use Rattle.builder.specs.RuleLaws.{constant_is}
use Rattle.circuit.specs.Circuit.{used, with_used, constants}
use Rattle.circuit.specs.CircuitLaws.{found, intern_stands, intern_old, intern_new, lookup_kept, used_found, constants_all, constants_are}

-- every record is found where it stands
abbrev Apart : List NodeKind → Type 0
Apart cs = (i : ℕ) → i < length cs → found cs (at cs i) ≡ Some i

-- it stays so when a record is interned
apart_intern : (cs : List NodeKind) (y : NodeKind) → Apart cs → Apart (intern cs y).list
apart_intern cs y apart = go (found cs y) refl
  where
    go : (f : Option ℕ) → found cs y ≡ f → Apart (intern cs y).list
    go (Some j) e = rw (intern_old cs y j e) apart
    go None e =
        let grown : (intern cs y).list ≡ cs ++ (y ∷ []) = ap (λ b. b.list) (intern_new cs y e) in
        let longer : length (intern cs y).list ≡ suc (length cs) = ap length grown ∙ length_snoc cs y in
        let last : at (intern cs y).list (length cs) ≡ y = ap (λ l. at l (length cs)) grown ∙ at_last cs y in
        λ i h.
        below_suc_elim (λ i. found (intern cs y).list (at (intern cs y).list i) ≡ Some i) (length cs)
        (λ i k. let same : at (intern cs y).list i ≡ at cs i = ap (λ l. at l i) grown ∙ at_left cs (y ∷ []) i k in rw same (lookup_kept cs y (at cs i) i (apart i k)))
        (rw last (intern_stands cs y ∙ ap (λ b. Some b.place) (intern_new cs y e)))
        i (rw longer at h)

module _ (F : Ops QuadFelt) where
  apart_used : (cs : List NodeKind) (u : Option QuadFelt) → Apart cs → Apart (with_used F cs u)
  apart_used cs (Some c) apart = apart_intern cs (Constant c) apart
  apart_used cs None apart = apart

  module _ (l : List NodeKind) where
    apart : (n : ℕ) → Apart (constants F l n)
    unfolding constants
    apart zero i h = absurd (omega arith)
    apart (suc n) i h = apart_used (constants F l n) (used F (at l n)) (apart n) i h

    -- a constant and the element that it stands for
    constant_lem : (n i : ℕ) → i < length (constants F l n) → at (constants F l n) i ≡ Constant (element (at (constants F l n) i))
    constant_lem n i h = constant_is (at (constants F l n) i) (constants_are F l n i h)

    -- each element once
    pub once : (n i j : ℕ) → i < length (constants F l n) → j < length (constants F l n) → element (at (constants F l n) i) ≡ element (at (constants F l n) j) → i ≡ j
    once n i j h k e =
        let same : at (constants F l n) i ≡ at (constants F l n) j = constant_lem n i h ∙ (ap Constant e ∙ sym (constant_lem n j k)) in
        let both : ◌≡◌ {A = Option ℕ} (Some i) (Some j) = sym (apart n i h) ∙ (ap (found (constants F l n)) same ∙ apart n j k) in
        cc

    -- what a record uses stands among them
    pub stands : (n i : ℕ) (c : QuadFelt) → i < n → used F (at l i) ≡ Some c → (j : ℕ) × (j < length (constants F l n)) × (at (constants F l n) j ≡ Constant c)
    stands n i c h e =
        let at_place = lookup_at (constants F l n) (Constant c) (length (constants F l n)) (intern (constants F l i) (Constant c)).place (used_found F l i n c h e) in
        ((intern (constants F l i) (Constant c)).place, at_place.0, at_place.1)

    -- so every constant of the list does, reachable or not
    pub constant_stands : (n i : ℕ) (c : QuadFelt) → i < n → at l i ≡ Constant c → (j : ℕ) × (j < length (constants F l n)) × (at (constants F l n) j ≡ Constant c)
    constant_stands n i c h e = stands n i c h (rw e refl)

    -- and zero, where the list has a Neg
    pub zero_stands : (n i a : ℕ) → i < n → at l i ≡ Neg a → (j : ℕ) × (j < length (constants F l n)) × (at (constants F l n) j ≡ Constant F.zero)
    zero_stands n i a h e = stands n i F.zero h (rw e refl)

    -- a record uses the constant x, or it is a Neg and x is zero
    abbrev pub Uses : NodeKind → NodeKind → Type 0
    Uses y x = (y ≡ x) ⊎ ((a : ℕ) × (y ≡ Neg a) × (x ≡ Constant F.zero))

    -- what is used is used so
    uses : (y : NodeKind) (c : QuadFelt) → used F y ≡ Some c → Uses y (Constant c)
    uses (Input k) c e = absurd cc
    uses (Constant d) c e = inl (let q : d ≡ c = cc in ap Constant q)
    uses (Add a b) c e = absurd cc
    uses (Sub a b) c e = absurd cc
    uses (Mul a b) c e = absurd cc
    uses (Neg a) c e = inr (a, refl, let q : F.zero ≡ c = cc in ap Constant (sym q))

    -- nothing else stands among them
    pub nothing_else : (n j : ℕ) → j < length (constants F l n) → (i : ℕ) × (i < n) × Uses (at l i) (at (constants F l n) j)
    nothing_else n j h = constants_all F l (λ x. (i : ℕ) × (i < n) × Uses (at l i) x) n (λ i c k e. (i, k, uses (at l i) c e)) j h

    -- in order of first use: a record that uses none leaves them
    pub no_use : (n : ℕ) → used F (at l n) ≡ None → constants F l (suc n) ≡ constants F l n
    unfolding constants
    no_use n e = rw e refl

    -- one that uses what an earlier one did leaves them too
    pub later_use : (n i : ℕ) (c : QuadFelt) → i < n → used F (at l i) ≡ Some c → used F (at l n) ≡ Some c → constants F l (suc n) ≡ constants F l n
    unfolding constants
    later_use n i c h e f = rw f (ap (λ b. b.list) (intern_old (constants F l n) (Constant c) (intern (constants F l i) (Constant c)).place (used_found F l i n c h e)))

    -- the first that uses it appends it
    pub first_use : (n : ℕ) (c : QuadFelt) → used F (at l n) ≡ Some c → ((i : ℕ) → i < n → used F (at l i) ≡ Some c → ⊥) → constants F l (suc n) ≡ constants F l n ++ (Constant c ∷ [])
    unfolding constants
    first_use n c e none =
        let missing = (lookup_missing (constants F l n) (Constant c) (length (constants F l n))).1
        (λ j _ h q. constants_all F l (λ x. x ≡ Constant c → ⊥) n (λ i d k f same. none i k (rw f (let r : d ≡ c = cc in ap Some r))) j h q) in
        rw e (ap (λ b. b.list) (intern_new (constants F l n) (Constant c) missing))
