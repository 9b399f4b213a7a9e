-- Records and their words, and the places of a list.
use Rattle.std.specs.Prelude.{ℕ, zero, suc, ◌<◌, ◌≤◌, true, ◌&&◌, List, [], ◌∷◌, ◌++◌, ◌≡◌, refl, eqb, get_or, length}
use Rattle.std.proofs.Common.{sym, ◌∙◌, ap, add-one, arith, length-append, eqb-true, eq-eqb}
use Rattle.std.proofs.Math.ListN.{get_or-append, get_or-eq_default}
use Rattle.std.proofs.lemmas.List.{get_or_at}
use Rattle.dag.specs.View.{View}
use Rattle.dag.specs.Nodes.{tag, first, second, decode, record_at, nodes, at, same_node}
use Rattle.dag.specs.CaseLaws.{and_true, below_suc_elim}
use Rattle.dag.specs.declared.NodeKind.{NodeKind}
use Rattle.dag.specs.declared.NodeKind.TheVariants.{Input, Constant, Add, Sub, Mul, Neg}

-- a record's three words stand for it
pub decode_words : (x : NodeKind) → decode (tag x) (first x) (second x) ≡ x
unfolding decode
decode_words (Input k) = refl
decode_words (Constant c) = refl
decode_words (Add a b) = refl
decode_words (Sub a b) = refl
decode_words (Mul a b) = refl
decode_words (Neg a) = refl

-- records with the same words are equal
pub same_words : (x y : NodeKind) → tag x ≡ tag y → first x ≡ first y → second x ≡ second y → x ≡ y
same_words x y t f s = sym (decode_words x) ∙ rw (t, f, s) (decode_words y)

pub same_node_true : (x y : NodeKind) → same_node x y ≡ true → x ≡ y
unfolding same_node
same_node_true x y e =
    let p = and_true (eqb (tag x) (tag y) && eqb (first x) (first y)) (eqb (second x) (second y)) e in
    let q = and_true (eqb (tag x) (tag y)) (eqb (first x) (first y)) p.0 in
    same_words x y (eqb-true _ _ q.0) (eqb-true _ _ q.1) (eqb-true _ _ p.1)

pub same_node_refl : (x : NodeKind) → same_node x x ≡ true
unfolding same_node
same_node_refl x = rw (eq-eqb (tag x) (tag x) refl, eq-eqb (first x) (first x) refl, eq-eqb (second x) (second x) refl)

pub eq_same_node : (x y : NodeKind) → x ≡ y → same_node x y ≡ true
eq_same_node x y e = rw (← e) (same_node_refl x)

-- the places of a list
pub at_left : (l t : List NodeKind) (i : ℕ) → i < length l → at (l ++ t) i ≡ at l i
unfolding at
at_left l t i h = get_or-append l t (Input 0) i h

pub at_last : (l : List NodeKind) (x : NodeKind) → at (l ++ (x ∷ [])) (length l) ≡ x
unfolding at
at_last l x = get_or_at l x [] (Input 0) (length l) refl

pub at_past : (l : List NodeKind) (i : ℕ) → length l ≤ i → at l i ≡ Input 0
unfolding at
at_past l i h = get_or-eq_default l (Input 0) h

-- inside a list the default doesn't matter
pub get_or_inside : {A : Type 0} (l : List A) (i : ℕ) (d e : A) → i < length l → get_or l i d ≡ get_or l i e
get_or_inside [] i d e h = absurd (omega arith)
get_or_inside (x ∷ l) zero d e h = refl
get_or_inside (x ∷ l) (suc i) d e h = get_or_inside l i d e (omega arith)

pub length_snoc : {A : Type 0} (l : List A) (x : A) → length (l ++ (x ∷ [])) ≡ suc (length l)
length_snoc l x = length-append l (x ∷ []) ∙ add-one (length l)

-- the list that words hold
pub length_nodes : (s : View) (n : ℕ) → length (nodes s n) ≡ n
unfolding nodes
length_nodes s zero = refl
length_nodes s (suc n) = length_snoc (nodes s n) (record_at s n) ∙ ap suc (length_nodes s n)

pub at_nodes : (s : View) (n i : ℕ) → i < n → at (nodes s n) i ≡ record_at s i
unfolding nodes
at_nodes s zero i h = absurd (omega arith)
at_nodes s (suc n) i h =
    below_suc_elim (λ j. at (nodes s n ++ (record_at s n ∷ [])) j ≡ record_at s j) n
    (λ j k. at_left (nodes s n) (record_at s n ∷ []) j (omega (arith, length_nodes s n)) ∙ at_nodes s n j k)
    (rw (length_nodes s n) at (at_last (nodes s n) (record_at s n)))
    i h
