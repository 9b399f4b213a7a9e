-- The cases of each step's rules: what tests held where a rule answers, and what a record's kind tells.
use Rattle.std.specs.Prelude.{ℕ, true, ◌&&◌, ◌||◌, ◌≡◌, ◌⊎◌, leb}
use Rattle.std.proofs.Math.Bool.{not}
use Rattle.std.proofs.Common.{sym, ◌∙◌, ap, eqb-true}
use Rattle.std.proofs.Math.Dec.{eqb}
use Rattle.ring.specs.Ring.{Ops}
use Rattle.field.specs.Field.{same}
use Rattle.field.specs.declared.QuadFelt.{QuadFelt}
use Rattle.dag.specs.Nodes.{tag, first, second, decode}
use Rattle.dag.specs.NodeLaws.{decode_words}
use Rattle.dag.specs.CaseLaws.{cond_elim, and_true, or_true}
use Rattle.dag.specs.declared.NodeKind.{NodeKind}
use Rattle.dag.specs.declared.NodeKind.TheVariants.{Constant, Add, Sub, Mul, Neg}
use Rattle.builder.specs.Steps.{is_constant, is_add, is_sub, is_neg, is_the, element, low_first, add_rule, sub_rule, mul_outcome, neg_outcome}
use Rattle.builder.specs.declared.Rule.{Rule}
use Rattle.builder.specs.declared.Rule.TheVariants.{ComesTo, HandOver}
use Rattle.builder.specs.declared.Outcome.{Outcome}
use Rattle.builder.specs.declared.Outcome.TheVariants.{Place, Node}

-- a record of the tag t, by its words
kind : (t : ℕ) (x : NodeKind) → eqb (tag x) t ≡ true → x ≡ decode t (first x) (second x)
kind t x e = sym (decode_words x) ∙ ap (λ (k : ℕ). decode k (first x) (second x)) (eqb-true (tag x) t e)

pub constant_is : (x : NodeKind) → is_constant x ≡ true → x ≡ Constant (element x)
unfolding is_constant element decode
constant_is x e = kind 1 x e

pub add_is : (x : NodeKind) → is_add x ≡ true → x ≡ Add (first x) (second x)
unfolding is_add decode
add_is x e = kind 2 x e

pub sub_is : (x : NodeKind) → is_sub x ≡ true → x ≡ Sub (first x) (second x)
unfolding is_sub decode
sub_is x e = kind 3 x e

pub neg_is : (x : NodeKind) → is_neg x ≡ true → x ≡ Neg (first x)
unfolding is_neg decode
neg_is x e = kind 5 x e

same_is : (c d : QuadFelt) → same c d ≡ true → c ≡ d
unfolding same
same_is c d e =
    let p = and_true (eqb c.c0 d.c0) (eqb c.c1 d.c1) e in
    λ i. record { c0 = eqb-true c.c0 d.c0 p.0 i; c1 = eqb-true c.c1 d.c1 p.1 i }

pub the_is : (c : QuadFelt) (x : NodeKind) → is_the c x ≡ true → x ≡ Constant c
unfolding is_the
the_is c x e =
    let p = and_true (is_constant x) (same (element x) c) e in
    constant_is x p.0 ∙ ap Constant (same_is (element x) c p.1)

pub low_first_lem : (P : NodeKind → Type 0) (op : ℕ → ℕ → NodeKind) (a b : ℕ) → P (op a b) → P (op b a) → P (low_first op a b)
unfolding low_first
low_first_lem P op a b p q = cond_elim P (leb a b) (op a b) (op b a) (λ _. p) (λ _. q)

module _ (F : Ops QuadFelt) (x y : NodeKind) (a b : ℕ) where
  pub add_cases : (P : Rule → Type 0)
      → (is_constant x ≡ true → is_constant y ≡ true → P (ComesTo (Node (Constant (F.add (element x) (element y))))))
      → (is_the F.zero x ≡ true → P (ComesTo (Place b)))
      → (is_the F.zero y ≡ true → P (ComesTo (Place a)))
      → (is_sub x ≡ true → second x ≡ b → P (ComesTo (Place (first x))))
      → (is_sub y ≡ true → second y ≡ a → P (ComesTo (Place (first y))))
      → (is_neg x ≡ true → P (HandOver b (first x)))
      → (is_neg y ≡ true → P (HandOver a (first y)))
      → P (ComesTo (Node (low_first Add a b)))
      → P (add_rule F x y a b)
  unfolding add_rule
  add_cases P fold zero-x zero-y sub-x sub-y neg-x neg-y plain =
      cond_elim P (is_constant x && is_constant y) (ComesTo (Node (Constant (F.add (element x) (element y))))) _
      (λ e. let c = and_true (is_constant x) (is_constant y) e in fold c.0 c.1)
      (λ _. cond_elim P (is_the F.zero x) (ComesTo (Place b)) _ zero-x
      (λ _. cond_elim P (is_the F.zero y) (ComesTo (Place a)) _ zero-y
      (λ _. cond_elim P (is_sub x && eqb (second x) b) (ComesTo (Place (first x))) _
      (λ e. let c = and_true (is_sub x) (eqb (second x) b) e in sub-x c.0 (eqb-true (second x) b c.1))
      (λ _. cond_elim P (is_sub y && eqb (second y) a) (ComesTo (Place (first y))) _
      (λ e. let c = and_true (is_sub y) (eqb (second y) a) e in sub-y c.0 (eqb-true (second y) a c.1))
      (λ _. cond_elim P (is_neg x && not (is_neg y)) (HandOver b (first x)) _
      (λ e. neg-x (and_true (is_neg x) (not (is_neg y)) e).0)
      (λ _. cond_elim P (is_neg y && not (is_neg x)) (HandOver a (first y)) (ComesTo (Node (low_first Add a b)))
      (λ e. neg-y (and_true (is_neg y) (not (is_neg x)) e).0)
      (λ _. plain)))))))

  pub sub_cases : (P : Rule → Type 0)
      → (is_constant x ≡ true → is_constant y ≡ true → P (ComesTo (Node (Constant (F.sub (element x) (element y))))))
      → (is_the F.zero y ≡ true → P (ComesTo (Place a)))
      → (a ≡ b → P (ComesTo (Node (Constant F.zero))))
      → (is_add x ≡ true → first x ≡ b → P (ComesTo (Place (second x))))
      → (is_add x ≡ true → second x ≡ b → P (ComesTo (Place (first x))))
      → (is_sub y ≡ true → first y ≡ a → P (ComesTo (Place (second y))))
      → (is_neg y ≡ true → P (HandOver a (first y)))
      → P (ComesTo (Node (Sub a b)))
      → P (sub_rule F x y a b)
  unfolding sub_rule
  sub_cases P fold zero-y same_place add-first add-second sub-y neg-y plain =
      cond_elim P (is_constant x && is_constant y) (ComesTo (Node (Constant (F.sub (element x) (element y))))) _
      (λ e. let c = and_true (is_constant x) (is_constant y) e in fold c.0 c.1)
      (λ _. cond_elim P (is_the F.zero y) (ComesTo (Place a)) _ zero-y
      (λ _. cond_elim P (eqb a b) (ComesTo (Node (Constant F.zero))) _ (λ e. same_place (eqb-true a b e))
      (λ _. cond_elim P (is_add x && eqb (first x) b) (ComesTo (Place (second x))) _
      (λ e. let c = and_true (is_add x) (eqb (first x) b) e in add-first c.0 (eqb-true (first x) b c.1))
      (λ _. cond_elim P (is_add x && eqb (second x) b) (ComesTo (Place (first x))) _
      (λ e. let c = and_true (is_add x) (eqb (second x) b) e in add-second c.0 (eqb-true (second x) b c.1))
      (λ _. cond_elim P (is_sub y && eqb (first y) a) (ComesTo (Place (second y))) _
      (λ e. let c = and_true (is_sub y) (eqb (first y) a) e in sub-y c.0 (eqb-true (first y) a c.1))
      (λ _. cond_elim P (is_neg y) (HandOver a (first y)) (ComesTo (Node (Sub a b))) neg-y (λ _. plain)))))))

  pub mul_cases : (P : Outcome → Type 0)
      → (is_constant x ≡ true → is_constant y ≡ true → P (Node (Constant (F.mul (element x) (element y)))))
      → ((is_the F.zero x ≡ true) ⊎ (is_the F.zero y ≡ true) → P (Node (Constant F.zero)))
      → (is_the F.one x ≡ true → P (Place b))
      → (is_the F.one y ≡ true → P (Place a))
      → P (Node (low_first Mul a b))
      → P (mul_outcome F x y a b)
  unfolding mul_outcome
  mul_cases P fold zeroed one-x one-y plain =
      cond_elim P (is_constant x && is_constant y) (Node (Constant (F.mul (element x) (element y)))) _
      (λ e. let c = and_true (is_constant x) (is_constant y) e in fold c.0 c.1)
      (λ _. cond_elim P (is_the F.zero x || is_the F.zero y) (Node (Constant F.zero)) _
      (λ e. zeroed (or_true (is_the F.zero x) (is_the F.zero y) e))
      (λ _. cond_elim P (is_the F.one x) (Place b) _ one-x
      (λ _. cond_elim P (is_the F.one y) (Place a) (Node (low_first Mul a b)) one-y (λ _. plain))))

pub neg_cases : (F : Ops QuadFelt) (x : NodeKind) (a : ℕ) (P : Outcome → Type 0)
    → (is_constant x ≡ true → P (Node (Constant (F.neg (element x))))) → P (Node (Neg a)) → P (neg_outcome F x a)
unfolding neg_outcome
neg_cases F x a P fold plain = cond_elim P (is_constant x) (Node (Constant (F.neg (element x)))) (Node (Neg a)) fold (λ _. plain)
