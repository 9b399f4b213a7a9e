-- The rules of the steps, by what the code's tests answer.
use Rattle.std.specs.Prelude.{ℕ, Bool, true, false, not, cond, ◌&&◌, ◌⊎◌, Some, None, ◌≡◌, ◌≢◌, eqb}
use Rattle.std.proofs.Common.{arith, refl, inl, inr, eq-eqb}
use Rattle.field.specs.Field.{same}
use Rattle.builder.specs.RuleLaws.{the_is}
use Rattle.ring.specs.Ring.{Ops}
use Rattle.field.specs.declared.QuadFelt.{QuadFelt}
use Rattle.dag.specs.Nodes.{first}
use Rattle.dag.specs.declared.NodeKind.{NodeKind}
use Rattle.dag.specs.declared.NodeKind.TheVariants.{Constant, Add, Sub, Mul}
use Rattle.builder.specs.Steps.{is_constant, is_neg, element, is_the, low_first, add_rule, sub_rule, mul_outcome}
use Rattle.builder.specs.Promises.{constants, cancel_add, cancel_sub}
use Rattle.builder.specs.declared.Rule.TheVariants.{ComesTo, HandOver}
use Rattle.builder.specs.declared.Outcome.TheVariants.{Place, Node}

eqb_self : (n : ℕ) → eqb n n ≡ true
eqb_self n = eq-eqb n n refl

the_when : (c : QuadFelt) (x : NodeKind) → x ≡ Constant c → is_the c x ≡ true
unfolding is_the is_constant element same
the_when c x e = rw (e, eqb_self c.c0, eqb_self c.c1)

not_the : (c : QuadFelt) (x : NodeKind) → x ≢ Constant c → is_the c x ≡ false
not_the c x other = go (is_the c x) refl
  where
    go : (b : Bool) → is_the c x ≡ b → is_the c x ≡ false
    go true e = absurd (other (the_is c x e))
    go false e = e

module _ (F : Ops QuadFelt) (x y : NodeKind) (a b : ℕ) where
  module _ (c d e : QuadFelt) (both : Some (c, d) ≡ constants x y) where
    pub add_folded : e ≡ F.add c d → ComesTo (Node (Constant e)) ≡ add_rule F x y a b
    unfolding add_rule
    add_folded f = grind arith

    pub sub_folded : e ≡ F.sub c d → ComesTo (Node (Constant e)) ≡ sub_rule F x y a b
    unfolding sub_rule
    sub_folded f = grind arith

    pub mul_folded : e ≡ F.mul c d → Node (Constant e) ≡ mul_outcome F x y a b
    unfolding mul_outcome
    mul_folded f = grind arith

  module _ (none : None ≡ constants x y) where
    pub add_zero_left : x ≡ Constant F.zero → ComesTo (Place b) ≡ add_rule F x y a b
    unfolding add_rule
    add_zero_left f = grind (arith, the_when F.zero x f)

    pub sub_zero : y ≡ Constant F.zero → ComesTo (Place a) ≡ sub_rule F x y a b
    unfolding sub_rule
    sub_zero f = grind (arith, the_when F.zero y f)

    pub mul_zero : (x ≡ Constant F.zero) ⊎ (y ≡ Constant F.zero) → Node (Constant F.zero) ≡ mul_outcome F x y a b
    unfolding mul_outcome
    mul_zero (inl f) = grind (arith, the_when F.zero x f)
    mul_zero (inr f) = grind (arith, the_when F.zero y f)

    pub add_zero_right : x ≢ Constant F.zero → y ≡ Constant F.zero → ComesTo (Place a) ≡ add_rule F x y a b
    unfolding add_rule
    add_zero_right f g = grind (arith, not_the F.zero x f, the_when F.zero y g)

    pub sub_self : y ≢ Constant F.zero → a ≡ b → ComesTo (Node (Constant F.zero)) ≡ sub_rule F x y a b
    unfolding sub_rule
    sub_self f g = grind (arith, not_the F.zero y f)

    module _ (x_kept : x ≢ Constant F.zero) (y_kept : y ≢ Constant F.zero) where
      pub add_cancelled : (i : ℕ) → Some i ≡ cancel_add x y a b → ComesTo (Place i) ≡ add_rule F x y a b
      unfolding add_rule
      add_cancelled i h = grind (arith, not_the F.zero x x_kept, not_the F.zero y y_kept)

      pub add_rest : None ≡ cancel_add x y a b
          → cond (is_neg x && not (is_neg y)) (HandOver b (first x)) (cond (is_neg y && not (is_neg x)) (HandOver a (first y)) (ComesTo (Node (low_first Add a b)))) ≡ add_rule F x y a b
      unfolding add_rule
      add_rest h = grind (arith, not_the F.zero x x_kept, not_the F.zero y y_kept)

      pub mul_one_left : x ≡ Constant F.one → Place b ≡ mul_outcome F x y a b
      unfolding mul_outcome
      mul_one_left f = grind (arith, not_the F.zero x x_kept, not_the F.zero y y_kept, the_when F.one x f)

      pub mul_one_right : x ≢ Constant F.one → y ≡ Constant F.one → Place a ≡ mul_outcome F x y a b
      unfolding mul_outcome
      mul_one_right f g = grind (arith, not_the F.zero x x_kept, not_the F.zero y y_kept, not_the F.one x f, the_when F.one y g)

      pub mul_rest : x ≢ Constant F.one → y ≢ Constant F.one → Node (low_first Mul a b) ≡ mul_outcome F x y a b
      unfolding mul_outcome
      mul_rest f g = grind (arith, not_the F.zero x x_kept, not_the F.zero y y_kept, not_the F.one x f, not_the F.one y g)

    module _ (y_kept : y ≢ Constant F.zero) (apart : a ≢ b) where
      pub sub_cancelled : (i : ℕ) → Some i ≡ cancel_sub x y a b → ComesTo (Place i) ≡ sub_rule F x y a b
      unfolding sub_rule
      sub_cancelled i h = grind (arith, not_the F.zero y y_kept)

      pub sub_rest : None ≡ cancel_sub x y a b → cond (is_neg y) (HandOver a (first y)) (ComesTo (Node (Sub a b))) ≡ sub_rule F x y a b
      unfolding sub_rule
      sub_rest h = grind (arith, not_the F.zero y y_kept)

pub ruleset add_rules = (add_folded, add_zero_left, add_zero_right, add_cancelled, add_rest)

pub ruleset sub_rules = (sub_folded, sub_zero, sub_self, sub_cancelled, sub_rest)

pub ruleset mul_rules = (mul_folded, mul_zero, mul_one_left, mul_one_right, mul_rest)
