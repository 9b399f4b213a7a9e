-- What the laws of a ring come to, in the forms that the steps and rounds of a constraint list use.
use Rattle.std.specs.Prelude.{◌≡◌, [], ◌∷◌}
use Rattle.std.proofs.Common.{sym, ◌∙◌, ap}
use Rattle.ring.specs.Ring.{Ops, Laws}
use Rattle.ring.specs.Solver.{identity, reduces}
use Rattle.ring.specs.Solver.Expr.{var, #0, #1, ◌⊕◌, ◌⊖◌, ◌⊗◌, ⊝}

module _ {A : Type 0} {o : Ops A} (L : Laws o) where
  pub add_zero : (a : A) → L.Low a → o.add a o.zero ≡ a
  add_zero a h = reduces L (a ∷ []) (var 0 ⊕ #0) (var 0) tt h

  pub sub_zero : (a : A) → L.Low a → o.sub a o.zero ≡ a
  sub_zero a h = reduces L (a ∷ []) (var 0 ⊖ #0) (var 0) tt h

  pub mul_one : (a : A) → L.Low a → o.mul a o.one ≡ a
  mul_one a h = reduces L (a ∷ []) (var 0 ⊗ #1) (var 0) tt h

  pub mul_zero : (a : A) → o.mul a o.zero ≡ o.zero
  mul_zero a = identity L (a ∷ []) (var 0 ⊗ #0) #0 tt

  -- (l − b) + b = l
  pub sub_add_cancel : (l b : A) → L.Low l → o.add (o.sub l b) b ≡ l
  sub_add_cancel l b h = reduces L (l ∷ b ∷ []) (var 0 ⊖ var 1 ⊕ var 1) (var 0) tt h

  -- b + (l − b) = l
  pub add_sub_cancel : (l b : A) → L.Low l → o.add b (o.sub l b) ≡ l
  add_sub_cancel l b h = reduces L (l ∷ b ∷ []) (var 1 ⊕ (var 0 ⊖ var 1)) (var 0) tt h

  -- −c + b = b − c
  pub neg_add_sub : (c b : A) → o.add (o.neg c) b ≡ o.sub b c
  neg_add_sub c b = identity L (c ∷ b ∷ []) (⊝ (var 0) ⊕ var 1) (var 1 ⊖ var 0) tt

  -- a + −c = a − c
  pub add_neg_sub : (a c : A) → o.add a (o.neg c) ≡ o.sub a c
  add_neg_sub a c = sym (L.sub_add_neg a c)

  -- (b + r) − b = r
  pub add_sub_left : (b r : A) → L.Low r → o.sub (o.add b r) b ≡ r
  add_sub_left b r h = reduces L (b ∷ r ∷ []) (var 0 ⊕ var 1 ⊖ var 0) (var 1) tt h

  -- (l + b) − b = l
  pub add_sub_right : (l b : A) → L.Low l → o.sub (o.add l b) b ≡ l
  add_sub_right l b h = reduces L (l ∷ b ∷ []) (var 0 ⊕ var 1 ⊖ var 1) (var 0) tt h

  -- a − (a − r) = r
  pub sub_sub_cancel : (a r : A) → L.Low r → o.sub a (o.sub a r) ≡ r
  sub_sub_cancel a r h = reduces L (a ∷ r ∷ []) (var 0 ⊖ (var 0 ⊖ var 1)) (var 1) tt h

  -- a − (−c) = a + c
  pub sub_neg : (a c : A) → o.sub a (o.neg c) ≡ o.add a c
  sub_neg a c = identity L (a ∷ c ∷ []) (var 0 ⊖ ⊝ (var 1)) (var 0 ⊕ var 1) tt

  -- The sum or difference of two products that share a factor f; x and y are the other factors.
  pub factor_add : (f x y : A) → o.add (o.mul f x) (o.mul f y) ≡ o.mul f (o.add x y)
  factor_add f x y = sym (L.mul_distrib_left f x y)

  pub factor_add_01 : (f x y : A) → o.add (o.mul f x) (o.mul y f) ≡ o.mul f (o.add x y)
  factor_add_01 f x y = ap (λ (n : A). o.add (o.mul f x) n) (L.mul_comm y f) ∙ factor_add f x y

  pub factor_sub : (f x y : A) → o.sub (o.mul f x) (o.mul f y) ≡ o.mul f (o.sub x y)
  factor_sub f x y = sym (L.mul_distrib_sub f x y)

  pub factor_sub_01 : (f x y : A) → o.sub (o.mul f x) (o.mul y f) ≡ o.mul f (o.sub x y)
  factor_sub_01 f x y = ap (λ (n : A). o.sub (o.mul f x) n) (L.mul_comm y f) ∙ factor_sub f x y

-- What a rotation asks of an operation.
module _ {A : Type 0} (f : A → A → A) (comm : (a b : A) → f a b ≡ f b a) (assoc : (a b c : A) → f (f a b) c ≡ f a (f b c)) where
  pub left_comm : (x y z : A) → f x (f y z) ≡ f y (f x z)
  left_comm x y z = sym (assoc x y z) ∙ ap (λ (n : A). f n z) (comm x y) ∙ assoc y x z

  -- (x y) z = (x z) y
  pub right_comm : (x y z : A) → f (f x y) z ≡ f (f x z) y
  right_comm x y z = assoc x y z ∙ ap (λ (n : A). f x n) (comm y z) ∙ sym (assoc x z y)
