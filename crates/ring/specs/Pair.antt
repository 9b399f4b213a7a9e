-- Pairs c0 + c1·u with u² = w over any ring, on any carrier that is a pair.
use Rattle.std.specs.Prelude.{◌≡◌, refl, List, [], ◌∷◌, ◌&&◌, ℕ, T}
use Rattle.std.proofs.Common.{sym, ◌∙◌, ap₂}
use Rattle.ring.specs.Ring.{Ops, Laws}
use Rattle.ring.specs.Residue.{residues}
use Rattle.ring.specs.Solver.{Expr, eval, composite, equal, identity, reduces}
use Rattle.ring.specs.Solver.Expr.{var, #0, #1, ◌⊕◌, ◌⊖◌, ◌⊗◌}

pub record IsPair (A B : Type 0) : Type 0 where
  pub mk : B → B → A
  pub c0 : A → B
  pub c1 : A → B
  pub c0_mk : (a b : B) → c0 (mk a b) ≡ a
  pub c1_mk : (a b : B) → c1 (mk a b) ≡ b
  pub mk_eta : (x : A) → mk (c0 x) (c1 x) ≡ x

abbrev pub pairs : {A B : Type 0} → IsPair A B → Ops B → B → Ops A
pairs P R w =
    record {
      zero = P.mk R.zero R.zero;
      one = P.mk R.one R.zero;
      add = λ a b. P.mk (R.add (P.c0 a) (P.c0 b)) (R.add (P.c1 a) (P.c1 b));
      sub = λ a b. P.mk (R.sub (P.c0 a) (P.c0 b)) (R.sub (P.c1 a) (P.c1 b));
      mul =
          λ a b.
          P.mk
          (R.add (R.mul (P.c0 a) (P.c0 b)) (R.mul w (R.mul (P.c1 a) (P.c1 b))))
          (R.add (R.mul (P.c0 a) (P.c1 b)) (R.mul (P.c1 a) (P.c0 b)));
      neg = λ a. P.mk (R.neg (P.c0 a)) (R.neg (P.c1 a));
    }

-- Two pairs with equal parts are equal.
pub ext : {A B : Type 0} (P : IsPair A B) (x y : A) → P.c0 x ≡ P.c0 y → P.c1 x ≡ P.c1 y → x ≡ y
ext P x y e f = sym (P.mk_eta x) ∙ ap₂ P.mk e f ∙ P.mk_eta y

-- Complex numbers modulo 7: (2 + 3u)(4 + 5u) = 8 − 15 + 22u with u² = −1.
record Complex : Type 0 where
  re : ℕ
  im : ℕ

abbrev complex : IsPair Complex ℕ
complex = record { mk = λ a b. record { re = a; im = b }; c0 = λ x. x.re; c1 = λ x. x.im; c0_mk = λ a b. refl; c1_mk = λ a b. refl; mk_eta = λ x. refl }

products : (pairs complex (residues 7) 6).mul (record { re = 2; im = 3 }) (record { re = 4; im = 5 }) ≡ record { re = 0; im = 1 }
products = refl

-- Pairs of expressions; variables 0 to 5 are the parts of x, y and z, and 6 is w.
abbrev x : Expr × Expr
x = (var 0, var 1)

abbrev y : Expr × Expr
y = (var 2, var 3)

abbrev z : Expr × Expr
z = (var 4, var 5)

infixl 65 ◌plus◌ ◌minus◌
infixl 70 ◌times◌
abbrev ◌plus◌ : Expr × Expr → Expr × Expr → Expr × Expr
a plus b = (a.0 ⊕ b.0, a.1 ⊕ b.1)

abbrev ◌minus◌ : Expr × Expr → Expr × Expr → Expr × Expr
a minus b = (a.0 ⊖ b.0, a.1 ⊖ b.1)

abbrev ◌times◌ : Expr × Expr → Expr × Expr → Expr × Expr
a times b = (a.0 ⊗ b.0 ⊕ var 6 ⊗ (a.1 ⊗ b.1), a.0 ⊗ b.1 ⊕ a.1 ⊗ b.0)

module _ {A B : Type 0} (P : IsPair A B) {R : Ops B} (L : Laws R) (w : B) where
  abbrev o : Ops A
  o = pairs P R w

  abbrev Low : A → Type 0
  Low x = L.Low (P.c0 x) × L.Low (P.c1 x)

  abbrev parts : A → A → A → List B
  parts a b c = P.c0 a ∷ P.c1 a ∷ P.c0 b ∷ P.c1 b ∷ P.c0 c ∷ P.c1 c ∷ w ∷ []

  pub low_mk : (a b : B) → L.Low a → L.Low b → Low (P.mk a b)
  low_mk a b h k = rw (P.c0_mk a b, P.c1_mk a b) (h, k)

  pub add_assoc : (a b c : A) → o.add (o.add a b) c ≡ o.add a (o.add b c)
  add_assoc a b c = simp (P.c0_mk, P.c1_mk) (ap₂ P.mk (L.add_assoc (P.c0 a) (P.c0 b) (P.c0 c)) (L.add_assoc (P.c1 a) (P.c1 b) (P.c1 c)))

  -- an identity of pairs, by an identity for each part
  by_parts : (a b c : A) (s t : Expr × Expr) → T (composite s.0 && composite t.0 && equal s.0 t.0) → T (composite s.1 && composite t.1 && equal s.1 t.1)
      → P.mk (eval R (parts a b c) s.0) (eval R (parts a b c) s.1) ≡ P.mk (eval R (parts a b c) t.0) (eval R (parts a b c) t.1)
  by_parts a b c s t e f = ap₂ P.mk (identity L (parts a b c) s.0 t.0 e) (identity L (parts a b c) s.1 t.1 f)

  pub mul_comm : (a b : A) → o.mul a b ≡ o.mul b a
  mul_comm a b = by_parts a b a (x times y) (y times x) tt tt

  pub mul_assoc : (a b c : A) → o.mul (o.mul a b) c ≡ o.mul a (o.mul b c)
  mul_assoc a b c = simp (P.c0_mk, P.c1_mk) (by_parts a b c (x times y times z) (x times (y times z)) tt tt)

  pub mul_distrib_left : (a b c : A) → o.mul a (o.add b c) ≡ o.add (o.mul a b) (o.mul a c)
  mul_distrib_left a b c = simp (P.c0_mk, P.c1_mk) (by_parts a b c (x times (y plus z)) (x times y plus x times z) tt tt)

  pub mul_distrib_sub : (a b c : A) → o.mul a (o.sub b c) ≡ o.sub (o.mul a b) (o.mul a c)
  mul_distrib_sub a b c = simp (P.c0_mk, P.c1_mk) (by_parts a b c (x times (y minus z)) (x times y minus x times z) tt tt)

  pub zero_mul : (a : A) → o.mul o.zero a ≡ o.zero
  zero_mul a = simp (P.c0_mk, P.c1_mk) (by_parts a a a ((#0, #0) times x) (#0, #0) tt tt)

  pub one_mul : (a : A) → Low a → o.mul o.one a ≡ a
  one_mul a h =
      simp (P.c0_mk, P.c1_mk)
      (ap₂ P.mk (reduces L (parts a a a) unit.0 x.0 tt h.0) (reduces L (parts a a a) unit.1 x.1 tt h.1))
      ∙ P.mk_eta a
    where
      unit : Expr × Expr
      unit = (#1, #0) times x

  pub zero_add : (a : A) → Low a → o.add o.zero a ≡ a
  zero_add a h = simp (P.c0_mk, P.c1_mk) (ap₂ P.mk (L.zero_add (P.c0 a) h.0) (L.zero_add (P.c1 a) h.1)) ∙ P.mk_eta a

  pub sub_add_neg : (a b : A) → o.sub a b ≡ o.add a (o.neg b)
  sub_add_neg a b = simp (P.c0_mk, P.c1_mk) (ap₂ P.mk (L.sub_add_neg (P.c0 a) (P.c0 b)) (L.sub_add_neg (P.c1 a) (P.c1 b)))

  pub add_neg : (a : A) → o.add a (o.neg a) ≡ o.zero
  add_neg a = simp (P.c0_mk, P.c1_mk) (ap₂ P.mk (L.add_neg (P.c0 a)) (L.add_neg (P.c1 a)))

  pub neg_neg : (a : A) → Low a → o.neg (o.neg a) ≡ a
  neg_neg a h = simp (P.c0_mk, P.c1_mk) (ap₂ P.mk (L.neg_neg (P.c0 a) h.0) (L.neg_neg (P.c1 a) h.1)) ∙ P.mk_eta a

  -- The laws of the pairs; a pair is in lowest form where both parts are.
  abbrev pub pairs_laws : Laws (pairs P R w)
  pairs_laws =
      record {
        Low = Low;
        low_zero = low_mk R.zero R.zero L.low_zero L.low_zero;
        low_one = low_mk R.one R.zero L.low_one L.low_zero;
        low_add = λ a b. low_mk _ _ (L.low_add (P.c0 a) (P.c0 b)) (L.low_add (P.c1 a) (P.c1 b));
        low_sub = λ a b. low_mk _ _ (L.low_sub (P.c0 a) (P.c0 b)) (L.low_sub (P.c1 a) (P.c1 b));
        low_mul = λ a b. low_mk _ _ (L.low_add _ _) (L.low_add _ _);
        low_neg = λ a. low_mk _ _ (L.low_neg (P.c0 a)) (L.low_neg (P.c1 a));
        add_comm = λ a b. ap₂ P.mk (L.add_comm (P.c0 a) (P.c0 b)) (L.add_comm (P.c1 a) (P.c1 b));
        add_assoc = add_assoc;
        mul_comm = mul_comm;
        mul_assoc = mul_assoc;
        mul_distrib_left = mul_distrib_left;
        mul_distrib_sub = mul_distrib_sub;
        zero_add = zero_add;
        one_mul = one_mul;
        zero_mul = zero_mul;
        sub_self = λ a. ap₂ P.mk (L.sub_self (P.c0 a)) (L.sub_self (P.c1 a));
        sub_add_neg = sub_add_neg;
        add_neg = add_neg;
        neg_neg = neg_neg;
      }
