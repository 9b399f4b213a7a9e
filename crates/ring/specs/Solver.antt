-- Polynomial identities over any ring by computation: an expression is written out as monomials to add and monomials to
-- take away, and two expressions are equal where these agree up to order.
use Rattle.std.specs.Prelude.{◌≡◌, not, ◌&&◌, ℕ, eqb, leb, get_or}
use Rattle.std.proofs.Math.Path.{refl, sym, ap, ap₂}
use Rattle.std.proofs.Common.{◌∙◌, eqb→eq}
use Rattle.std.proofs.Math.Bool.{Bool, true, false}
use mathlib.Core.List.{List, [], ◌∷◌, ◌++◌}
use Rattle.std.proofs.Math.Dec.{T}
use Rattle.std.proofs.Math.Facts.{and_yes}
use Rattle.ring.specs.Ring.{Ops, Laws}

infixl 65 ◌⊕◌ ◌⊖◌
infixl 70 ◌⊗◌
pub data Expr : Type 0 where
  var : ℕ → Expr
  #0 : Expr
  #1 : Expr
  ◌⊕◌ : Expr → Expr → Expr
  ◌⊖◌ : Expr → Expr → Expr
  ◌⊗◌ : Expr → Expr → Expr
  ⊝ : Expr → Expr

-- The variables' values stand in a list; a variable past its end is zero.
abbrev pub eval : {A : Type 0} → Ops A → List A → Expr → A
eval o env (var i) = get_or env i o.zero
eval o env #0 = o.zero
eval o env #1 = o.one
eval o env (a ⊕ b) = o.add (eval o env a) (eval o env b)
eval o env (a ⊖ b) = o.sub (eval o env a) (eval o env b)
eval o env (a ⊗ b) = o.mul (eval o env a) (eval o env b)
eval o env (⊝ a) = o.neg (eval o env a)

abbrev pick : {A : Type 0} → Bool → A → A → A
pick true a b = a
pick false a b = b

-- A monomial is its variables in order; a polynomial is its monomials.
abbrev insert : ℕ → List ℕ → List ℕ
insert i [] = i ∷ []
insert i (j ∷ m) = pick (leb i j) (i ∷ j ∷ m) (j ∷ insert i m)

abbrev times : List ℕ → List ℕ → List ℕ
times [] n = n
times (i ∷ m) n = insert i (times m n)

abbrev scale : List ℕ → List (List ℕ) → List (List ℕ)
scale m [] = []
scale m (q ∷ qs) = times m q ∷ scale m qs

abbrev product : List (List ℕ) → List (List ℕ) → List (List ℕ)
product [] qs = []
product (m ∷ ps) qs = scale m qs ++ product ps qs

-- The monomials that an expression adds (true), and those that it takes away (false).
abbrev terms : Bool → Expr → List (List ℕ)
terms true (var i) = (i ∷ []) ∷ []
terms false (var i) = []
terms s #0 = []
terms true #1 = [] ∷ []
terms false #1 = []
terms s (a ⊕ b) = terms s a ++ terms s b
terms s (a ⊖ b) = terms s a ++ terms (not s) b
terms s (a ⊗ b) = product (terms s a) (terms true b) ++ product (terms (not s) a) (terms false b)
terms s (⊝ a) = terms (not s) a

abbrev same : List ℕ → List ℕ → Bool
same [] [] = true
same [] (j ∷ n) = false
same (i ∷ m) [] = false
same (i ∷ m) (j ∷ n) = pick (eqb i j) (same m n) false

-- The polynomial without one copy of a monomial, behind whether it had one.
abbrev remove : List ℕ → List (List ℕ) → Bool × List (List ℕ)
remove m [] = (false, [])
remove m (q ∷ qs) = let r = remove m qs in pick (same m q) (true, qs) (r.0, q ∷ r.1)

abbrev agree : List (List ℕ) → List (List ℕ) → Bool
agree [] [] = true
agree [] (q ∷ qs) = false
agree (m ∷ ps) qs = let r = remove m qs in pick r.0 (agree ps r.1) false

-- Whether two expressions are the same polynomial.
abbrev pub equal : Expr → Expr → Bool
equal a b = agree (terms true a ++ terms false b) (terms true b ++ terms false a)

-- Not a bare variable: the value is in lowest form.
abbrev pub composite : Expr → Bool
composite (var i) = false
composite #0 = true
composite #1 = true
composite (a ⊕ b) = true
composite (a ⊖ b) = true
composite (a ⊗ b) = true
composite (⊝ a) = true

module _ {A : Type 0} {o : Ops A} (L : Laws o) where
  left_comm : (a b c : A) → o.add a (o.add b c) ≡ o.add b (o.add a c)
  left_comm a b c = sym (L.add_assoc a b c) ∙ ap (λ (x : A). o.add x c) (L.add_comm a b) ∙ L.add_assoc b a c

  mul_left_comm : (a b c : A) → o.mul a (o.mul b c) ≡ o.mul b (o.mul a c)
  mul_left_comm a b c = sym (L.mul_assoc a b c) ∙ ap (λ (x : A). o.mul x c) (L.mul_comm a b) ∙ L.mul_assoc b a c

  distrib_right : (a b c : A) → o.mul (o.add a b) c ≡ o.add (o.mul a c) (o.mul b c)
  distrib_right a b c = L.mul_comm (o.add a b) c ∙ L.mul_distrib_left c a b ∙ ap₂ (λ (x y : A). o.add x y) (L.mul_comm c a) (L.mul_comm c b)

  add_zero : (a : A) → L.Low a → o.add a o.zero ≡ a
  add_zero a h = L.add_comm a o.zero ∙ L.zero_add a h

  mul_zero : (a : A) → o.mul a o.zero ≡ o.zero
  mul_zero a = L.mul_comm a o.zero ∙ L.zero_mul a

  -- what equals after adding the same has one lowest form
  cancel : (x y z : A) → o.add x z ≡ o.add y z → o.add o.zero x ≡ o.add o.zero y
  cancel x y z e = sym (drop x) ∙ ap (λ (n : A). o.add n (o.neg z)) e ∙ drop y
    where
      drop : (a : A) → o.add (o.add a z) (o.neg z) ≡ o.add o.zero a
      drop a = L.add_assoc a z (o.neg z) ∙ ap (λ (n : A). o.add a n) (L.add_neg z) ∙ L.add_comm a o.zero

  -- one times an element in any form
  one_times : (a : A) → o.mul o.one a ≡ o.add o.zero a
  one_times a =
      sym (L.zero_add (o.mul o.one a) (L.low_mul o.one a))
      ∙ ap (λ (n : A). o.add n (o.mul o.one a)) (sym (mul_zero o.one))
      ∙ sym (L.mul_distrib_left o.one o.zero a)
      ∙ L.one_mul (o.add o.zero a) (L.low_add o.zero a)

  plus_step : (a b c d : A) → o.add (o.add a b) (o.add c d) ≡ o.add (o.add a c) (o.add b d)
  plus_step a b c d = simp (L.add_assoc, left_comm)

  minus_step : (a b c d : A) → o.add (o.sub a b) (o.add c (o.add b d)) ≡ o.add (o.add a c) d
  minus_step a b c d =
      ap (λ (x : A). o.add x (o.add c (o.add b d))) (L.sub_add_neg a b)
      ∙ regroup (o.neg b)
      ∙ ap (λ (x : A). o.add x (o.add (o.add a c) d)) (L.add_neg b)
      ∙ L.zero_add (o.add (o.add a c) d) (L.low_add (o.add a c) d)
    where
      regroup : (n : A) → o.add (o.add a n) (o.add c (o.add b d)) ≡ o.add (o.add b n) (o.add (o.add a c) d)
      regroup n = simp (L.add_assoc, L.add_comm, left_comm)

  times_step : (a b c d : A) → o.add (o.mul a b) (o.add (o.mul c (o.add b d)) (o.mul (o.add a c) d)) ≡ o.add (o.mul (o.add a c) (o.add b d)) (o.mul c d)
  times_step a b c d = simp (L.mul_distrib_left, distrib_right, L.add_assoc, left_comm)

  neg_step : (a b : A) → L.Low b → o.add (o.neg a) (o.add a b) ≡ b
  neg_step a b h =
      sym (L.add_assoc (o.neg a) a b)
      ∙ ap (λ (x : A). o.add x b) (L.add_comm (o.neg a) a ∙ L.add_neg a)
      ∙ L.zero_add b h

  module _ (env : List A) where
    mono : List ℕ → A
    mono [] = o.one
    mono (i ∷ m) = o.mul (get_or env i o.zero) (mono m)

    poly : List (List ℕ) → A
    poly [] = o.zero
    poly (m ∷ ps) = o.add (mono m) (poly ps)

    mono_low : (m : List ℕ) → L.Low (mono m)
    unfolding mono
    mono_low [] = L.low_one
    mono_low (i ∷ m) = L.low_mul (get_or env i o.zero) (mono m)

    poly_low : (ps : List (List ℕ)) → L.Low (poly ps)
    unfolding poly
    poly_low [] = L.low_zero
    poly_low (m ∷ ps) = L.low_add (mono m) (poly ps)

    mono_insert : (i : ℕ) (m : List ℕ) → mono (insert i m) ≡ o.mul (get_or env i o.zero) (mono m)
    unfolding mono
    mono_insert i [] = refl
    mono_insert i (j ∷ m) = go (leb i j) (mono_insert i m)
      where
        go : (t : Bool) → mono (insert i m) ≡ o.mul (get_or env i o.zero) (mono m) → mono (pick t (i ∷ j ∷ m) (j ∷ insert i m)) ≡ o.mul (get_or env i o.zero) (mono (j ∷ m))
        go true h = refl
        go false h = ap (λ (x : A). o.mul (get_or env j o.zero) x) h ∙ mul_left_comm (get_or env j o.zero) (get_or env i o.zero) (mono m)

    mono_times : (m n : List ℕ) → mono (times m n) ≡ o.mul (mono m) (mono n)
    unfolding mono
    mono_times [] n = sym (L.one_mul (mono n) (mono_low n))
    mono_times (i ∷ m) n =
        mono_insert i (times m n)
        ∙ ap (λ (x : A). o.mul (get_or env i o.zero) x) (mono_times m n)
        ∙ sym (L.mul_assoc (get_or env i o.zero) (mono m) (mono n))

    poly_append : (ps qs : List (List ℕ)) → poly (ps ++ qs) ≡ o.add (poly ps) (poly qs)
    unfolding poly
    poly_append [] qs = sym (L.zero_add (poly qs) (poly_low qs))
    poly_append (m ∷ ps) qs = ap (λ (x : A). o.add (mono m) x) (poly_append ps qs) ∙ sym (L.add_assoc (mono m) (poly ps) (poly qs))

    poly_scale : (m : List ℕ) (qs : List (List ℕ)) → poly (scale m qs) ≡ o.mul (mono m) (poly qs)
    unfolding poly
    poly_scale m [] = sym (mul_zero (mono m))
    poly_scale m (q ∷ qs) = ap₂ (λ (x y : A). o.add x y) (mono_times m q) (poly_scale m qs) ∙ sym (L.mul_distrib_left (mono m) (mono q) (poly qs))

    poly_product : (ps qs : List (List ℕ)) → poly (product ps qs) ≡ o.mul (poly ps) (poly qs)
    unfolding poly
    poly_product [] qs = sym (L.zero_mul (poly qs))
    poly_product (m ∷ ps) qs =
        poly_append (scale m qs) (product ps qs)
        ∙ ap₂ (λ (x y : A). o.add x y) (poly_scale m qs) (poly_product ps qs)
        ∙ sym (distrib_right (mono m) (poly ps) (poly qs))

    -- an expression, with what it takes away added, is what it adds
    expands : (e : Expr) → o.add (eval o env e) (poly (terms false e)) ≡ poly (terms true e)
    unfolding poly mono
    expands (var i) =
        L.add_comm (get_or env i o.zero) o.zero
        ∙ sym (one_times (get_or env i o.zero))
        ∙ L.mul_comm o.one (get_or env i o.zero)
        ∙ sym (add_zero (o.mul (get_or env i o.zero) o.one) (L.low_mul (get_or env i o.zero) o.one))
    expands #0 = L.zero_add o.zero L.low_zero
    expands #1 = refl
    expands (a ⊕ b) =
        rw (poly_append (terms false a), poly_append (terms true a), ← expands a, ← expands b)
        (plus_step (eval o env a) (eval o env b) (poly (terms false a)) (poly (terms false b)))
    expands (a ⊖ b) =
        rw (poly_append (terms false a), poly_append (terms true a), ← expands a, ← expands b)
        (minus_step (eval o env a) (eval o env b) (poly (terms false a)) (poly (terms false b)))
    expands (a ⊗ b) =
        simp (poly_append, poly_product, ← expands a, ← expands b)
        (times_step (eval o env a) (eval o env b) (poly (terms false a)) (poly (terms false b)))
    expands (⊝ a) = rw (← expands a) (neg_step (eval o env a) (poly (terms false a)) (poly_low (terms false a)))

    same_sound : (m n : List ℕ) → T (same m n) → mono m ≡ mono n
    unfolding mono
    same_sound [] [] t = refl
    same_sound [] (j ∷ n) t = absurd t
    same_sound (i ∷ m) [] t = absurd t
    same_sound (i ∷ m) (j ∷ n) t = go (eqb i j) (eqb→eq i j) (same_sound m n) t
      where
        go : (b : Bool) → (T b → i ≡ j) → (T (same m n) → mono m ≡ mono n) → T (pick b (same m n) false) → mono (i ∷ m) ≡ mono (j ∷ n)
        go true f g t = ap₂ (λ (k : ℕ) (x : A). o.mul (get_or env k o.zero) x) (f tt) (g t)
        go false f g t = absurd t

    remove_sound : (m : List ℕ) (qs : List (List ℕ)) → T (remove m qs).0 → poly qs ≡ o.add (mono m) (poly (remove m qs).1)
    unfolding poly
    remove_sound m [] t = absurd t
    remove_sound m (q ∷ qs) t = go (same m q) (same_sound m q) (remove_sound m qs) t
      where
        rest : Bool → Bool × List (List ℕ)
        rest b = pick b (true, qs) ((remove m qs).0, q ∷ (remove m qs).1)

        go : (b : Bool) → (T b → mono m ≡ mono q) → (T (remove m qs).0 → poly qs ≡ o.add (mono m) (poly (remove m qs).1))
            → T (rest b).0 → o.add (mono q) (poly qs) ≡ o.add (mono m) (poly (rest b).1)
        go true f g t = ap (λ (x : A). o.add x (poly qs)) (sym (f tt))
        go false f g t = ap (λ (x : A). o.add (mono q) x) (g t) ∙ left_comm (mono q) (mono m) (poly (remove m qs).1)

    agree_sound : (ps qs : List (List ℕ)) → T (agree ps qs) → poly ps ≡ poly qs
    unfolding poly
    agree_sound [] [] t = refl
    agree_sound [] (q ∷ qs) t = absurd t
    agree_sound (m ∷ ps) qs t = go (remove m qs).0 (remove m qs).1 (remove_sound m qs) (λ r. agree_sound ps r) t
      where
        go : (b : Bool) (r : List (List ℕ)) → (T b → poly qs ≡ o.add (mono m) (poly r)) → ((r : List (List ℕ)) → T (agree ps r) → poly ps ≡ poly r)
            → T (pick b (agree ps r) false) → o.add (mono m) (poly ps) ≡ poly qs
        go true r f g t = ap (λ (x : A). o.add (mono m) x) (g r t) ∙ sym (f tt)
        go false r f g t = absurd t

    meets : (a b : Expr) → o.add (eval o env a) (o.add (poly (terms false a)) (poly (terms false b))) ≡ poly (terms true a ++ terms false b)
    meets a b =
        sym (L.add_assoc (eval o env a) (poly (terms false a)) (poly (terms false b)))
        ∙ ap (λ (x : A). o.add x (poly (terms false b))) (expands a)
        ∙ sym (poly_append (terms true a) (terms false b))

    -- The identity, where both sides are in lowest form.
    pub solve : (a b : Expr) → T (equal a b) → L.Low (eval o env a) → L.Low (eval o env b) → eval o env a ≡ eval o env b
    solve a b t low-a low-b =
        sym (L.zero_add (eval o env a) low-a)
        ∙ cancel (eval o env a) (eval o env b) (o.add (poly (terms false a)) (poly (terms false b)))
        (meets a b
        ∙ agree_sound (terms true a ++ terms false b) (terms true b ++ terms false a) t
        ∙ sym (meets b a)
        ∙ ap (λ (x : A). o.add (eval o env b) x) (L.add_comm (poly (terms false b)) (poly (terms false a))))
        ∙ L.zero_add (eval o env b) low-b

    low_composite : (e : Expr) → T (composite e) → L.Low (eval o env e)
    low_composite (var i) t = absurd t
    low_composite #0 t = L.low_zero
    low_composite #1 t = L.low_one
    low_composite (a ⊕ b) t = L.low_add (eval o env a) (eval o env b)
    low_composite (a ⊖ b) t = L.low_sub (eval o env a) (eval o env b)
    low_composite (a ⊗ b) t = L.low_mul (eval o env a) (eval o env b)
    low_composite (⊝ a) t = L.low_neg (eval o env a)

    -- The identity, where neither side is a bare variable.
    pub identity : (a b : Expr) → T (composite a && composite b && equal a b) → eval o env a ≡ eval o env b
    identity a b t =
        solve a b
        (and_yes (composite a && composite b) (equal a b) t).1
        (low_composite a (and_yes (composite a) (composite b) (and_yes (composite a && composite b) (equal a b) t).0).0)
        (low_composite b (and_yes (composite a) (composite b) (and_yes (composite a && composite b) (equal a b) t).0).1)

    -- The identity, where the right side is in lowest form.
    pub reduces : (a b : Expr) → T (composite a && equal a b) → L.Low (eval o env b) → eval o env a ≡ eval o env b
    reduces a b t h = solve a b (and_yes (composite a) (equal a b) t).1 (low_composite a (and_yes (composite a) (equal a b) t).0) h
