-- The operations of a commutative ring, and its laws. A carrier may hold several forms of one element: what ends in an
-- operand itself asks that the operand is in lowest form. Every operation answers the lowest form.
use Rattle.std.specs.Prelude.{◌≡◌}

pub record Ops (A : Type 0) : Type 0 where
  pub zero : A
  pub one : A
  pub add : A → A → A
  pub sub : A → A → A
  pub mul : A → A → A
  pub neg : A → A

pub record Laws {A : Type 0} (o : Ops A) : Type 1 where
  -- in lowest form
  pub Low : A → Type 0
  pub low_zero : Low o.zero
  pub low_one : Low o.one
  pub low_add : (a b : A) → Low (o.add a b)
  pub low_sub : (a b : A) → Low (o.sub a b)
  pub low_mul : (a b : A) → Low (o.mul a b)
  pub low_neg : (a : A) → Low (o.neg a)
  pub add_comm : (a b : A) → o.add a b ≡ o.add b a
  pub add_assoc : (a b c : A) → o.add (o.add a b) c ≡ o.add a (o.add b c)
  pub mul_comm : (a b : A) → o.mul a b ≡ o.mul b a
  pub mul_assoc : (a b c : A) → o.mul (o.mul a b) c ≡ o.mul a (o.mul b c)
  pub mul_distrib_left : (a b c : A) → o.mul a (o.add b c) ≡ o.add (o.mul a b) (o.mul a c)
  pub mul_distrib_sub : (a b c : A) → o.mul a (o.sub b c) ≡ o.sub (o.mul a b) (o.mul a c)
  pub zero_add : (a : A) → Low a → o.add o.zero a ≡ a
  pub one_mul : (a : A) → Low a → o.mul o.one a ≡ a
  pub zero_mul : (a : A) → o.mul o.zero a ≡ o.zero
  pub sub_self : (a : A) → o.sub a a ≡ o.zero
  pub sub_add_neg : (a b : A) → o.sub a b ≡ o.add a (o.neg b)
  pub add_neg : (a : A) → o.add a (o.neg a) ≡ o.zero
  pub neg_neg : (a : A) → Low a → o.neg (o.neg a) ≡ a

-- The same laws under another name for the lowest form.
abbrev pub with_low : {A : Type 0} {o : Ops A} (L : Laws o) (Low : A → Type 0) → ((a : A) → L.Low a → Low a) → ((a : A) → Low a → L.Low a) → Laws o
with_low {o = o} L Low to from =
    record {
      Low = Low;
      low_zero = to o.zero L.low_zero;
      low_one = to o.one L.low_one;
      low_add = λ a b. to (o.add a b) (L.low_add a b);
      low_sub = λ a b. to (o.sub a b) (L.low_sub a b);
      low_mul = λ a b. to (o.mul a b) (L.low_mul a b);
      low_neg = λ a. to (o.neg a) (L.low_neg a);
      add_comm = L.add_comm;
      add_assoc = L.add_assoc;
      mul_comm = L.mul_comm;
      mul_assoc = L.mul_assoc;
      mul_distrib_left = L.mul_distrib_left;
      mul_distrib_sub = L.mul_distrib_sub;
      zero_add = λ a h. L.zero_add a (from a h);
      one_mul = λ a h. L.one_mul a (from a h);
      zero_mul = L.zero_mul;
      sub_self = L.sub_self;
      sub_add_neg = L.sub_add_neg;
      add_neg = L.add_neg;
      neg_neg = λ a h. L.neg_neg a (from a h);
    }
