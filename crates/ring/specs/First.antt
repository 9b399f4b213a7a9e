-- The first parts of pairs over any ring: the ring itself, on a carrier whose second part is then always zero.
use Rattle.std.specs.Prelude.{◌≡◌}
use Rattle.std.proofs.Common.{sym, ◌∙◌, ap}
use Rattle.ring.specs.Ring.{Ops, Laws}
use Rattle.ring.specs.Pair.{IsPair}

abbrev pub firsts : {A B : Type 0} → IsPair A B → Ops B → Ops A
firsts P R =
    record {
      zero = P.mk R.zero R.zero;
      one = P.mk R.one R.zero;
      add = λ a b. P.mk (R.add (P.c0 a) (P.c0 b)) R.zero;
      sub = λ a b. P.mk (R.sub (P.c0 a) (P.c0 b)) R.zero;
      mul = λ a b. P.mk (R.mul (P.c0 a) (P.c0 b)) R.zero;
      neg = λ a. P.mk (R.neg (P.c0 a)) R.zero;
    }

module _ {A B : Type 0} (P : IsPair A B) {R : Ops B} (L : Laws R) where
  abbrev o : Ops A
  o = firsts P R

  abbrev Low : A → Type 0
  Low x = L.Low (P.c0 x) × (P.c1 x ≡ R.zero)

  -- elements of equal first parts
  pub first : {a b : B} → a ≡ b → P.mk a R.zero ≡ P.mk b R.zero
  first e = ap (λ (x : B). P.mk x R.zero) e

  pub low_of : (a : B) → L.Low a → Low (P.mk a R.zero)
  low_of a h = rw (P.c0_mk a R.zero) (h, P.c1_mk a R.zero)

  -- an element in lowest form is that of its first part
  pub whole : (x : A) → Low x → P.mk (P.c0 x) R.zero ≡ x
  whole x h = ap (P.mk (P.c0 x)) (sym h.1) ∙ P.mk_eta x

  -- The laws of the first parts; an element is in lowest form where its first part is and its second is zero.
  abbrev pub firsts_laws : Laws (firsts P R)
  firsts_laws =
      record {
        Low = Low;
        low_zero = low_of R.zero L.low_zero;
        low_one = low_of R.one L.low_one;
        low_add = λ a b. low_of _ (L.low_add (P.c0 a) (P.c0 b));
        low_sub = λ a b. low_of _ (L.low_sub (P.c0 a) (P.c0 b));
        low_mul = λ a b. low_of _ (L.low_mul (P.c0 a) (P.c0 b));
        low_neg = λ a. low_of _ (L.low_neg (P.c0 a));
        add_comm = λ a b. first (L.add_comm (P.c0 a) (P.c0 b));
        add_assoc = λ a b c. simp P.c0_mk (first (L.add_assoc (P.c0 a) (P.c0 b) (P.c0 c)));
        mul_comm = λ a b. first (L.mul_comm (P.c0 a) (P.c0 b));
        mul_assoc = λ a b c. simp P.c0_mk (first (L.mul_assoc (P.c0 a) (P.c0 b) (P.c0 c)));
        mul_distrib_left = λ a b c. simp P.c0_mk (first (L.mul_distrib_left (P.c0 a) (P.c0 b) (P.c0 c)));
        mul_distrib_sub = λ a b c. simp P.c0_mk (first (L.mul_distrib_sub (P.c0 a) (P.c0 b) (P.c0 c)));
        zero_add = λ a h. simp P.c0_mk (first (L.zero_add (P.c0 a) h.0) ∙ whole a h);
        one_mul = λ a h. simp P.c0_mk (first (L.one_mul (P.c0 a) h.0) ∙ whole a h);
        zero_mul = λ a. simp P.c0_mk (first (L.zero_mul (P.c0 a)));
        sub_self = λ a. first (L.sub_self (P.c0 a));
        sub_add_neg = λ a b. simp P.c0_mk (first (L.sub_add_neg (P.c0 a) (P.c0 b)));
        add_neg = λ a. simp P.c0_mk (first (L.add_neg (P.c0 a)));
        neg_neg = λ a h. simp P.c0_mk (first (L.neg_neg (P.c0 a) h.0) ∙ whole a h);
      }
