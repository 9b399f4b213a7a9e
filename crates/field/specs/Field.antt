-- The two fields: residues modulo p, and pairs of them with u² = 7; residues modulo q, which have no second part.
use Rattle.std.specs.Prelude.{◌≡◌, ℕ, ◌+◌, ◌-◌, ◌^◌, ◌<◌, ◌≤◌, Bool, ◌&&◌, ◌==◌, refl}
use Rattle.std.proofs.Common.{sym, ap, ap₂, arith, lit<, lit≤}
use Rattle.ring.specs.Ring.{Ops, Laws, with_low}
use Rattle.ring.specs.Residue.{residues, residues_laws}
use Rattle.ring.specs.Pair.{IsPair, pairs, pairs_laws}
use Rattle.ring.specs.First.{firsts, firsts_laws}
use Rattle.field.specs.declared.Prime.{Prime}
use Rattle.field.specs.declared.Prime.TheVariants.{Goldilocks, BabyBear}
use Rattle.field.specs.declared.QuadFelt.{QuadFelt}

-- the primes
abbrev pub p : ℕ
p = 18446744069414584321

abbrev pub q : ℕ
q = 2013265921

pub p_is : p ≡ 2 ^ 64 - 2 ^ 32 + 1
p_is = refl

pub q_is : q ≡ 2 ^ 31 - 2 ^ 27 + 1
q_is = refl

abbrev pub modulus_of : Prime → ℕ
modulus_of Goldilocks = p
modulus_of BabyBear = q

-- second coordinates are below this: in field 2 each is 0
abbrev pub second_below : Prime → ℕ
second_below Goldilocks = p
second_below BabyBear = 1

-- the coordinates
unfoldable pub felt : Prime → Ops ℕ
felt prime = residues (modulus_of prime)

abbrev pub new : ℕ → ℕ → QuadFelt
new a b = record { c0 = a; c1 = b }

abbrev pub is_quad : IsPair QuadFelt ℕ
is_quad = record { mk = new; c0 = λ x. x.c0; c1 = λ x. x.c1; c0_mk = λ a b. refl; c1_mk = λ a b. refl; mk_eta = λ x. refl }

-- u, and its square as a coordinate
abbrev pub u : QuadFelt
u = new 0 1

abbrev pub u_squared : ℕ
u_squared = 7

-- the operations on elements
abbrev pub arithmetic : Prime → Ops QuadFelt
arithmetic Goldilocks = pairs is_quad (felt Goldilocks) u_squared
arithmetic BabyBear = firsts is_quad (felt BabyBear)

-- the elements: zero and one are the same in both fields
unfoldable pub elements : Prime → Ops QuadFelt
elements prime =
    record {
      zero = new 0 0;
      one = new 1 0;
      add = (arithmetic prime).add;
      sub = (arithmetic prime).sub;
      mul = (arithmetic prime).mul;
      neg = (arithmetic prime).neg;
    }

-- In lowest form: both coordinates are below their bounds.
abbrev pub Below : Prime → QuadFelt → Type 0
Below prime x = (x.c0 < modulus_of prime) × (x.c1 < second_below prime)

pub large : (prime : Prime) → 1 < modulus_of prime
large Goldilocks = lit< tt
large BabyBear = lit< tt

pub zero_second : (prime : Prime) → 0 < second_below prime
zero_second Goldilocks = lit< tt
zero_second BabyBear = lit< tt

-- what second coordinates are below is at most the modulus
pub second_most : (prime : Prime) → second_below prime ≤ modulus_of prime
second_most Goldilocks = omega arith
second_most BabyBear = lit≤ tt

-- The laws hold of the residues modulo any number above 1, of the pairs over any ring, and of their first parts.
pub of_residues : (prime : Prime) → Laws (felt prime)
unfolding felt
of_residues prime = residues_laws (modulus_of prime) (large prime)

pub of_residues_low : (prime : Prime) (a : ℕ) → (of_residues prime).Low a → a < modulus_of prime
unfolding of_residues felt
of_residues_low prime a h = h

pub low_of_residues : (prime : Prime) (a : ℕ) → a < modulus_of prime → (of_residues prime).Low a
unfolding of_residues felt
low_of_residues prime a h = h

abbrev pub felt_laws : (prime : Prime) → Laws (felt prime)
felt_laws prime = with_low (of_residues prime) (λ a. a < modulus_of prime) (of_residues_low prime) (low_of_residues prime)

pub of_elements : (prime : Prime) → Laws (elements prime)
unfolding elements felt
of_elements Goldilocks = pairs_laws is_quad (felt_laws Goldilocks) u_squared
of_elements BabyBear = firsts_laws is_quad (felt_laws BabyBear)

pub of_elements_low : (prime : Prime) (x : QuadFelt) → (of_elements prime).Low x → Below prime x
unfolding of_elements elements felt
of_elements_low Goldilocks x h = h
of_elements_low BabyBear x h = (h.0, let e = h.1 in omega arith)

pub low_of_elements : (prime : Prime) (x : QuadFelt) → Below prime x → (of_elements prime).Low x
unfolding of_elements elements felt
low_of_elements Goldilocks x h = h
low_of_elements BabyBear x h = (h.0, let e = h.1 in omega arith)

abbrev pub element_laws_lem : (prime : Prime) → Laws (elements prime)
element_laws_lem prime = with_low (of_elements prime) (Below prime) (of_elements_low prime) (low_of_elements prime)

-- In field 2 the second coordinates of two elements in lowest form are 0, and so is what comes of them.
only_zero : (c : ℕ) → c < 1 → c ≡ 0
only_zero c h = omega arith

-- The parts of each operation on elements in lowest form.
pub add_parts : (prime : Prime) (x y : QuadFelt) → Below prime x → Below prime y
    → (elements prime).add x y ≡ new ((felt prime).add x.c0 y.c0) ((felt prime).add x.c1 y.c1)
unfolding elements felt
add_parts Goldilocks x y h k = refl
add_parts BabyBear x y h k = ap (new _) (sym (ap₂ (felt BabyBear).add (only_zero x.c1 h.1) (only_zero y.c1 k.1)))

pub sub_parts : (prime : Prime) (x y : QuadFelt) → Below prime x → Below prime y
    → (elements prime).sub x y ≡ new ((felt prime).sub x.c0 y.c0) ((felt prime).sub x.c1 y.c1)
unfolding elements felt
sub_parts Goldilocks x y h k = refl
sub_parts BabyBear x y h k = ap (new _) (sym (ap₂ (felt BabyBear).sub (only_zero x.c1 h.1) (only_zero y.c1 k.1)))

pub neg_parts : (prime : Prime) (x : QuadFelt) → Below prime x → (elements prime).neg x ≡ new ((felt prime).neg x.c0) ((felt prime).neg x.c1)
unfolding elements felt
neg_parts Goldilocks x h = refl
neg_parts BabyBear x h = ap (new _) (sym (ap (felt BabyBear).neg (only_zero x.c1 h.1)))

-- The parts of a product: in field 2 there is one.
pub mul_parts : (x y : QuadFelt)
    → (elements Goldilocks).mul x y
    ≡ new
    ((felt Goldilocks).add ((felt Goldilocks).mul x.c0 y.c0) ((felt Goldilocks).mul u_squared ((felt Goldilocks).mul x.c1 y.c1)))
    ((felt Goldilocks).add ((felt Goldilocks).mul x.c0 y.c1) ((felt Goldilocks).mul x.c1 y.c0))
unfolding elements
mul_parts x y = refl

pub mul_part : (x y : QuadFelt) → (elements BabyBear).mul x y ≡ new ((felt BabyBear).mul x.c0 y.c0) 0
unfolding elements felt
mul_part x y = refl

-- Whether both coordinates are the same numbers.
unfoldable pub same : QuadFelt → QuadFelt → Bool
same x y = x.c0 == y.c0 && x.c1 == y.c1

-- (I) u × u = 7; in field 2 there is no u, and (q − 1) × (q − 1) = 1
pub u_squared_lem : (elements Goldilocks).mul u u ≡ new u_squared 0
unfolding elements felt
u_squared_lem = refl

pub top_squared : (elements BabyBear).mul (new (q - 1) 0) (new (q - 1) 0) ≡ new 1 0
unfolding elements felt
top_squared = refl

-- whatever comes in, an answer of field 2 has no second part
pub no_second : (x y : QuadFelt)
    → (((elements BabyBear).add x y).c1 ≡ 0)
    × (((elements BabyBear).sub x y).c1 ≡ 0)
    × (((elements BabyBear).mul x y).c1 ≡ 0)
    × (((elements BabyBear).neg x).c1 ≡ 0)
unfolding elements felt
no_second x y = (refl, refl, refl, refl)

-- (J) (m − 1) + (m − 1) = m − 2
pub top_doubled : (prime : Prime) → (felt prime).add (modulus_of prime - 1) (modulus_of prime - 1) ≡ modulus_of prime - 2
unfolding felt
top_doubled Goldilocks = refl
top_doubled BabyBear = refl
