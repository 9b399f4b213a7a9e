-- In both fields zero alone has the square zero, so a circuit's last operation tells whether the root's value is zero.
use Rattle.std.specs.Prelude.{ℕ, ◌+◌, ◌-◌, ◌*◌, ◌%◌, ◌<◌, Option, List, ◌≡◌, ◌⊎◌, ◌↔◌, length, get_or}
use Rattle.std.proofs.Common.{sym, ◌∙◌, ap, ap₂, inl, inr, arith, lit<, add-zero, zero-add}
use Rattle.std.proofs.Math.Nat.{mod-mod, mod-add-mod, add-mod-mod}
use Rattle.ring.specs.Ring.{Ops}
use Rattle.field.specs.Field.{p, modulus_of, new, felt, elements, Below, mul_parts, mul_part}
use Rattle.field.specs.Fields.{Low, element_laws, field_of}
use Rattle.field.specs.declared.Prime.{Prime}
use Rattle.field.specs.declared.Prime.TheVariants.{Goldilocks, BabyBear}
use Rattle.field.specs.declared.QuadFelt.{QuadFelt}
use Rattle.dag.specs.WellFormed.{WellFormed}
use Rattle.dag.specs.declared.NodeKind.{NodeKind}
use Rattle.circuit.specs.declared.AceNode.TheVariants as Node
use Rattle.circuit.specs.Circuit.{node}
use Rattle.chiplet.specs.Run.{list_operations, list_counts, num_vars, worth, Ran, zero_tells}
use Rattle.chiplet.specs.Primes.{prime_divides, prime_factor}

-- a coordinate with the square zero
square_zero : (prime : Prime) (a : ℕ) → a < modulus_of prime → a * a % modulus_of prime ≡ 0 → a ≡ 0
square_zero prime a h e = go (prime_factor prime a a h h e)
  where
    go : (a ≡ 0) ⊎ (a ≡ 0) → a ≡ 0
    go (inl q) = q
    go (inr q) = q

-- in field 1: a² + 7b² and 2ab are zero
module _ (a b : ℕ) (h : a < p) (k : b < p) (first : (a * a % p + 7 * (b * b % p) % p) % p ≡ 0) (second : (a * b % p + b * a % p) % p ≡ 0) where
  -- so ab is
  product_zero : a * b % p ≡ 0
  product_zero =
      let double : 2 * (a * b) ≡ a * b + b * a = omega arith in
      prime_divides Goldilocks 2 (a * b) (omega arith) (lit< tt) (ap (λ n. n % p) double ∙ (sym (mod-add-mod (a * b) p (b * a)) ∙ (sym (add-mod-mod (a * b % p) (b * a) p) ∙ second)))

  -- so one of them, and then both
  both : (a ≡ 0) ⊎ (b ≡ 0) → (a ≡ 0) × (b ≡ 0)
  both (inl q) =
      let seven : 7 * (b * b % p) % p ≡ 0 = sym (mod-mod (7 * (b * b % p)) p) ∙ (ap (λ n. n % p) (sym (zero-add (7 * (b * b % p) % p))) ∙ rw q at first) in
      (q, square_zero Goldilocks b k (sym (mod-mod (b * b) p) ∙ prime_divides Goldilocks 7 (b * b % p) (omega arith) (lit< tt) seven))
  both (inr q) =
      let alone : (a * a % p + 0) % p ≡ 0 = rw q at first in
      (square_zero Goldilocks a h (sym (mod-mod (a * a) p) ∙ (ap (λ n. n % p) (sym (add-zero (a * a % p))) ∙ alone)), q)

  parts_zero : (a ≡ 0) × (b ≡ 0)
  parts_zero = both (prime_factor Goldilocks a b h k product_zero)

-- zero alone has the square zero
pub zero_squares : (prime : Prime) (x : QuadFelt) → Below prime x → (elements prime).mul x x ≡ (elements prime).zero → x ≡ (elements prime).zero
unfolding elements felt
zero_squares Goldilocks x h e =
    let parts = sym (mul_parts x x) ∙ e in
    let zeros = parts_zero x.c0 x.c1 h.0 h.1 (ap (λ y. y.c0) parts) (ap (λ y. y.c1) parts) in
    ap₂ new zeros.0 zeros.1
zero_squares BabyBear x h e =
    let second : x.c1 ≡ 0 = omega (arith, h.1) in
    ap₂ new (square_zero BabyBear x.c0 h.0 (ap (λ y. y.c0) (sym (mul_part x x) ∙ e))) second

-- so the last operation, padding counted in, has the value zero exactly where the root has
module _ (prime : Prime) (find : ℕ → Option ℕ) (inputs : List QuadFelt) (l : List NodeKind) (w : WellFormed (Low (field_of prime)) l) where
  abbrev F : Ops QuadFelt
  F = elements prime

  pub last_tells : (rest : List ℕ) (vs : List QuadFelt) → Ran F find inputs l rest vs → (root : ℕ) → root < length l
      → node F find l root ≡ Node.Operation (length (list_operations F find inputs l) - 1) → 0 < length (list_operations F find inputs l)
      → (get_or vs (num_vars F find inputs l + ((list_counts F find inputs l).operations - 1)) F.zero ≡ F.zero) ↔ (worth F find inputs l root ≡ F.zero)
  last_tells rest vs r root inside last more =
      zero_tells F find inputs l rest vs r root inside last more (element_laws (field_of prime)) (Low (field_of prime)) w (zero_squares prime)
