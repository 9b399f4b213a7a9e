-- What describes a field: which coordinates are in lowest form, its rings with their laws, its generators, one half.
use Rattle.std.specs.Prelude.{◌≡◌, ℕ, ◌+◌, ◌^◌, ◌<◌, ◌≤◌, refl}
use Rattle.ring.specs.Ring.{Ops, Laws, with_low}
use Rattle.ring.specs.Power.{pow}
use Rattle.ring.specs.Residue as Residue
use Rattle.field.specs.Field as Primes
use Rattle.field.specs.Generators as Generators
use Rattle.field.specs.declared.Prime.{Prime}
use Rattle.field.specs.declared.Prime.TheVariants.{Goldilocks}
use Rattle.field.specs.declared.QuadFelt.{QuadFelt}

-- coordinates in lowest form: c0 and c1 are below these
pub record Bounds : Type 0 where
  pub c0_below : ℕ
  pub c1_below : ℕ

abbrev pub Within : Bounds → QuadFelt → Type 0
Within m x = (x.c0 < m.c0_below) × (x.c1 < m.c1_below)

pub record Field : Type 1 where
  pub bounds : Bounds
  -- the ring of coordinates, residues of the modulus, and the ring of elements
  pub coordinates : Ops ℕ
  pub elements : Ops QuadFelt
  -- generator k has order 2^k, and one half
  pub generator : ℕ → ℕ
  pub half : ℕ
  -- the longest shared period is 2^most_log
  pub most_log : ℕ
  -- what holds of them
  pub coordinates_ring : Laws coordinates
  pub ring_coordinate : (a : ℕ) → coordinates_ring.Low a → a < bounds.c0_below
  pub coordinate_ring : (a : ℕ) → a < bounds.c0_below → coordinates_ring.Low a
  pub elements_ring : Laws elements
  pub ring_element : (x : QuadFelt) → elements_ring.Low x → Within bounds x
  pub element_ring : (x : QuadFelt) → Within bounds x → elements_ring.Low x
  pub large : 1 < bounds.c0_below
  pub zero_second : 0 < bounds.c1_below
  pub one_is : coordinates.one ≡ 1
  pub coordinates_sub : (a b : ℕ) → coordinates.sub a b ≡ Residue.sub bounds.c0_below a b
  pub generator_square : (k : ℕ) → k < most_log → generator k ≡ coordinates.mul (generator (k + 1)) (generator (k + 1))
  pub generator_order : (k : ℕ) → k ≤ most_log → pow coordinates (generator k) (2 ^ k) ≡ 1
  pub half_inverse : (n : ℕ) → coordinates.mul (pow coordinates 2 n) (pow coordinates half n) ≡ 1
  pub columns_fit : 7 ≤ most_log

-- the modulus
abbrev pub modulus : Field → ℕ
modulus f = f.bounds.c0_below

-- an element in lowest form
abbrev pub Low : Field → QuadFelt → Type 0
Low f x = Within f.bounds x

abbrev pub coordinate_laws : (f : Field) → Laws f.coordinates
coordinate_laws f = with_low f.coordinates_ring (λ a. a < modulus f) f.ring_coordinate f.coordinate_ring

abbrev pub element_laws : (f : Field) → Laws f.elements
element_laws f = with_low f.elements_ring (Low f) f.ring_element f.element_ring

pub subtracts : (prime : Prime) (a b : ℕ) → (Primes.felt prime).sub a b ≡ Residue.sub (Primes.modulus_of prime) a b
unfolding Primes.felt
subtracts prime a b = refl

-- field 1: p, with u² = 7; field 2: q
abbrev pub field_of : Prime → Field
field_of prime =
    record {
      bounds = record { c0_below = Primes.modulus_of prime; c1_below = Primes.second_below prime };
      coordinates = Primes.felt prime;
      elements = Primes.elements prime;
      generator = Generators.generator prime;
      half = Generators.half prime;
      most_log = Generators.most_log prime;
      coordinates_ring = Primes.of_residues prime;
      ring_coordinate = Primes.of_residues_low prime;
      coordinate_ring = Primes.low_of_residues prime;
      elements_ring = Primes.of_elements prime;
      ring_element = Primes.of_elements_low prime;
      element_ring = Primes.low_of_elements prime;
      large = Primes.large prime;
      zero_second = Primes.zero_second prime;
      one_is = Generators.one_is prime;
      coordinates_sub = subtracts prime;
      generator_square = Generators.generator_square prime;
      generator_order = Generators.generator_order prime;
      half_inverse = Generators.half_inverse prime;
      columns_fit = Generators.columns_fit prime;
    }

abbrev pub goldilocks : Field
goldilocks = field_of Goldilocks
