-- Sums over every s-th entry, and how sums over half as many entries make them up.
use Rattle.std.specs.Prelude.{ℕ, ◌+◌, ◌*◌, ◌-◌, ◌^◌, ◌<◌, cond, List, ◌≡◌, ltb, get_or, length}
use Rattle.field.specs.Fields.{Field, modulus}
use Rattle.ring.specs.Ring.{Ops}
use Rattle.ring.specs.Power.{pow}
use Rattle.ring.specs.Sums.{sum}
use Rattle.coefficients.specs.Terms.{root_inverse}

-- the n entries from place r on, s apart, at the powers of v^h
unfoldable pub part : Ops ℕ → ℕ → List ℕ → ℕ → ℕ → ℕ → ℕ → ℕ
part o v c s n r h = sum o (λ i. o.mul (get_or c (s * i + r) 0) (pow o v (h * i))) n

-- n rows of s words: word r of row j is the sum from place r on, s apart, at the powers of v^(j·s)
pub record Level (o : Ops ℕ) (v : ℕ) (c : List ℕ) (s n : ℕ) (t : List ℕ) : Type 0 where
  pub at : (j r : ℕ) → j < n → r < s → get_or t (j * s + r) 0 ≡ part o v c s n r (j * s)

-- j, counted round a circle of n
unfoldable pub round : ℕ → ℕ → ℕ
round n j = cond (ltb j n) j (j - n)

-- word r of a row of s words, from the row of twice as many at place a
abbrev pub joined : Ops ℕ → List ℕ → ℕ → ℕ → ℕ → ℕ → ℕ
joined o from s x a r = o.add (get_or from (a + r) 0) (o.mul x (get_or from (a + s + r) 0))

-- row j of twice n rows of s words was made of the n rows of 2·s words, with the factor that stands at place j·s
pub record Halved (o : Ops ℕ) (from factors : List ℕ) (s n : ℕ) (t : List ℕ) : Type 0 where
  pub at : (j r : ℕ) → j < 2 * n → r < s → get_or t (j * s + r) 0 ≡ joined o from s (get_or factors (j * s) 0) (round n j * (2 * s)) r

module _ (field : Field) where
  -- the words of a table are below p
  pub record LowTable (t : List ℕ) : Type 0 where
    pub at : (i : ℕ) → get_or t i 0 < modulus field

  -- the s words from place a on are those of f, and those before them are as they were
  pub record RowDone (f : ℕ → ℕ) (old : List ℕ) (a s : ℕ) (t : List ℕ) : Type 0 where
    pub kept : (i : ℕ) → i < a → get_or t i 0 ≡ get_or old i 0
    pub filled : (r : ℕ) → r < s → get_or t (a + r) 0 ≡ f r
    pub many : length t ≡ length old
    pub low : LowTable t

  -- a column's table of n rows of s words
  pub record Reached (c : List ℕ) (s n : ℕ) (t : List ℕ) : Type 0 where
    pub even : (k : ℕ) × (s ≡ 2 ^ k)
    pub whole : s * n ≡ length c
    pub level : Level field.coordinates (root_inverse field c) c s n t
    pub low : LowTable t
