-- What the functions of a column in basis ask.
use Rattle.std.specs.Prelude.{ℕ, ◌<◌, ◌≤◌, List, ◌≡◌, get_or, length, Result, IfOk}
use Rattle.std.specs.Borrow.{MutBor}
use Rattle.dag.specs.declared.Refusal.{Refusal}
use Rattle.periodic.specs.Runs.{State, held, Entering}
use Rattle.field.specs.Fields.{Field, modulus}
use Rattle.columns.specs.Columns.{offset}
use Rattle.coefficients.specs.Terms.{root}
use Rattle.periodic.specs.Builder.{Builder, constant, sub, ◌>>=◌}
use Rattle.periodic.specs.Promises.{AllInside}
use Rattle.periodic.specs.declared.PeriodicBuilder.{PeriodicBuilder}

-- a later builder: the same prime, and no fewer records
pub record Later (b c : State) : Type 0 where
  pub prime_is : c.prime ≡ b.prime
  pub longer : b.count ≤ c.count

-- turns on the places of a later builder, each for a value of vs
module _ (b : State) (vs : List ℕ) where
  -- where each turn may be called
  abbrev pub Callable : (MutBor PeriodicBuilder → ℕ → ℕ → Type 0) → Type 0
  Callable pre = (q : MutBor PeriodicBuilder) (k s : ℕ) → Later b (held q.now) → k < length vs → s < q.now.count → pre q (get_or vs k 0) s

  -- each leaves a later builder, and answers a place inside, if any
  abbrev pub Keeps : (MutBor PeriodicBuilder → ℕ → ℕ → Result ℕ Refusal → MutBor PeriodicBuilder → Type 0) → Type 0
  Keeps post =
      (q : MutBor PeriodicBuilder) (k s : ℕ) (r : Result ℕ Refusal) (a : MutBor PeriodicBuilder) → Later b (held q.now) → k < length vs → post q (get_or vs k 0) s r a
      → Later (held q.now) (held a.now) × IfOk r (λ place. place < a.now.count)

  -- each does what m computes
  abbrev pub Computes : (MutBor PeriodicBuilder → ℕ → ℕ → Result ℕ Refusal → MutBor PeriodicBuilder → Type 0) → (ℕ → ℕ → Builder ℕ) → Type 0
  Computes post m =
      (q : MutBor PeriodicBuilder) (k s : ℕ) (r : Result ℕ Refusal) (a : MutBor PeriodicBuilder) → Later b (held q.now) → k < length vs → post q (get_or vs k 0) s r a
      → Entering (held q.now) (λ field. m (get_or vs k 0) s) (held a.now) r

-- places among n records, one for each row of a column
pub record Places (n : ℕ) (c ps : List ℕ) : Type 0 where
  pub long : length ps ≡ length c
  pub inside : AllInside n ps

module _ (field : Field) where
  -- point − root
  unfoldable pub factor : ℕ → ℕ → Builder ℕ
  factor point root = do
    root ← constant field.elements root
    sub field.elements point root

  -- the roots of a column's rows
  pub record Roots (c rs : List ℕ) : Type 0 where
    pub at : (k : ℕ) → k < length c → get_or rs k 0 ≡ root field c k
    pub low : (k : ℕ) → k < length c → get_or rs k 0 < modulus field
    pub many : length rs ≡ length c

  -- a value and the offset of a column
  pub record Class (c : List ℕ) (d v : ℕ) : Type 0 where
    pub offset_is : d ≡ offset (modulus field) c
    pub offset_low : d < modulus field
    pub value_low : v < modulus field
