-- What the functions on columns ask and say.
use Rattle.std.specs.Prelude.{ℕ, zero, suc, ◌+◌, ◌<◌, ◌≤◌, true, cond, List, ◌≡◌, eqb, get_or, length}
use Rattle.columns.specs.Columns.{is_power, values, column, gain, is_among, saving}
use Rattle.columns.specs.Prepare.{total, columns, all_below, most_columns}
use Rattle.std.specs.Prelude.{sum, map, filter}
use Rattle.std.specs.List.{zip}
use Rattle.dag.specs.Arrays.{up_to}

-- a column that was tested
pub record Column (m : ℕ) (c : List ℕ) : Type 0 where
  pub some : 0 < length c
  pub short : length c ≤ 128
  pub power : is_power 7 (length c) ≡ true
  pub low : all_below m c ≡ true

-- a column that was tested, with its values
pub record Classes (m : ℕ) (c vs : List ℕ) : Type 0 where
  pub short : length c ≤ 128
  pub low : all_below m c ≡ true
  pub are : vs ≡ values c

-- lengths that passed, with enough entries
pub record Handed (ls es : List ℕ) : Type 0 where
  pub few : length ls ≤ most_columns
  pub powers : (j : ℕ) → j < length ls → is_power 7 (get_or ls j 0) ≡ true
  pub small : total ls ≤ 2048
  pub enough : total ls ≤ length es

-- columns that passed
pub record Tested (m : ℕ) (ls es : List ℕ) : Type 0 where
  pub handed : Handed ls es
  pub low : (j : ℕ) → j < length ls → all_below m (column (columns ls es) j) ≡ true

-- what each column saves, and what it adds to its period's savings
unfoldable pub gains : ℕ → List (List ℕ) → List ℕ
gains m cs = up_to (λ j. gain m (column cs j)) (length cs)

unfoldable pub savings_each : ℕ → List (List ℕ) → List ℕ
savings_each m cs = up_to (saving m cs) (length cs)

-- the columns save gs and add each, modulo m
pub record Weighs (m : ℕ) (cs : List (List ℕ)) (gs each : List ℕ) : Type 0 where
  pub gained : gs ≡ gains m cs
  pub saved : each ≡ savings_each m cs

-- what column j adds, where the columns save gs
unfoldable pub counted : List (List ℕ) → List ℕ → ℕ → ℕ
counted cs gs j = cond (is_among cs j j) 0 (get_or gs j 0)

-- few columns with small savings
pub record Small (ls each : List ℕ) : Type 0 where
  pub few : length ls ≤ most_columns
  pub room : length ls ≤ length each
  pub small : (j : ℕ) → j < length ls → get_or each j 0 ≤ 4096

-- what the columns of period P add, where each adds `each`
abbrev pub added : List ℕ → List ℕ → ℕ → ℕ
added ls each P = sum (map (λ (p : ℕ × ℕ). p.1) (filter (λ (p : ℕ × ℕ). eqb p.0 P) (zip ls each)))

-- the same of the first n columns
unfoldable pub savings_of : List ℕ → List ℕ → ℕ → ℕ → ℕ
savings_of ls each P zero = 0
savings_of ls each P (suc n) = savings_of ls each P n + cond (eqb (get_or ls n 0) P) (get_or each n 0) 0
