-- Prepare: the tests of columns that are handed over, and the answer.
use Rattle.std.specs.Prelude.{ℕ, ◌+◌, Bool, true, ◌&&◌, List, [], ◌∷◌, leb, ltb, get_or, length, take, drop, Result, Ok, Err}
use Rattle.dag.specs.Arrays.{up_to}
use Rattle.dag.specs.Refusals.{Checked, first_refused, need, ◌then◌}
use Rattle.dag.specs.declared.Refusal.{Refusal}
use Rattle.dag.specs.declared.Refusal.TheVariants.{StoreTooShort, Malformed, TooManyColumns, ColumnLength}
use Rattle.columns.specs.Columns.{is_power, column, form}
use Rattle.columns.specs.declared.Form.{Form}
use Rattle.columns.specs.declared.Prepared.{Prepared}

-- how many entries columns of these lengths have
unfoldable pub total : List ℕ → ℕ
total [] = 0
total (n ∷ ls) = n + total ls

-- the columns of these lengths, one after the other
unfoldable pub columns : List ℕ → List ℕ → List (List ℕ)
columns [] es = []
columns (n ∷ ls) es = take n es ∷ columns ls (drop n es)

unfoldable pub all_below : ℕ → List ℕ → Bool
all_below m [] = true
all_below m (v ∷ c) = ltb v m && all_below m c

-- a length is a power of two in 1 to 128
unfoldable pub length_check : List ℕ → ℕ → Checked
length_check ls j = need (is_power 7 (get_or ls j 0)) (ColumnLength j)

-- a column's entries are below m
unfoldable pub entries_check : ℕ → List (List ℕ) → ℕ → Checked
entries_check m cs j = need (all_below m (column cs j)) (Malformed j)

-- the most columns
abbrev pub most_columns : ℕ
most_columns = 16

-- 13, 14, 2, 4
unfoldable pub prepare_check : ℕ → List ℕ → List ℕ → Checked
prepare_check m ls es =
    need (leb (length ls) most_columns) TooManyColumns
    then first_refused (length_check ls) (length ls)
    then need (leb (total ls) (length es)) StoreTooShort
    then first_refused (entries_check m (columns ls es)) (length ls)

-- the columns' forms
unfoldable pub forms : ℕ → List (List ℕ) → List Form
forms m cs = up_to (form m cs) (length cs)

-- the answer to columns that were tested
unfoldable pub answer : ℕ → List (List ℕ) → Checked → Result Prepared Refusal
answer m cs (Ok u) = Ok (forms m cs)
answer m cs (Err r) = Err r

unfoldable pub prepare : ℕ → List ℕ → List ℕ → Result Prepared Refusal
prepare m ls es = answer m (columns ls es) (prepare_check m ls es)
