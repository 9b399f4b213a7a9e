-- What the functions of Lower ask and say.
use Rattle.std.specs.Prelude.{ℕ, ◌<◌, ◌≤◌, List, ◌≡◌, Bool, cond, length, leb, Result, Ok, Err}
use Rattle.field.specs.Fields.{Field, modulus}
use Rattle.dag.specs.View.{View, interleaved}
use Rattle.dag.specs.Nodes.{filled}
use Rattle.dag.specs.Store.{front, stored}
use Rattle.dag.specs.Refusals.{Checked, need, ◌then◌, unless_refused}
use Rattle.columns.specs.Columns.{log_within, log_length, column}
use Rattle.columns.specs.Prepare.{columns, prepare_check}
use Rattle.columns.specs.declared.Form.{Form}
use Rattle.columns.specs.declared.Form.TheVariants.{Sparse}
use Rattle.periodic.specs.Promises.{Few}
use Rattle.dag.specs.declared.Refusal.{Refusal}
use Rattle.dag.specs.declared.Refusal.TheVariants.{NoRoom, SharedPeriod}
use Rattle.lower.specs.Lower.{period_good, lowered, lower_stores, lower_room}

-- a column in a form that it can have
pub record Formed (c : List ℕ) (f : Form) : Type 0 where
  pub few : f ≡ Sparse → Few c

-- a list of count records has room
abbrev pub has_room : ℕ → List ℕ → Bool
has_room count result = leb count (interleaved result).room

-- what was built is handed over where it has room
pub record HandedOver (work : List ℕ) (count : ℕ) (ns result places : List ℕ) (r : Result ℕ Refusal) (after listed : List ℕ) : Type 0 where
  pub answer : r ≡ cond (has_room count result) (Ok count) (Err NoRoom)
  pub result_is : after ≡ cond (has_room count result) (filled (length result) (front count work)) result
  pub places_are : listed ≡ cond (has_room count result) (filled (length places) ns) places

-- columns none longer than 2^log
pub record Covered (ls es : List ℕ) (log : ℕ) : Type 0 where
  pub covers : (j : ℕ) → j < length ls → log_length (column (columns ls es) j) ≤ log

module _ (field : Field) where
  -- the tests behind the list's
  abbrev pub columns_check : List ℕ → List ℕ → ℕ → ℕ → ℕ → Checked
  columns_check ls es period work_room place_words =
      prepare_check (modulus field) ls es
      then lower_stores ls work_room place_words
      then need (period_good field ls period) SharedPeriod

  -- what they give of the places and the period
  pub record Ready (ls es : List ℕ) (period place_words : ℕ) : Type 0 where
    pub place_room : length ls ≤ place_words
    pub covered : Covered ls es (log_within field.most_log period)

  -- the answer and the stores, past the first tests
  pub record Finished (s : View) (n : ℕ) (ls es : List ℕ) (period : ℕ) (result places : List ℕ) (r : Result ℕ Refusal) (after listed : List ℕ) : Type 0 where
    pub answer : r ≡ unless_refused (lower_room (lowered field s n ls es period) (interleaved result).room) Err (Ok (length (lowered field s n ls es period).list))
    pub result_is : after ≡ unless_refused (lower_room (lowered field s n ls es period) (interleaved result).room) (λ q. result) (stored result (lowered field s n ls es period).list)
    pub places_are : listed ≡ unless_refused (lower_room (lowered field s n ls es period) (interleaved result).room) (λ q. places) (filled (length places) (lowered field s n ls es period).answer)
