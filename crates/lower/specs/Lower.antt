-- Lower: its tests, its answer, and every word of every lent store.
use Rattle.std.specs.Prelude.{ℕ, Bool, cond, ◌&&◌, ◌||◌, List, [], ◌∷◌, leb, eqb, length, replicate, Result, Ok, Err}
use Rattle.field.specs.Fields.{Field, modulus}
use Rattle.dag.specs.View.{View, interleaved}
use Rattle.dag.specs.Nodes.{blank, most_records, nodes, filled}
use Rattle.dag.specs.Store.{stored}
use Rattle.dag.specs.Refusals.{Checked, need, ◌then◌, unless_refused}
use Rattle.dag.specs.Check.{room_check, rootless_check}
use Rattle.dag.specs.declared.Refusal.{Refusal}
use Rattle.dag.specs.declared.Refusal.TheVariants.{NoRoom, SharedPeriod}
use Rattle.columns.specs.Columns.{log_within, is_power}
use Rattle.columns.specs.Prepare.{columns, prepare_check}
use Rattle.periodic.specs.Builder.{Run}
use Rattle.periodic.specs.Periodic.{build_periodic_nodes}

-- the longest of m and these lengths
unfoldable pub longest_from : ℕ → List ℕ → ℕ
longest_from m [] = m
longest_from m (n ∷ ls) = longest_from (cond (leb m n) n m) ls

unfoldable pub longest : List ℕ → ℕ
longest ls = longest_from 0 ls

-- 7 if over 4,096 records result, or the result store is short for them
unfoldable pub lower_room : Run (List ℕ) → ℕ → Checked
lower_room r result_room = need (leb (length r.list) most_records && leb (length r.list) result_room) NoRoom

-- the tests of Lower's stores: the work store's, for the longest list, then the places'
unfoldable pub lower_stores : List ℕ → ℕ → ℕ → Checked
lower_stores ls work_room place_words = room_check most_records work_room then room_check (length ls) place_words

module _ (field : Field) where
  -- without columns the shared period isn't read
  unfoldable pub period_good : List ℕ → ℕ → Bool
  period_good ls period = eqb (length ls) 0 || (is_power field.most_log period && leb (longest ls) period)

  -- the tests before anything is built: the list, n may be 0; Prepare's; the work and place stores, 2; the shared period, 15
  unfoldable pub lower_check : View → ℕ → List ℕ → List ℕ → ℕ → ℕ → ℕ → Checked
  lower_check s n ls es period work_room place_words =
      rootless_check field.bounds 0 s n
      then prepare_check (modulus field) ls es
      then lower_stores ls work_room place_words
      then need (period_good ls period) SharedPeriod

  -- the list with the columns' nodes, and the place of each
  unfoldable pub lowered : View → ℕ → List ℕ → List ℕ → ℕ → Run (List ℕ)
  lowered s n ls es period = (build_periodic_nodes field (columns ls es) (log_within field.most_log period)).run (nodes s n)

  module _ (s : View) (n : ℕ) (ls es : List ℕ) (period : ℕ) (result work places : List ℕ) where
    unfoldable pub whole_check : Checked
    whole_check = lower_check s n ls es period (interleaved work).room (length places) then lower_room (lowered s n ls es period) (interleaved result).room

    unfoldable pub lower_answer : Result ℕ Refusal
    lower_answer = unless_refused whole_check Err (Ok (length (lowered s n ls es period).list))

    unfoldable pub lower_result : List ℕ
    lower_result = unless_refused whole_check (λ r. result) (stored result (lowered s n ls es period).list)

    unfoldable pub lower_places : List ℕ
    lower_places = unless_refused whole_check (λ r. places) (filled (length places) (lowered s n ls es period).answer)

    -- blank also where 7 is answered
    unfoldable pub lower_work : List ℕ
    lower_work = unless_refused (lower_check s n ls es period (interleaved work).room (length places)) (λ r. work) (replicate (length work) blank)
