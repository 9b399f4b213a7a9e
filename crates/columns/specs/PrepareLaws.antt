-- Prepare's tests one by one, and what they give.
use Rattle.std.specs.Prelude.{ℕ, suc, ◌*◌, ◌≤◌, ◌<◌, true, false, List, [], ◌∷◌, ◌≡◌, Ok, Err, leb, get_or, length}
use Rattle.std.proofs.Common.{arith}
use borrow.Author.Tests.{le-leb, lt-leb, leb-true}
use Rattle.dag.specs.CheckLaws.{first_none, first_next, first_stop, first_all, first_good, then_good, need_good}
use Rattle.dag.specs.Refusals.{first_refused, need, ◌then◌}
use Rattle.dag.specs.declared.Refusal.{Refusal}
use Rattle.dag.specs.declared.Refusal.TheVariants.{StoreTooShort, Malformed, TooManyColumns, ColumnLength}
use Rattle.columns.specs.Columns.{is_power, column}
use Rattle.columns.specs.Prepare.{total, columns, all_below, length_check, entries_check, most_columns, prepare_check, forms, answer, prepare}
use Rattle.columns.specs.declared.Prepared.{Prepared}
use Rattle.columns.specs.LogLaws.{power_pos, power_le}
use Rattle.columns.specs.ColumnLaws.{column_length}
use Rattle.columns.specs.Promises.{Column, Handed, Tested}

-- one length, and one column
module _ (ls : List ℕ) (j : ℕ) where
  pub length_good : is_power 7 (get_or ls j 0) ≡ true → length_check ls j ≡ Ok tt
  unfolding length_check
  length_good e = rw e

  pub length_bad : is_power 7 (get_or ls j 0) ≡ false → length_check ls j ≡ Err (ColumnLength j)
  unfolding length_check
  length_bad e = rw e

module _ (m : ℕ) (cs : List (List ℕ)) (j : ℕ) where
  pub entries_good : all_below m (column cs j) ≡ true → entries_check m cs j ≡ Ok tt
  unfolding entries_check
  entries_good e = rw e

  pub entries_bad : all_below m (column cs j) ≡ false → entries_check m cs j ≡ Err (Malformed j)
  unfolding entries_check
  entries_bad e = rw e

-- what the tests give
pub length_powers : (ls : List ℕ) → first_refused (length_check ls) (length ls) ≡ Ok tt → (j : ℕ) → j < length ls → is_power 7 (get_or ls j 0) ≡ true
unfolding length_check
length_powers ls e j h = need_good (is_power 7 (get_or ls j 0)) (ColumnLength j) (first_good (length_check ls) (length ls) e j h)

total_small : (ls : List ℕ) → ((j : ℕ) → j < length ls → get_or ls j 0 ≤ 128) → total ls ≤ 128 * length ls
unfolding total
total_small [] h = omega arith
total_small (n ∷ ls) h = omega (arith, h 0 (omega arith), total_small ls (λ j k. h (suc j) (omega arith)))

pub lengths_small : (ls : List ℕ) → length ls ≤ most_columns → first_refused (length_check ls) (length ls) ≡ Ok tt → total ls ≤ 2048
lengths_small ls few e = omega (arith, total_small ls (λ j h. power_le 7 (get_or ls j 0) (length_powers ls e j h)))

pub handed : (ls es : List ℕ) → length ls ≤ most_columns → first_refused (length_check ls) (length ls) ≡ Ok tt → total ls ≤ length es → Handed ls es
handed ls es few e enough = record { few = few; powers = length_powers ls e; small = lengths_small ls few e; enough = enough }

pub tested : (m : ℕ) (ls es : List ℕ) → Handed ls es → first_refused (entries_check m (columns ls es)) (length ls) ≡ Ok tt → Tested m ls es
unfolding entries_check
tested m ls es h e =
    record {
      handed = h;
      low = λ j k. need_good (all_below m (column (columns ls es) j)) (Malformed j) (first_good (entries_check m (columns ls es)) (length ls) e j k);
    }

-- all of Prepare's tests
pub prepared : (m : ℕ) (ls es : List ℕ) → prepare_check m ls es ≡ Ok tt → Tested m ls es
unfolding prepare_check
prepared m ls es e =
    let one = then_good (need (leb (length ls) most_columns) TooManyColumns) (first_refused (length_check ls) (length ls) then need (leb (total ls) (length es)) StoreTooShort then first_refused (entries_check m (columns ls es)) (length ls)) e in
    let two = then_good (first_refused (length_check ls) (length ls)) (need (leb (total ls) (length es)) StoreTooShort then first_refused (entries_check m (columns ls es)) (length ls)) one.1 in
    let three = then_good (need (leb (total ls) (length es)) StoreTooShort) (first_refused (entries_check m (columns ls es)) (length ls)) two.1 in
    tested m ls es
    (handed ls es (leb-true (length ls) most_columns (need_good (leb (length ls) most_columns) TooManyColumns one.0)) two.0 (leb-true (total ls) (length es) (need_good (leb (total ls) (length es)) StoreTooShort three.0)))
    three.1

module _ (m : ℕ) (ls es : List ℕ) (j : ℕ) (h : j < length ls) where
  pub column_short : Handed ls es → length (column (columns ls es) j) ≤ 128
  column_short t = rw (column_length ls es j t.enough h) (power_le 7 (get_or ls j 0) (t.powers j h))

  pub column_power : Handed ls es → is_power 7 (length (column (columns ls es) j)) ≡ true
  column_power t = rw (column_length ls es j t.enough h) (t.powers j h)

  pub tested_column : Tested m ls es → Column m (column (columns ls es) j)
  tested_column t =
      record {
        some = rw (column_length ls es j t.handed.enough h) (power_pos 7 (get_or ls j 0) (t.handed.powers j h));
        short = column_short t.handed;
        power = column_power t.handed;
        low = t.low j h;
      }

-- the tests in their order
module _ (m : ℕ) (ls es : List ℕ) where
  pub check_few : most_columns < length ls → Err TooManyColumns ≡ prepare_check m ls es
  unfolding prepare_check
  check_few h = rw (lt-leb _ _ h)

  module _ (few : length ls ≤ most_columns) where
    pub check_lengths : (r : Refusal) → first_refused (length_check ls) (length ls) ≡ Err r → Err r ≡ prepare_check m ls es
    unfolding prepare_check
    check_lengths r e = rw (le-leb _ _ few, e)

    module _ (good : first_refused (length_check ls) (length ls) ≡ Ok tt) where
      pub check_store : length es < total ls → Err StoreTooShort ≡ prepare_check m ls es
      unfolding prepare_check
      check_store h = rw (le-leb _ _ few, good, lt-leb (total ls) (length es) h)

      pub check_entries : total ls ≤ length es → first_refused (entries_check m (columns ls es)) (length ls) ≡ prepare_check m ls es
      unfolding prepare_check
      check_entries h = rw (le-leb _ _ few, good, le-leb (total ls) (length es) h)

-- the answer
pub prepare_refused : (m : ℕ) (ls es : List ℕ) (r : Refusal) → prepare_check m ls es ≡ Err r → Err r ≡ prepare m ls es
unfolding prepare answer
prepare_refused m ls es r e = rw e

pub prepare_good : (m : ℕ) (ls es : List ℕ) (p : Prepared) → prepare_check m ls es ≡ Ok tt → p ≡ forms m (columns ls es) → Ok p ≡ prepare m ls es
unfolding prepare answer
prepare_good m ls es p good e = rw (good, ← e)

-- a test at each column, and the tests in their order
pub ruleset at_each = (length_good, length_bad, entries_good, entries_bad, first_none, first_next, first_stop, first_all)

pub ruleset in_order = (lengths_small, handed, tested, check_few, check_lengths, check_store, check_entries)
