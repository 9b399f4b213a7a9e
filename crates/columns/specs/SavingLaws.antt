-- Savings and forms, from what is worked out for each column.
use Prim.Native.Nat.{ℕ, zero, suc, ◌+◌, ◌*◌, ◌^◌, ◌≤◌, ◌<◌}
use Rattle.std.specs.Prelude.{Bool, ◌&&◌, List, [], ◌∷◌, ◌≡◌, leb, ltb, eqb, get_or, length, sum, map, filter, ◌++◌}
use Rattle.std.specs.List.{zip}
use Rattle.std.proofs.lemmas.List.Sums.{sum_by-cons}
use Rattle.std.proofs.Math.Bool.{true, false, cond, and-false}
use Rattle.std.proofs.Math.Path.{refl}
use Rattle.std.proofs.Common.{sym, ◌∙◌, ap, arith, add-one}
use borrow.Author.Tests.{lt-ltb, le-ltb, lt-leb, le-leb}
use Rattle.dag.specs.CaseLaws.{cond_elim}
use Rattle.columns.specs.Columns.{column, gain, is_among, saving, savings, goes_over, is_sparse, form}
use Rattle.columns.specs.Prepare.{columns}
use Rattle.dag.specs.Arrays.{up_to}
use Rattle.columns.specs.Promises.{Handed, added, gains, savings_each, counted, Small, savings_of}
use Rattle.columns.specs.ColumnLaws.{length_columns, column_length}
use Rattle.dag.specs.ArrayLaws.{length_up_to, get_or_up_to}
use Rattle.columns.specs.CostLaws.{gain_small}
use Rattle.columns.specs.PrepareLaws.{column_short}
use Rattle.columns.specs.declared.Form.TheVariants.{Sparse, Dense, Basis}

-- a list made place by place
pub up_next : {A : Type 0} (f : ℕ → A) (ws vs : List A) (j : ℕ) (v : A) → ws ≡ up_to f j → vs ≡ ws ++ (v ∷ []) → v ≡ f j → vs ≡ up_to f (j + 1)
unfolding up_to
up_next f ws vs j v h e q = rw (e, h, q, add-one j) refl

-- the savings of period P, as a sum over the columns
module _ (P : ℕ) where
  savings_first : (l e : ℕ) (ls each : List ℕ) (n : ℕ) → savings_of (l ∷ ls) (e ∷ each) P (suc n) ≡ cond (eqb l P) e 0 + savings_of ls each P n
  unfolding savings_of
  savings_first l e ls each zero = omega arith
  savings_first l e ls each (suc n) = rw (savings_first l e ls each n) (omega arith)

  savings_zip : (ls each : List ℕ) → length ls ≤ length each → savings_of ls each P (length ls) ≡ added ls each P
  unfolding savings_of
  savings_zip [] each h = refl
  savings_zip (l ∷ ls) [] h = absurd (omega arith)
  savings_zip (l ∷ ls) (e ∷ each) h = rw (savings_first l e ls each (length ls), savings_zip ls each (omega arith)) (go (eqb l P) (filter (λ (p : ℕ × ℕ). eqb p.0 P) (zip ls each)))
    where
      go : (t : Bool) (r : List (ℕ × ℕ)) → cond t e 0 + sum (map (λ (p : ℕ × ℕ). p.1) r) ≡ sum (map (λ (p : ℕ × ℕ). p.1) (cond t ((l, e) ∷ r) r))
      go true r = sym (sum_by-cons (λ x. x) e (map (λ (p : ℕ × ℕ). p.1) r))
      go false r = omega arith

  savings_le : (ls each : List ℕ) (n : ℕ) → ((j : ℕ) → j < n → get_or each j 0 ≤ 4096) → savings_of ls each P n ≤ 4096 * n
  unfolding savings_of
  savings_le ls each zero h = omega arith
  savings_le ls each (suc n) h =
      cond_elim (λ k. savings_of ls each P n + k ≤ 4096 * suc n) (eqb (get_or ls n 0) P) (get_or each n 0) 0
      (λ _. omega (arith, h n (omega arith), savings_le ls each n (λ j k. h j (omega arith))))
      (λ _. omega (arith, savings_le ls each n (λ j k. h j (omega arith))))

  pub savings_fit : (ls each : List ℕ) → Small ls each → added ls each P < 2 ^ 64
  savings_fit ls each s = rw (sym (savings_zip ls each s.room)) (omega (arith, s.few, savings_le ls each (length ls) s.small))

-- what each column saves
module _ (m : ℕ) (ls es : List ℕ) (h : Handed ls es) where
  gain_at : (j : ℕ) → j < length ls → get_or (gains m (columns ls es)) j 0 ≡ gain m (column (columns ls es) j)
  unfolding gains
  gain_at j k = get_or_up_to (λ j. gain m (column (columns ls es) j)) 0 (length (columns ls es)) j (rw (length_columns ls es) k)

  pub gained_at : (gs : List ℕ) (j : ℕ) → gs ≡ gains m (columns ls es) → j < length ls → get_or gs j 0 ≡ gain m (column (columns ls es) j)
  gained_at gs j e k = rw e (gain_at j k)

  saving_at : (j : ℕ) → j < length ls → get_or (savings_each m (columns ls es)) j 0 ≡ saving m (columns ls es) j
  unfolding savings_each
  saving_at j k = get_or_up_to (saving m (columns ls es)) 0 (length (columns ls es)) j (rw (length_columns ls es) k)

  pub counted_is : (gs : List ℕ) (j : ℕ) → gs ≡ gains m (columns ls es) → j < length ls → counted (columns ls es) gs j ≡ saving m (columns ls es) j
  unfolding counted saving
  counted_is gs j e k = rw (e, gain_at j k)

  pub length_gains : (gs : List ℕ) → gs ≡ gains m (columns ls es) → length gs ≡ length ls
  unfolding gains
  length_gains gs e = rw e (length_up_to (λ j. gain m (column (columns ls es) j)) (length (columns ls es)) ∙ length_columns ls es)

  length_each : length (savings_each m (columns ls es)) ≡ length ls
  unfolding savings_each
  length_each = length_up_to (saving m (columns ls es)) (length (columns ls es)) ∙ length_columns ls es

  saving_small : (j : ℕ) → j < length ls → saving m (columns ls es) j ≤ 4096
  unfolding saving
  saving_small j k =
      cond_elim (λ n. n ≤ 4096) (is_among (columns ls es) j j) 0 (gain m (column (columns ls es) j)) (λ _. omega arith)
      (λ _. gain_small m (column (columns ls es) j) (column_short m ls es j k h))

  pub small_each : (each : List ℕ) → each ≡ savings_each m (columns ls es) → Small ls each
  small_each each e =
      record {
        few = h.few;
        room = rw (e, length_each) (omega arith);
        small = λ j k. rw (e, saving_at j k) (saving_small j k);
      }

  pub savings_are : (each : List ℕ) (P n : ℕ) → each ≡ savings_each m (columns ls es) → n ≤ length ls → savings_of ls each P n ≡ savings m (columns ls es) P n
  unfolding savings_of savings
  savings_are each P zero e k = refl
  savings_are each P (suc n) e k =
      rw (savings_are each P n e (omega arith), column_length ls es n h.enough (omega arith), e, saving_at n (omega arith))

  pub savings_is : (each : List ℕ) (P s : ℕ) → each ≡ savings_each m (columns ls es) → s ≡ added ls each P → s ≡ savings m (columns ls es) P (length (columns ls es))
  savings_is each P s e q = q ∙ sym (savings_zip P ls each (small_each each e).room) ∙ (savings_are each P (length ls) e (omega arith) ∙ ap (savings m (columns ls es) P) (sym (length_columns ls es)))

-- a period that goes over
pub goes_short : (m : ℕ) (cs : List (List ℕ)) (P : ℕ) → P < 2 → leb 2 P ≡ goes_over m cs P
unfolding goes_over
goes_short m cs P h = rw (lt-leb 2 P h)

pub goes_told : (m : ℕ) (cs : List (List ℕ)) (P s : ℕ) → 2 ≤ P → s ≡ savings m cs P (length cs) → ltb (7 * P + 2) s ≡ goes_over m cs P
unfolding goes_over
goes_told m cs P s h e = rw (le-leb 2 P h, e)

-- a column's form
module _ (m : ℕ) (cs : List (List ℕ)) (j : ℕ) where
  pub form_basis : goes_over m cs (length (column cs j)) ≡ true → 0 < gain m (column cs j) → Basis ≡ form m cs j
  unfolding form
  form_basis e h = rw (e, lt-ltb 0 (gain m (column cs j)) h)

  -- it stays out of the basis
  abbrev pub Apart : Type 0
  Apart = (goes_over m cs (length (column cs j)) && ltb 0 (gain m (column cs j))) ≡ false

  pub apart_alone : goes_over m cs (length (column cs j)) ≡ false → Apart
  apart_alone e = rw e

  pub apart_dear : gain m (column cs j) ≤ 0 → Apart
  apart_dear h = rw (le-ltb 0 (gain m (column cs j)) h) (and-false (goes_over m cs (length (column cs j))))

  pub form_sparse : is_sparse (column cs j) ≡ true → Apart → Sparse ≡ form m cs j
  unfolding form
  form_sparse e off = rw (off, e)

  pub form_dense : is_sparse (column cs j) ≡ false → Apart → Dense ≡ form m cs j
  unfolding form
  form_dense e off = rw (off, e)

-- a period that goes over, and a column's form
pub ruleset going_over = (small_each, savings_fit, savings_is, goes_short, goes_told)

pub ruleset forms = (column_short, gained_at, form_basis, form_sparse, form_dense, apart_alone, apart_dear)
