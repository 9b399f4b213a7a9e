-- Columns in their forms, and logarithms under the shared period.
use Rattle.std.specs.Prelude.{ℕ, zero, suc, ◌-◌, ◌^◌, ◌<◌, ◌≤◌, Bool, true, false, cond, ◌&&◌, List, ◌⊎◌, ◌≡◌, refl, leb, ltb, get_or, length}
use Rattle.std.proofs.Common.{inl, inr, sym, ◌∙◌, subst, le_trans, le_of_eq, arith, le-leb}
use Rattle.field.specs.Fields.{Field, modulus}
use Rattle.dag.specs.CaseLaws.{cond_elim, below_suc}
use Rattle.columns.specs.Columns.{log_within, log_length, is_sparse, column, gain, goes_over, form}
use Rattle.columns.specs.Prepare.{columns}
use Rattle.columns.specs.Promises.{Handed, Tested}
use Rattle.columns.specs.LogLaws.{log_le, power_is}
use Rattle.columns.specs.CostLaws.{sparse_terms}
use Rattle.columns.specs.ColumnLaws.{column_length}
use Rattle.columns.specs.PrepareLaws.{column_power}
use Rattle.columns.specs.declared.Form.{Form}
use Rattle.columns.specs.declared.Form.TheVariants.{Sparse, Dense, Basis}
use Rattle.coefficients.specs.TermLaws.{length_support}
use Rattle.periodic.specs.Builder.{Builder}
use Rattle.periodic.specs.Periodic.{sparse_value, dense_value, basis_value, column_value, column_node}
use Rattle.lower.specs.Promises.{Formed, Covered}

-- a column whose form is sparse is sparse by itself
alone_sparse : (a b : Bool) → cond a Basis (cond b Sparse Dense) ≡ Sparse → b ≡ true
alone_sparse true b e = let z : ◌≡◌ {A = ℕ} 0 1 = cc in absurd (omega arith)
alone_sparse false true e = refl
alone_sparse false false e = let z : ◌≡◌ {A = ℕ} 0 1 = cc in absurd (omega arith)

form_sparse : (m : ℕ) (cs : List (List ℕ)) (j : ℕ) → form m cs j ≡ Sparse → is_sparse (column cs j) ≡ true
unfolding form
form_sparse m cs j e = alone_sparse (goes_over m cs (length (column cs j)) && ltb 0 (gain m (column cs j))) (is_sparse (column cs j)) e

-- 2^k at most n
pub log_least : (k most n : ℕ) → k ≤ most → 2 ^ k ≤ n → k ≤ log_within most n
unfolding log_within
log_least k zero n h j = omega arith
log_least k (suc most) n h j = go (below_suc k (suc most) (omega arith)) (λ i. log_least k most n i j)
  where
    go : (k < suc most) ⊎ (k ≡ suc most) → (k ≤ most → k ≤ log_within most n) → k ≤ cond (leb (2 ^ suc most) n) (suc most) (log_within most n)
    go (inl i) before = cond_elim (λ x. k ≤ x) (leb (2 ^ suc most) n) (suc most) (log_within most n) (λ _. omega arith) (λ _. before (omega arith))
    go (inr e) before = rw (le-leb (2 ^ suc most) n (subst (λ x. 2 ^ x ≤ n) e j)) (omega arith)

module _ (field : Field) where
  pub formed_of : (ls es : List ℕ) (j : ℕ) (c : List ℕ) (f : Form) → Handed ls es → j < length ls → c ≡ column (columns ls es) j → f ≡ form (modulus field) (columns ls es) j → Formed c f
  formed_of ls es j c f h k ec ef =
      rw ec
      (record {
        few = λ e.
            record {
              few = le_trans (le_of_eq (length_support (column (columns ls es) j))) (sparse_terms (column (columns ls es) j) (column_power (modulus field) ls es j k h) (form_sparse (modulus field) (columns ls es) j (sym ef ∙ e)));
            };
      })

  -- columns no longer than the shared period
  pub covered : (ls es : List ℕ) (period : ℕ) → Tested (modulus field) ls es → ((j : ℕ) → j < length ls → get_or ls j 0 ≤ period) → Covered ls es (log_within field.most_log period)
  unfolding log_length
  covered ls es period t h =
      record {
        covers = λ j k.
            let c = column_length ls es j t.handed.enough k in
            log_least (log_within 7 (length (column (columns ls es) j))) field.most_log period (le_trans (log_le 7 (length (column (columns ls es) j))) field.columns_fit)
            (subst (λ x. x ≤ period) (power_is 7 (length (column (columns ls es) j)) (column_power (modulus field) ls es j k t.handed)) (subst (λ x. x ≤ period) (sym c) (h j k)));
      }

  -- the node of column j
  pub node_is : (cs : List (List ℕ)) (S j : ℕ) (c : List ℕ) (f : Form) (L : ℕ) → c ≡ column cs j → f ≡ form (modulus field) cs j → L ≡ log_length c → column_value field c f (S - L) ≡ column_node field cs S j
  unfolding column_node
  node_is cs S j c f L ec ef el = rw (el, ec, ef)

-- the value in each form
module _ (c : List ℕ) (f : Form) (k : ℕ) where
  pub value_sparse : f ≡ Sparse → ◌≡◌ {A = Field → Builder ℕ} (λ field. sparse_value field c k) (λ field. column_value field c f k)
  unfolding column_value
  value_sparse e = rw e

  pub value_dense : f ≡ Dense → ◌≡◌ {A = Field → Builder ℕ} (λ field. dense_value field c k) (λ field. column_value field c f k)
  unfolding column_value
  value_dense e = rw e

  pub value_basis : f ≡ Basis → ◌≡◌ {A = Field → Builder ℕ} (λ field. basis_value field c k) (λ field. column_value field c f k)
  unfolding column_value
  value_basis e = rw e
