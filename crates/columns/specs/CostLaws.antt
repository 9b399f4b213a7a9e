-- Bounds on costs.
use Rattle.std.specs.Prelude.{ℕ, zero, suc, ◌+◌, ◌*◌, ◌-◌, ◌^◌, ◌≤◌, ◌<◌, true, false, not, List, ◌≡◌, ◌⊎◌, ltb, eqb, length}
use Rattle.std.proofs.Common.{subst, inl, inr, mul-le-mul, sub-le, le_trans, arith}
use borrow.Author.Tests.{eq-eqb, ne_eqb, eqb-true, ltb-true}
use Rattle.field.specs.Fields.{Field, modulus}
use Rattle.dag.specs.CaseLaws.{cond_elim, or_true}
use Rattle.columns.specs.Columns.{is_power, log_length, nonzero, sparse_ops, dense_ops, is_sparse, standalone, is_scaled, gain, equal_entries, combination_cost, offset}
use Rattle.columns.specs.LogLaws.{log_le, power_is}

pub ops_fit : (t L : ℕ) → t ≤ 128 → L ≤ 7 → t * L ≤ 896
ops_fit t L h k = mul-le-mul h k

pub log_length_le : (c : List ℕ) → log_length c ≤ 7
unfolding log_length
log_length_le c = log_le 7 (length c)

-- t terms that cost less than 2^L dense coefficients are at most 11
sparse_few : (t L : ℕ) → L ≤ 7 → sparse_ops t L < dense_ops (2 ^ L) → t ≤ 11
sparse_few t zero k h = omega arith
sparse_few t (suc zero) k h = omega arith
sparse_few t (suc (suc zero)) k h = omega arith
sparse_few t (suc (suc (suc zero))) k h = omega arith
sparse_few t (suc (suc (suc (suc zero)))) k h = omega arith
sparse_few t (suc (suc (suc (suc (suc zero))))) k h = omega arith
sparse_few t (suc (suc (suc (suc (suc (suc zero)))))) k h = omega arith
sparse_few t (suc (suc (suc (suc (suc (suc (suc zero))))))) k h = omega arith
sparse_few t (suc (suc (suc (suc (suc (suc (suc (suc L)))))))) k h = absurd (omega arith)

-- a sparse column keeps at most 11 terms
pub sparse_terms : (c : List ℕ) → is_power 7 (length c) ≡ true → is_sparse c ≡ true → nonzero c ≤ 11
unfolding is_sparse log_length
sparse_terms c w e = go (or_true (eqb (nonzero c) 0) (ltb (sparse_ops (nonzero c) (log_length c)) (dense_ops (length c))) e)
  where
    go : (eqb (nonzero c) 0 ≡ true) ⊎ (ltb (sparse_ops (nonzero c) (log_length c)) (dense_ops (length c)) ≡ true) → nonzero c ≤ 11
    go (inl z) = let q = eqb-true (nonzero c) 0 z in omega arith
    go (inr l) =
        sparse_few (nonzero c) (log_length c) (log_le 7 (length c))
        (subst (λ (n : ℕ). sparse_ops (nonzero c) (log_length c) < dense_ops n) (power_is 7 (length c) w) (ltb-true (sparse_ops (nonzero c) (log_length c)) (dense_ops (length c)) l))

pub standalone_small : (c : List ℕ) → length c ≤ 128 → standalone c ≤ 4096
unfolding standalone
standalone_small c h =
    cond_elim (λ n. n ≤ 4096) (is_sparse c)
    (sparse_ops (nonzero c) (log_length c) + 2 * (nonzero c + log_length c))
    (dense_ops (length c) + 2 * length c)
    (λ _. omega (arith, ops_fit (nonzero c) (log_length c) (omega arith) (log_length_le c), log_length_le c))
    (λ _. omega arith)

pub gain_small : (m : ℕ) (c : List ℕ) → length c ≤ 128 → gain m c ≤ 4096
unfolding gain
gain_small m c h =
    cond_elim (λ n. n ≤ 4096) (equal_entries c) 0 (standalone c - combination_cost m c (offset m c)) (λ _. omega arith)
    (λ _. le_trans (sub-le (standalone c) (combination_cost m c (offset m c))) (standalone_small c h))

-- the tests of a coefficient, one by one
module _ (field : Field) (d v k : ℕ) (n : v ≡ d → ⊥) (ek : k ≡ field.coordinates.sub v d) where
  pub unit_told : k ≡ 1 → false ≡ is_scaled (modulus field) d v
  unfolding is_scaled
  unit_told e = rw (ne_eqb v d n, ← field.coordinates_sub v d, ← ek, eq-eqb k 1 e)

  pub scaled_told : (k ≡ 1 → ⊥) → not (eqb k (modulus field - 1)) ≡ is_scaled (modulus field) d v
  unfolding is_scaled
  scaled_told e = rw (ne_eqb v d n, ← field.coordinates_sub v d, ← ek, ne_eqb k 1 e)
