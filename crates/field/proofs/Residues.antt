-- Sums, differences and negatives of residues modulo any number, without a number above it.
use Rattle.std.proofs.Common.{◌≡◌, ℕ, ◌+◌, ◌-◌, ◌%◌, ◌<◌, ◌≤◌, sym, ap, mod-eq_of_lt, arith}
use Rattle.ring.specs.Residue as Residue
use Rattle.field.proofs.Words.{residue}

module _ (m a b : ℕ) (left : a < m) (right : b < m) where
  pub sum_below : a < m - b → (a + b ≡ Residue.add m a b) × (a + b < m)
  sum_below h = (sym (mod-eq_of_lt (omega arith)), omega arith)

  pub sum_above : m - b ≤ a → (a - (m - b) ≡ Residue.add m a b) × (a - (m - b) < m)
  sum_above h = (residue m (a - (m - b)) (a + b) 1 0 (omega arith) (omega arith), omega arith)

  whole : a + (m - b % m) ≡ a + (m - b)
  whole = ap (λ (k : ℕ). a + (m - k)) (mod-eq_of_lt right)

  pub difference_below : a < b → (m - b + a ≡ Residue.sub m a b) × (m - b + a < m)
  difference_below h = (residue m (m - b + a) (a + (m - b % m)) 0 0 (omega arith) (let e = whole in omega arith), omega arith)

  pub difference_above : b ≤ a → (a - b ≡ Residue.sub m a b) × (a - b < m)
  difference_above h = (residue m (a - b) (a + (m - b % m)) 1 0 (omega arith) (let e = whole in omega arith), omega arith)

module _ (m a : ℕ) (low : a < m) where
  pub negative_zero : a ≡ 0 → (0 ≡ Residue.neg m a) × (0 < m)
  negative_zero e = (residue m 0 (m - a % m) 1 0 (omega arith) (let f = mod-eq_of_lt low in omega arith), omega arith)

  pub negative_above : ¬ (a ≡ 0) → (m - a ≡ Residue.neg m a) × (m - a < m)
  negative_above h = (residue m (m - a) (m - a % m) 0 0 (omega arith) (let f = mod-eq_of_lt low in omega arith), omega arith)
