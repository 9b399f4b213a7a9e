-- The logarithm and the powers of two, as doubling finds them.
use Rattle.std.specs.Prelude.{ℕ, zero, suc, ◌*◌, ◌^◌, ◌≤◌, ◌<◌, true, cond, ◌≡◌, ◌⊎◌, leb, min, max}
use Rattle.std.proofs.Common.{sym, subst, inl, inr, arith, le-leb, eqb-true, pow_mono, pow_pos}
use Rattle.std.proofs.Math.Nat.{two-pow-succ}
use Rattle.std.proofs.lemmas.Bool.{lt-leb}
use Rattle.dag.specs.CaseLaws.{cond_elim, le_or_lt}
use Rattle.columns.specs.Columns.{log_within, is_power}

pub log_le : (k n : ℕ) → log_within k n ≤ k
unfolding log_within
log_le zero n = omega arith
log_le (suc k) n = cond_elim (λ l. l ≤ suc k) (leb (2 ^ suc k) n) (suc k) (log_within k n) (λ _. omega arith) (λ _. omega (arith, log_le k n))

-- 2^k is the greatest power that is at most n, or 1 where n is 0
pub log_is : (k most n : ℕ) → 2 ^ k ≤ max n 1 → max n 1 < 2 * 2 ^ k → min k most ≡ log_within most n
unfolding log_within
log_is k zero n h u = omega arith
log_is k (suc most) n h u = go (le_or_lt (2 ^ suc most) n) (le_or_lt (suc most) k) (log_is k most n h u)
  where
    go : (2 ^ suc most ≤ n) ⊎ (n < 2 ^ suc most) → (suc most ≤ k) ⊎ (k < suc most) → min k most ≡ log_within most n → min k (suc most) ≡ cond (leb (2 ^ suc most) n) (suc most) (log_within most n)
    go (inl e) (inl f) before = rw (le-leb (2 ^ suc most) n e) (omega arith)
    go (inl e) (inr f) before = absurd (omega (arith, two-pow-succ k, pow_mono {i = suc k} {j = suc most} (omega arith)))
    go (inr e) (inl f) before = absurd (omega (arith, two-pow-succ most, pow_pos most, pow_mono {i = suc most} {j = k} f))
    go (inr e) (inr f) before = rw (lt-leb (2 ^ suc most) n e) (omega arith)

pub power_is : (most n : ℕ) → is_power most n ≡ true → n ≡ 2 ^ log_within most n
unfolding is_power
power_is most n e = eqb-true n (2 ^ log_within most n) e

pub power_pos : (most n : ℕ) → is_power most n ≡ true → 0 < n
power_pos most n e = subst (λ (k : ℕ). 0 < k) (sym (power_is most n e)) (pow_pos (log_within most n))

pub power_le : (most n : ℕ) → is_power most n ≡ true → n ≤ 2 ^ most
power_le most n e = subst (λ (k : ℕ). k ≤ 2 ^ most) (sym (power_is most n e)) (pow_mono (log_le most n))
