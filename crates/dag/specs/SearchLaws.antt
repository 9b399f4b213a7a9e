-- The search for the greatest place where a test holds: a place at a time, and what it answers.
use Prim.Native.Nat.{ℕ, zero, suc, ◌-◌, ◌<◌, ◌≤◌}
use Rattle.std.specs.Prelude.{Bool, cond, ◌≡◌, Some, None, Option}
use Rattle.std.proofs.Math.Bool.{true, false}
use Rattle.std.proofs.Math.Path.{refl}
use Rattle.std.proofs.Common.{sub-one, arith}
use Rattle.dag.specs.Lookup.{greatest}
use Rattle.dag.specs.CaseLaws.{below_suc_elim}

module _ (test : ℕ → Bool) where
  pub greatest_miss : (n : ℕ) → 0 < n → test (n - 1) ≡ false → greatest test n ≡ greatest test (n - 1)
  unfolding greatest
  greatest_miss zero h e = absurd (omega arith)
  greatest_miss (suc n) h e = let q : test n ≡ false = rw (sub-one (suc n)) at e in rw (sub-one (suc n), q)

  pub greatest_hit : (n : ℕ) → 0 < n → test (n - 1) ≡ true → greatest test n ≡ Some (n - 1)
  unfolding greatest
  greatest_hit zero h e = absurd (omega arith)
  greatest_hit (suc n) h e = let q : test n ≡ true = rw (sub-one (suc n)) at e in rw (sub-one (suc n), q)

  pub greatest_none : (n : ℕ) → n ≤ 0 → greatest test n ≡ None
  unfolding greatest
  greatest_none zero h = refl
  greatest_none (suc n) h = absurd (omega arith)

  -- the test holds nowhere from place j up to place n
  abbrev pub Nowhere : ℕ → ℕ → Type 0
  Nowhere j n = (i : ℕ) → j ≤ i → i < n → test i ≡ false

  -- what an answer says of the places below n
  abbrev pub Greatest : ℕ → Option ℕ → Type 0
  Greatest n (Some j) = (j < n) × (test j ≡ true) × Nowhere (suc j) n
  Greatest n None = Nowhere 0 n

  pub greatest_says : (n : ℕ) → Greatest n (greatest test n)
  unfolding greatest
  greatest_says zero = λ i h k. absurd (omega arith)
  greatest_says (suc n) = go (test n) refl (greatest test n) (greatest_says n)
    where
      one_more : (j : ℕ) → test n ≡ false → Nowhere j n → Nowhere j (suc n)
      one_more j e none i h k = below_suc_elim (λ i. j ≤ i → test i ≡ false) n (λ i k h. none i h k) (λ h. e) i k h

      go : (t : Bool) → test n ≡ t → (f : Option ℕ) → Greatest n f → Greatest (suc n) (cond t (Some n) f)
      go true e f s = (omega arith, e, λ i h k. absurd (omega arith))
      go false e (Some j) s = (omega arith, s.1, one_more (suc j) e s.2)
      go false e None s = one_more 0 e s

-- tests that agree below n
pub greatest_same : (f g : ℕ → Bool) (n : ℕ) → ((i : ℕ) → i < n → f i ≡ g i) → greatest f n ≡ greatest g n
unfolding greatest
greatest_same f g zero e = refl
greatest_same f g (suc n) e = rw (e n (omega arith), greatest_same f g n (λ i h. e i (omega arith)))
