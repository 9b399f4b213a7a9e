-- The search for a shared factor, pair by pair.
use Prim.Native.Nat.{ℕ, zero, suc, ◌+◌, ◌*◌, ◌-◌, ◌<◌, ◌≤◌}
use Rattle.std.proofs.Math.Bool.{cond}
use Rattle.std.specs.Prelude.{List, Option, Some, None, ◌≡◌, eqb, get_or}
use Rattle.std.proofs.Math.Path.{refl, sym}
use Rattle.std.proofs.Common.{◌∙◌, eq-eqb, ne_eqb}
use native.Mathlib.Omega.{arith}
use Rattle.plan.specs.Plan.{shared_factor}
use Rattle.plan.specs.Promises.{shared_in}
use Rattle.plan.specs.declared.Rewrite.{Rewrite}
use Rattle.plan.specs.declared.Rewrite.TheVariants.{Factored}

-- what is left of the search after a's first operand
left₂ : List ℕ → List ℕ → Option Rewrite
left₂ a b =
    cond (eqb (get_or a 1 0) (get_or b 0 0)) (Some (Factored (get_or a 1 0) (get_or a 0 0) (get_or b 1 0)))
    (cond (eqb (get_or a 1 0) (get_or b 1 0)) (Some (Factored (get_or a 1 0) (get_or a 0 0) (get_or b 0 0))) None)

module _ (a b : List ℕ) where
  -- what is left of the search after k of the four pairs
  pub left : ℕ → Option Rewrite
  unfolding left₂
  left zero = shared_in a b
  left (suc zero) =
      cond (eqb (get_or a 0 0) (get_or b 1 0)) (Some (Factored (get_or a 0 0) (get_or a 1 0) (get_or b 0 0))) (left₂ a b)
  left (suc (suc zero)) = left₂ a b
  left (suc (suc (suc zero))) = cond (eqb (get_or a 1 0) (get_or b 1 0)) (Some (Factored (get_or a 1 0) (get_or a 0 0) (get_or b 0 0))) None
  left (suc (suc (suc (suc k)))) = None

  pub search_hit : (i j : ℕ) → i < 2 → j < 2 → get_or a i 0 ≡ get_or b j 0 → left (2 * i + j) ≡ Some (Factored (get_or a i 0) (get_or a (1 - i) 0) (get_or b (1 - j) 0))
  unfolding left left₂ shared_factor
  search_hit zero zero h k e = rw (eq-eqb (get_or a 0 0) (get_or b 0 0) e)
  search_hit zero (suc zero) h k e = rw (eq-eqb (get_or a 0 0) (get_or b 1 0) e)
  search_hit zero (suc (suc j)) h k e = absurd (omega arith)
  search_hit (suc zero) zero h k e = rw (eq-eqb (get_or a 1 0) (get_or b 0 0) e)
  search_hit (suc zero) (suc zero) h k e = rw (eq-eqb (get_or a 1 0) (get_or b 1 0) e)
  search_hit (suc zero) (suc (suc j)) h k e = absurd (omega arith)
  search_hit (suc (suc i)) j h k e = absurd (omega arith)

  pub search_miss : (i j : ℕ) → i < 2 → j < 2 → (get_or a i 0 ≡ get_or b j 0 → ⊥) → left (2 * i + j) ≡ left (2 * i + (j + 1))
  unfolding left left₂ shared_factor
  search_miss zero zero h k e = rw (ne_eqb (get_or a 0 0) (get_or b 0 0) e)
  search_miss zero (suc zero) h k e = rw (ne_eqb (get_or a 0 0) (get_or b 1 0) e)
  search_miss zero (suc (suc j)) h k e = absurd (omega arith)
  search_miss (suc zero) zero h k e = rw (ne_eqb (get_or a 1 0) (get_or b 0 0) e)
  search_miss (suc zero) (suc zero) h k e = rw (ne_eqb (get_or a 1 0) (get_or b 1 0) e)
  search_miss (suc zero) (suc (suc j)) h k e = absurd (omega arith)
  search_miss (suc (suc i)) j h k e = absurd (omega arith)

  pub search_begins : shared_in a b ≡ left 0
  unfolding left
  search_begins = refl

  pub search_ends : (i : ℕ) → 2 ≤ i → i ≤ 2 → shared_in a b ≡ left (2 * i) → None ≡ shared_in a b
  unfolding left
  search_ends i h k e = let q : i ≡ 2 = omega arith in sym (e ∙ rw q)

pub ruleset search_steps = (search_hit, search_miss, search_begins, search_ends)
