-- Normalising without a bound on its rounds, over any ring and a list of roots: they repeat until one isn't kept.
use Prim.Native.Nat.{ℕ, zero, suc, ◌+◌, ◌<◌, ◌≤◌}
use Rattle.std.proofs.Math.Bool.{true}
use Rattle.std.specs.Prelude.{false, List, ◌≡◌, refl, length}
use Rattle.std.proofs.Common.{inr, sym, ◌∙◌, ap, add-zero, zero-add, add-suc, suc-add, arith}
use Rattle.std.proofs.Math.Path.{subst}
use Rattle.std.proofs.Math.Decide.{dec_le}
use Rattle.ring.specs.Ring.{Ops}
use Rattle.field.specs.declared.QuadFelt.{QuadFelt}
use Rattle.dag.specs.CaseLaws.{not_both}
use Rattle.dag.specs.declared.NodeKind.{NodeKind}
use Rattle.compact.specs.Compact.{Rooted}
use Rattle.normalize.specs.Rounds.{Normal, rounded, is_kept, rounds_from, normalize}
use Rattle.normalize.specs.RepeatLaws.{kept_shorter, not_kept_when, rounds_elim}

-- a list with its roots, whatever the rounds kept
abbrev pub rooted_of : Normal → Rooted
rooted_of a = record { list = a.list; roots = a.roots }

module _ (F : Ops QuadFelt) where
  -- a list with its roots after r rounds, kept or not
  unfoldable pub after_rounds : ℕ → List NodeKind → List ℕ → Rooted
  after_rounds zero l roots = record { list = l; roots = roots }
  after_rounds (suc r) l roots = after_rounds r (rounded F l roots).list (rounded F l roots).roots

  -- a is what r rounds leave, all of them kept, and the next one isn't
  pub record Repeated (l : List NodeKind) (roots : List ℕ) (r : ℕ) (a : Rooted) : Type 0 where
    pub after : a ≡ after_rounds r l roots
    pub all_kept : (j : ℕ) → j < r → is_kept F (after_rounds j l roots).list (after_rounds j l roots).roots ≡ true
    pub next_not : is_kept F a.list a.roots ≡ false

  none_kept : (l : List NodeKind) (roots : List ℕ) → is_kept F l roots ≡ false → Repeated l roots 0 (record { list = l; roots = roots })
  unfolding after_rounds
  none_kept l roots e = record { after = refl; all_kept = λ j h. absurd (omega arith); next_not = e }

  one_more : (l : List NodeKind) (roots : List ℕ) (r : ℕ) (a : Rooted) → is_kept F l roots ≡ true
      → Repeated (rounded F l roots).list (rounded F l roots).roots r a → Repeated l roots (suc r) a
  unfolding after_rounds
  one_more l roots r a e h = record { after = h.after; all_kept = kept; next_not = h.next_not }
    where
      kept : (j : ℕ) → j < suc r → is_kept F (after_rounds j l roots).list (after_rounds j l roots).roots ≡ true
      kept zero k = e
      kept (suc j) k = h.all_kept j (omega arith)

  -- r and a are the only ones
  pub repeated_once : (l : List NodeKind) (roots : List ℕ) (r : ℕ) (a : Rooted) → Repeated l roots r a → (q : ℕ) (b : Rooted) → Repeated l roots q b → (r ≡ q) × (a ≡ b)
  repeated_once l roots r a h q b k = go (dec_le r q) (dec_le q r)
    where
      never : (r : ℕ) (a : Rooted) → Repeated l roots r a → (q : ℕ) (b : Rooted) → Repeated l roots q b → r < q → ⊥
      never r a h q b k m =
          not_both (is_kept F a.list a.roots) (subst (λ c. is_kept F c.list c.roots ≡ true) (sym h.after) (k.all_kept r m)) h.next_not

      go : Dec (r ≤ q) → Dec (q ≤ r) → (r ≡ q) × (a ≡ b)
      go (yes m) (yes o) =
          let e : r ≡ q = omega arith in
          (e, h.after ∙ (ap (λ i. after_rounds i l roots) e ∙ sym k.after))
      go (no m) o = absurd (never q b k r a h (omega arith))
      go (yes m) (no o) = absurd (never r a h q b k (omega arith))

  repeats_from : (fuel : ℕ) (l : List NodeKind) (roots : List ℕ) (k : ℕ) → length l ≤ fuel
      → (r : ℕ) × (k + r ≡ (rounds_from F fuel l roots k).rounds) × Repeated l roots r (rooted_of (rounds_from F fuel l roots k))
  repeats_from =
      rounds_elim F (λ fuel l roots k a. length l ≤ fuel → (r : ℕ) × (k + r ≡ a.rounds) × Repeated l roots r (rooted_of a))
      (λ l roots k h. (0, add-zero k, none_kept l roots ((not_kept_when F l roots).1 (inr (omega arith)))))
      (λ fuel l roots k e h. (0, add-zero k, none_kept l roots e))
      (λ fuel l roots k a e n h.
      let b = n (let s = kept_shorter F l roots e in omega arith) in
      (suc b.0, add-suc k b.0 ∙ sym (suc-add k b.0) ∙ b.1, one_more l roots b.0 (rooted_of a) e b.2))

  -- the rounds kept are those before the one not kept, and what that one started from is returned
  pub normalize_repeats : (l : List NodeKind) (roots : List ℕ) → Repeated l roots (normalize F l roots).rounds (rooted_of (normalize F l roots))
  unfolding normalize
  normalize_repeats l roots =
      let h = repeats_from (length l) l roots 0 (omega arith) in
      subst (λ r. Repeated l roots r (rooted_of (rounds_from F (length l) l roots 0))) (sym (zero-add h.0) ∙ h.1) h.2

  -- what repeats so is what normalising gives
  pub repeated_normalizes : (l : List NodeKind) (roots : List ℕ) (r : ℕ) (a : Rooted) → Repeated l roots r a
      → ((normalize F l roots).list ≡ a.list) × ((normalize F l roots).roots ≡ a.roots) × ((normalize F l roots).rounds ≡ r)
  repeated_normalizes l roots r a h =
      let e = repeated_once l roots (normalize F l roots).rounds (rooted_of (normalize F l roots)) (normalize_repeats l roots) r a h in
      (ap (λ c. c.list) e.1, ap (λ c. c.roots) e.1, e.0)
