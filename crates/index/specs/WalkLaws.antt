-- The walk along a bucket: it meets the places of one bucket from the greatest down, and passes no place at which the test holds.
use Rattle.std.specs.Prelude.{ℕ, zero, suc, ◌+◌, ◌-◌, ◌<◌, ◌≤◌, Bool, true, false, cond, List, ◌≡◌, refl, eqb, get_or, Some, None}
use Rattle.std.proofs.Common.{sym, ◌∙◌, ap, sub-one, arith}
use Rattle.std.proofs.lemmas.Bool.{eqb-false}
use Rattle.dag.specs.Lookup.{greatest}
use Rattle.dag.specs.SearchLaws.{greatest_miss, greatest_hit, greatest_none}
use Rattle.index.specs.Index.{latest, Indexed}
use Rattle.index.specs.IndexLaws.{latest_le, latest_in}

-- places of other buckets don't matter
pub greatest_latest : (hit : ℕ → Bool) (bucket : ℕ → ℕ) (k n : ℕ) → ((i : ℕ) → i < n → hit i ≡ true → bucket i ≡ k) → greatest hit n ≡ greatest hit (latest bucket n k)
unfolding greatest latest
greatest_latest hit bucket k zero only = refl
greatest_latest hit bucket k (suc n) only = go (eqb (bucket n) k) refl (hit n) refl (greatest_latest hit bucket k n (λ i j. only i (omega arith)))
  where
    go : (t : Bool) → eqb (bucket n) k ≡ t → (h : Bool) → hit n ≡ h → greatest hit n ≡ greatest hit (latest bucket n k)
        → cond (hit n) (Some n) (greatest hit n) ≡ greatest hit (cond t (suc n) (latest bucket n k))
    go true e h q before = refl
    go false e true q before = absurd (eqb-false (bucket n) k e (only n (omega arith) q))
    go false e false q before = rw q before

-- where a walk along bucket k from place n stands
pub record Walking (hit : ℕ → Bool) (bucket : ℕ → ℕ) (k n link : ℕ) : Type 0 where
  pub below : link ≤ n
  pub same : greatest hit n ≡ greatest hit link
  pub along : 0 < link → bucket (link - 1) ≡ k

module _ (hit : ℕ → Bool) (bucket : ℕ → ℕ) (k n : ℕ) (only : (i : ℕ) → i < n → hit i ≡ true → bucket i ≡ k) where
  along_latest : (m link : ℕ) → latest bucket m k ≡ link → 0 < link → bucket (link - 1) ≡ k
  along_latest m zero e h = absurd (omega arith)
  along_latest m (suc i) e h = rw (sub-one (suc i)) (latest_in bucket m k i e)

  to_latest : (m link : ℕ) → m ≤ n → link ≡ latest bucket m k → greatest hit n ≡ greatest hit m → Walking hit bucket k n link
  to_latest m link h e q =
      record {
        below = let j = latest_le bucket m k in omega arith;
        same = q ∙ (greatest_latest hit bucket k m (λ i j. only i (omega arith)) ∙ ap (greatest hit) (sym e));
        along = along_latest m link (sym e);
      }

  module _ (b : ℕ) (links : List ℕ) (indexed : Indexed b bucket n links) (inside : k < b) where
    pub walk_begin : Walking hit bucket k n (get_or links k 0)
    walk_begin = to_latest n (get_or links k 0) (omega arith) (indexed.heads k inside) refl

    pub walk_on : (link : ℕ) → Walking hit bucket k n link → 0 < link → hit (link - 1) ≡ false → Walking hit bucket k n (get_or links (b + (link - 1)) 0)
    walk_on link w h miss =
        to_latest (link - 1) (get_or links (b + (link - 1)) 0) (omega (arith, w.below))
        (indexed.nexts (link - 1) (omega (arith, w.below)) ∙ ap (latest bucket (link - 1)) (w.along h))
        (w.same ∙ greatest_miss hit link h miss)

    pub walk_down : (link : ℕ) → Walking hit bucket k n link → 0 < link → get_or links (b + (link - 1)) 0 < link
    walk_down link w h =
        let e = indexed.nexts (link - 1) (omega (arith, w.below)) in
        let j = latest_le bucket (link - 1) (bucket (link - 1)) in
        omega arith

  pub walk_hit : (link : ℕ) → Walking hit bucket k n link → 0 < link → hit (link - 1) ≡ true → Some (link - 1) ≡ greatest hit n
  walk_hit link w h e = sym (w.same ∙ greatest_hit hit link h e)

  pub walk_none : (link : ℕ) → Walking hit bucket k n link → link ≤ 0 → None ≡ greatest hit n
  walk_none link w h = sym (w.same ∙ greatest_none hit link h)
