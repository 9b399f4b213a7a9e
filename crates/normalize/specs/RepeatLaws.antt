-- The rounds, from the first to the one that isn't kept.
use Prim.Native.Nat.{ℕ, zero, suc, ◌+◌, ◌<◌, ◌≤◌}
use Rattle.std.specs.Prelude.{Bool, List, map, ◌≡◌, ◌⊎◌, ◌↔◌, ltb}
use Rattle.std.proofs.Math.Bool.{true, false}
use Rattle.std.proofs.Math.Path.{refl}
use Rattle.std.proofs.Common.{◌∙◌, arith}
use Rattle.std.proofs.Math.Logic.{inl, inr}
use Rattle.std.proofs.Math.ListN.{length}
use borrow.Author.Tests.{ltb-true, ltb-false, le-ltb}
use Rattle.ring.specs.Ring.{Ops, Laws}
use Rattle.field.specs.declared.QuadFelt.{QuadFelt}
use Rattle.dag.specs.CaseLaws.{and_true, and_false, not_both}
use Rattle.dag.specs.WellFormed.{WellFormed}
use Rattle.dag.specs.declared.NodeKind.{NodeKind}
use Rattle.meaning.specs.Values.{value}
use Rattle.plan.specs.Plan.{fanout}
use Rattle.normalize.specs.Rounds.{fired, Normal, rounded, is_kept, rounds_from}
use Rattle.normalize.specs.RoundLaws.{rounded_well_formed, rounded_inside, rounded_values}
use Rattle.compact.specs.Promises.{AllBelow}

-- a list with its roots after k rounds
abbrev pub after : List NodeKind → List ℕ → ℕ → Normal
after l roots k = record { list = l; roots = roots; rounds = k }

module _ (F : Ops QuadFelt) where
  -- a round isn't kept exactly when no rewrite fired or its compacted list was no shorter
  pub not_kept_when : (l : List NodeKind) (roots : List ℕ)
      → (is_kept F l roots ≡ false) ↔ ((fired l (fanout l roots) (length l) ≡ false) ⊎ (length l ≤ length (rounded F l roots).list))
  unfolding is_kept
  not_kept_when l roots = (λ e. read ((and_false _ _).0 e), λ r. (and_false _ _).1 (told r))
    where
      read : (fired l (fanout l roots) (length l) ≡ false) ⊎ (ltb (length (rounded F l roots).list) (length l) ≡ false)
          → (fired l (fanout l roots) (length l) ≡ false) ⊎ (length l ≤ length (rounded F l roots).list)
      read (inl e) = inl e
      read (inr e) = inr (ltb-false _ _ e)

      told : (fired l (fanout l roots) (length l) ≡ false) ⊎ (length l ≤ length (rounded F l roots).list)
          → (fired l (fanout l roots) (length l) ≡ false) ⊎ (ltb (length (rounded F l roots).list) (length l) ≡ false)
      told (inl e) = inl e
      told (inr h) = inr (le-ltb _ _ h)

  pub kept_shorter : (l : List NodeKind) (roots : List ℕ) → is_kept F l roots ≡ true → length (rounded F l roots).list < length l
  unfolding is_kept
  kept_shorter l roots e =
      ltb-true (length (rounded F l roots).list) (length l)
      (and_true (fired l (fanout l roots) (length l)) (ltb (length (rounded F l roots).list) (length l)) e).1

  -- what holds where the rounds end, and stays with a round kept before them, holds of the rounds
  pub rounds_elim : (P : ℕ → List NodeKind → List ℕ → ℕ → Normal → Type 0)
      → ((l : List NodeKind) (roots : List ℕ) (k : ℕ) → P 0 l roots k (after l roots k))
      → ((fuel : ℕ) (l : List NodeKind) (roots : List ℕ) (k : ℕ) → is_kept F l roots ≡ false → P (suc fuel) l roots k (after l roots k))
      → ((fuel : ℕ) (l : List NodeKind) (roots : List ℕ) (k : ℕ) (a : Normal) → is_kept F l roots ≡ true
      → P fuel (rounded F l roots).list (rounded F l roots).roots (suc k) a → P (suc fuel) l roots k a)
      → (fuel : ℕ) (l : List NodeKind) (roots : List ℕ) (k : ℕ) → P fuel l roots k (rounds_from F fuel l roots k)
  unfolding rounds_from
  rounds_elim P z s n zero l roots k = z l roots k
  rounds_elim P z s n (suc fuel) l roots k = go (is_kept F l roots) refl (rounds_elim P z s n fuel (rounded F l roots).list (rounded F l roots).roots (suc k))
    where
      go : (t : Bool) → is_kept F l roots ≡ t
          → P fuel (rounded F l roots).list (rounded F l roots).roots (suc k) (rounds_from F fuel (rounded F l roots).list (rounded F l roots).roots (suc k))
          → P (suc fuel) l roots k
          (elim t [
            | true ↦ rounds_from F fuel (rounded F l roots).list (rounded F l roots).roots (suc k)
            | false ↦ after l roots k
          ])
      go true e h = n fuel l roots k _ e h
      go false e h = s fuel l roots k e

  pub lost : (fuel : ℕ) (l : List NodeKind) (roots : List ℕ) (k : ℕ) → (rounds_from F fuel l roots k).rounds + length (rounds_from F fuel l roots k).list ≤ k + length l
  lost =
      rounds_elim (λ fuel l roots k a. a.rounds + length a.list ≤ k + length l)
      (λ l roots k. omega arith)
      (λ fuel l roots k e. omega arith)
      (λ fuel l roots k a e h. let s = kept_shorter l roots e in omega arith)

  -- a first round that isn't kept gives back what was given
  pub given_back : (fuel : ℕ) (l : List NodeKind) (roots : List ℕ) (k : ℕ) → is_kept F l roots ≡ false → rounds_from F fuel l roots k ≡ after l roots k
  given_back =
      rounds_elim (λ fuel l roots k a. is_kept F l roots ≡ false → a ≡ after l roots k)
      (λ l roots k e. refl)
      (λ fuel l roots k e q. refl)
      (λ fuel l roots k a e h q. absurd (not_both (is_kept F l roots) e q))

  -- with fuel for its length, a first round that is kept makes the list shorter
  pub shorter : (fuel : ℕ) (l : List NodeKind) (roots : List ℕ) (k : ℕ)
      → (length (rounds_from F fuel l roots k).list ≤ length l)
      × (length l ≤ fuel → is_kept F l roots ≡ true → length (rounds_from F fuel l roots k).list < length l)
  shorter =
      rounds_elim (λ fuel l roots k a. (length a.list ≤ length l) × (length l ≤ fuel → is_kept F l roots ≡ true → length a.list < length l))
      (λ l roots k. (omega arith, λ h e. absurd (let s = kept_shorter l roots e in omega arith)))
      (λ fuel l roots k e. (omega arith, λ h q. absurd (not_both (is_kept F l roots) q e)))
      (λ fuel l roots k a e h. let s = kept_shorter l roots e in let b = h.0 in (omega arith, λ k q. omega arith))

  -- with fuel for its length, the rounds end where one isn't kept
  pub ends : (fuel : ℕ) (l : List NodeKind) (roots : List ℕ) (k : ℕ) → length l ≤ fuel
      → is_kept F (rounds_from F fuel l roots k).list (rounds_from F fuel l roots k).roots ≡ false
  ends =
      rounds_elim (λ fuel l roots k a. length l ≤ fuel → is_kept F a.list a.roots ≡ false)
      (λ l roots k h. (not_kept_when l roots).1 (inr (omega arith)))
      (λ fuel l roots k e h. e)
      (λ fuel l roots k a e n h. n (let s = kept_shorter l roots e in omega arith))

-- the answer is well-formed and its roots are inside
pub record Answered (Low : QuadFelt → Type 0) (a : Normal) : Type 0 where
  pub well_formed : WellFormed Low a.list
  pub inside : AllBelow (length a.list) a.roots

module _ (F : Ops QuadFelt) (L : Laws F) where
  pub stay_well_formed : (fuel : ℕ) (l : List NodeKind) (roots : List ℕ) (k : ℕ) → WellFormed L.Low l → AllBelow (length l) roots → Answered L.Low (rounds_from F fuel l roots k)
  stay_well_formed =
      rounds_elim F (λ fuel l roots k a. WellFormed L.Low l → AllBelow (length l) roots → Answered L.Low a)
      (λ l roots k w h. record { well_formed = w; inside = h })
      (λ fuel l roots k e w h. record { well_formed = w; inside = h })
      (λ fuel l roots k a e n w h. n (rounded_well_formed F L l w roots h) (rounded_inside F L l w roots h))

  pub keep_values : (given : ℕ → QuadFelt) → ((k : ℕ) → L.Low (given k)) → (fuel : ℕ) (l : List NodeKind) (roots : List ℕ) (k : ℕ) → WellFormed L.Low l → AllBelow (length l) roots
      → map (value F given (rounds_from F fuel l roots k).list) (rounds_from F fuel l roots k).roots ≡ map (value F given l) roots
  keep_values given low-given =
      rounds_elim F (λ fuel l roots k a. WellFormed L.Low l → AllBelow (length l) roots → map (value F given a.list) a.roots ≡ map (value F given l) roots)
      (λ l roots k w h. refl)
      (λ fuel l roots k e w h. refl)
      (λ fuel l roots k a e n w h. n (rounded_well_formed F L l w roots h) (rounded_inside F L l w roots h) ∙ rounded_values F L l w roots h given low-given)
