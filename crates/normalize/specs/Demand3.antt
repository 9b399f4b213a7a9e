-- What normalising gives, over any ring, any element in lowest form given to each key, and a list of roots.
use Rattle.std.specs.Prelude.{ℕ, ◌+◌, ◌<◌, ◌≤◌, Bool, List, map, ◌≡◌, ◌⊎◌, ◌↔◌, get_or}
use Rattle.std.proofs.Math.Bool.{true, false}
use Rattle.std.proofs.Math.Path.{refl, ap}
use Rattle.std.proofs.Common.{sym, ◌∙◌}
use native.Mathlib.Omega.{arith}
use Rattle.std.proofs.Math.ListN.{length, get_or-map}
use Rattle.std.proofs.lemmas.List.{length-map}
use Rattle.ring.specs.Ring.{Ops, Laws}
use Rattle.field.specs.declared.QuadFelt.{QuadFelt}
use Rattle.dag.specs.NodeLaws.{get_or_inside}
use Rattle.dag.specs.WellFormed.{WellFormed}
use Rattle.dag.specs.declared.NodeKind.{NodeKind}
use Rattle.meaning.specs.Values.{value}
use Rattle.plan.specs.Plan.{fanout}
use Rattle.normalize.specs.Rounds.{fired, rounded, is_kept, rounds_from, normalize}
use Rattle.normalize.specs.RepeatLaws.{not_kept_when, lost, given_back, shorter, ends, Answered, stay_well_formed, keep_values}
use Rattle.compact.specs.Promises.{AllBelow}

module _ (F : Ops QuadFelt) (L : Laws F) (l : List NodeKind) (w : WellFormed L.Low l) (roots : List ℕ) (inside : AllBelow (length l) roots) where
  -- whatever element each key is given, each root answered has the value of the root given
  pub same_value : (given : ℕ → QuadFelt) → ((k : ℕ) → L.Low (given k))
      → map (value F given (normalize F l roots).list) (normalize F l roots).roots ≡ map (value F given l) roots
  unfolding normalize
  same_value given low-given = keep_values F L given low-given (length l) l roots 0 w inside

  -- the same, root by root
  pub same_value_at : (given : ℕ → QuadFelt) → ((k : ℕ) → L.Low (given k)) → (i : ℕ) → i < length roots
      → value F given (normalize F l roots).list (get_or (normalize F l roots).roots i 0) ≡ value F given l (get_or roots i 0)
  same_value_at given low-given i h =
      let f = value F given (normalize F l roots).list in
      sym (get_or-map f (normalize F l roots).roots i 0)
      ∙ ap (λ (vs : List QuadFelt). get_or vs i (f 0)) (same_value given low-given)
      ∙ get_or_inside (map (value F given l) roots) i (f 0) (value F given l 0) (omega (arith, length-map roots (value F given l)))
      ∙ get_or-map (value F given l) roots i 0

  pub as_many_roots : length (normalize F l roots).roots ≡ length roots
  as_many_roots =
      sym (length-map (normalize F l roots).roots (value F (λ k. F.zero) (normalize F l roots).list))
      ∙ ap length (same_value (λ k. F.zero) (λ k. L.low_zero))
      ∙ length-map roots (value F (λ k. F.zero) l)

  -- the answer is well-formed, and its roots are inside
  pub answer_well_formed : Answered L.Low (normalize F l roots)
  unfolding normalize
  answer_well_formed = stay_well_formed F L (length l) l roots 0 w inside

module _ (F : Ops QuadFelt) (l : List NodeKind) (roots : List ℕ) where
  -- there are never more records than before
  pub never_more : length (normalize F l roots).list ≤ length l
  unfolding normalize
  never_more = (shorter F (length l) l roots 0).0

  -- the rounds kept never outnumber the records lost
  pub rounds_at_most_lost : (normalize F l roots).rounds + length (normalize F l roots).list ≤ length l
  unfolding normalize
  rounds_at_most_lost = let h = lost F (length l) l roots 0 in omega arith

  -- the given records and roots come back exactly when the first round isn't kept
  pub unchanged_exactly_when : (((normalize F l roots).list ≡ l) × ((normalize F l roots).roots ≡ roots)) ↔ (is_kept F l roots ≡ false)
  unfolding normalize
  unchanged_exactly_when = (λ u. go (is_kept F l roots) refl u.0, λ e. let b = given_back F (length l) l roots 0 e in (ap (λ a. a.list) b, ap (λ a. a.roots) b))
    where
      go : (t : Bool) → is_kept F l roots ≡ t → (rounds_from F (length l) l roots 0).list ≡ l → t ≡ false
      go true e u = absurd (let h = (shorter F (length l) l roots 0).1 (omega arith) e in let q = ap length u in omega arith)
      go false e u = refl

  -- exactly when in the first round no rewrite fired or its compacted list was no shorter
  pub given_back_exactly_when : (((normalize F l roots).list ≡ l) × ((normalize F l roots).roots ≡ roots))
      ↔ ((fired l (fanout l roots) (length l) ≡ false) ⊎ (length l ≤ length (rounded F l roots).list))
  given_back_exactly_when = (λ u. (not_kept_when F l roots).0 (unchanged_exactly_when.0 u), λ r. unchanged_exactly_when.1 ((not_kept_when F l roots).1 r))

  -- normalising what came back returns the same records and roots again, with 0 rounds kept
  pub idempotent : normalize F (normalize F l roots).list (normalize F l roots).roots
      ≡ record { list = (normalize F l roots).list; roots = (normalize F l roots).roots; rounds = 0 }
  unfolding normalize
  idempotent = given_back F _ _ _ 0 (ends F (length l) l roots 0 (omega arith))
