-- A replay of a list's records into an empty list: the list built is well-formed, and each result place has its record's value.
use Prim.Native.Nat.{ℕ, zero, suc, ◌<◌, ◌≤◌}
use mathlib.Core.List.{List, [], ◌∷◌}
use Rattle.std.specs.Prelude.{◌≡◌, refl}
use Rattle.std.proofs.Common.{◌∙◌}
use Rattle.std.proofs.Math.Path.{ap}
use native.Mathlib.Omega.{arith}
use Rattle.std.proofs.Math.ListN.{length, get_or-append}
use Rattle.std.proofs.Math.Seq.{get_or_at}
use Rattle.ring.specs.Ring.{Ops, Laws}
use Rattle.field.specs.declared.QuadFelt.{QuadFelt}
use Rattle.dag.specs.Nodes.{at, rename}
use Rattle.dag.specs.NodeLaws.{length_snoc}
use Rattle.dag.specs.CaseLaws.{below_suc_elim}
use Rattle.dag.specs.WellFormed.{Fine, WellFormed}
use Rattle.dag.specs.WellFormedLaws.{fine_rename, well_formed_nil}
use Rattle.dag.specs.declared.NodeKind.{NodeKind}
use Rattle.meaning.specs.Values.{value_of, value}
use Rattle.meaning.specs.ValueLaws.{value_at, value_of_cong, value_of_rename}
use Rattle.builder.specs.Steps.{Built, Replay, place_of, recorded, step, replay}
use Rattle.builder.specs.StepLaws.{step_grown}
use Rattle.builder.specs.StepValueLaws.{Worth, step_worth}

-- n results: a well-formed list, and n places inside it
pub record Replayed (Low : QuadFelt → Type 0) (n : ℕ) (r : Replay) : Type 0 where
  pub well_formed : WellFormed Low r.list
  pub mapped : length r.map ≡ n
  pub inside : (i : ℕ) → i < n → place_of r i < length r.list

-- each of the first n results has its record's value
abbrev pub Faithful : (F : Ops QuadFelt) (given : ℕ → QuadFelt) → List NodeKind → ℕ → Replay → Type 0
Faithful F given l n r = (i : ℕ) → i < n → value F given r.list (place_of r i) ≡ value F given l i

pub nothing_replayed : (Low : QuadFelt → Type 0) → Replayed Low 0 (record { list = []; map = [] })
nothing_replayed Low = record { well_formed = well_formed_nil Low; mapped = refl; inside = λ i h. absurd (omega arith) }

-- one more result
module _ (r : Replay) (b : Built) (n : ℕ) (m : length r.map ≡ n) where
  place_of_earlier : (i : ℕ) → i < n → place_of (recorded r b) i ≡ place_of r i
  unfolding place_of recorded
  place_of_earlier i h = get_or-append r.map (b.place ∷ []) 0 i (omega arith)

  place_of_last : place_of (recorded r b) n ≡ b.place
  unfolding place_of recorded
  place_of_last = get_or_at r.map b.place [] 0 n m

module _ (Low : QuadFelt → Type 0) (n : ℕ) (r : Replay) (d : Replayed Low n r) (b : Built) where
  pub recorded_replayed : WellFormed Low b.list → b.place < length b.list → length r.list ≤ length b.list
      → Replayed Low (suc n) (recorded r b)
  unfolding recorded
  recorded_replayed w h k =
      record {
        well_formed = w;
        mapped = length_snoc r.map b.place ∙ ap suc d.mapped;
        inside = below_suc_elim (λ i. place_of (recorded r b) i < length b.list) n
            (λ i j. let e = place_of_earlier r b n d.mapped i j in let f = d.inside i j in omega arith)
            (let e = place_of_last r b n d.mapped in omega arith);
      }

  pub recorded_faithful : (F : Ops QuadFelt) (given : ℕ → QuadFelt) (l : List NodeKind) → Faithful F given l n r
      → Worth F given r.list b (value F given l n) → Faithful F given l (suc n) (recorded r b)
  unfolding recorded
  recorded_faithful F given l f v =
      below_suc_elim (λ i. value F given b.list (place_of (recorded r b) i) ≡ value F given l i) n
      (λ i j. rw (place_of_earlier r b n d.mapped i j) (v.keeps (place_of r i) (d.inside i j) ∙ f i j))
      (rw (place_of_last r b n d.mapped) v.worth)

-- a request on earlier results, entered as one on their places
module _ (F : Ops QuadFelt) (L : Laws F) (n : ℕ) (r : Replay) (d : Replayed L.Low n r) (x : NodeKind) (f : Fine L.Low n x) where
  pub renamed_fine : Fine L.Low (length r.list) (rename (place_of r) x)
  renamed_fine = fine_rename L.Low (place_of r) n (length r.list) x d.inside f

  pub renamed_worth : (given : ℕ → QuadFelt) (l : List NodeKind) → Faithful F given l n r
      → value_of F given (value F given r.list) (rename (place_of r) x) ≡ value_of F given (value F given l) x
  renamed_worth given l g =
      value_of_rename F given (value F given r.list) (place_of r) x
      ∙ value_of_cong F given L.Low (λ i. value F given r.list (place_of r i)) (value F given l) n x f g

module _ (F : Ops QuadFelt) (L : Laws F) (l : List NodeKind) (w : WellFormed L.Low l) where
  -- the list built is well-formed, the map has n entries, each inside
  pub replay_replayed : (n : ℕ) → Replayed L.Low n (replay F l n)
  unfolding replay WellFormed
  replay_replayed zero = nothing_replayed L.Low
  replay_replayed (suc n) =
      let r = replay F l n in
      let d = replay_replayed n in
      let g = step_grown F L r.list d.well_formed (rename (place_of r) (at l n)) (renamed_fine F L n r d (at l n) (w n)) in
      recorded_replayed L.Low n r d (step F r.list (rename (place_of r) (at l n))) g.well_formed g.inside g.longer

  pub replay_short : (n : ℕ) → length (replay F l n).list ≤ n
  unfolding replay recorded WellFormed
  replay_short zero = omega arith
  replay_short (suc n) =
      let r = replay F l n in
      let d = replay_replayed n in
      let g = step_grown F L r.list d.well_formed (rename (place_of r) (at l n)) (renamed_fine F L n r d (at l n) (w n)) in
      let h = replay_short n in
      let k = g.by_one in
      omega arith

  module _ (given : ℕ → QuadFelt) (low-given : (k : ℕ) → L.Low (given k)) where
    -- the result place of each record has its value
    pub replay_faithful : (n : ℕ) → n ≤ length l → Faithful F given l n (replay F l n)
    unfolding replay WellFormed
    replay_faithful zero h = λ i k. absurd (omega arith)
    replay_faithful (suc n) h =
        let r = replay F l n in
        let d = replay_replayed n in
        let f = replay_faithful n (omega arith) in
        recorded_faithful L.Low n r d (step F r.list (rename (place_of r) (at l n))) F given l f
        (rw (value_at F given L.Low l w n h, ← renamed_worth F L n r d (at l n) (w n) given l f)
        (step_worth F L given low-given r.list d.well_formed (rename (place_of r) (at l n)) (renamed_fine F L n r d (at l n) (w n))))
