-- A round keeps every record's value, whatever the fanout, and at most doubles the list before it is compacted.
use Rattle.field.specs.Fields.{Low}
use Prim.Native.Nat.{ℕ, zero, suc, ◌+◌, ◌<◌, ◌≤◌}
use Rattle.std.specs.Prelude.{Option, Some, None, List, map, ◌≡◌, refl, length}
use Rattle.std.proofs.Common.{◌∙◌, ap}
use Rattle.std.proofs.Math.Path.{ap₂}
use native.Mathlib.Omega.{arith}
use Rattle.ring.specs.Ring.{Ops, Laws}
use Rattle.field.specs.declared.QuadFelt.{QuadFelt}
use Rattle.dag.specs.Nodes.{at, rename, like}
use Rattle.std.proofs.lemmas.List.{length-map}
use Rattle.dag.specs.WellFormed.{Fine, WellFormed}
use Rattle.dag.specs.WellFormedLaws.{fine_like}
use Rattle.dag.specs.declared.NodeKind.{NodeKind}
use Rattle.dag.specs.declared.NodeKind.TheVariants.{Input, Constant, Add, Sub, Mul, Neg}
use Rattle.meaning.specs.Values.{value_of, value}
use Rattle.meaning.specs.ValueLaws.{value_at}
use Rattle.builder.specs.Steps.{Built, Replay, place_of, recorded, step}
use Rattle.builder.specs.StepLaws.{Grown, step_grown}
use Rattle.builder.specs.StepValueLaws.{Worth, step_worth}
use Rattle.builder.specs.ReplayLaws.{Replayed, Faithful, nothing_replayed, recorded_replayed, recorded_faithful, renamed_fine, renamed_worth}
use Rattle.compact.specs.Reach.{marks}
use Rattle.compact.specs.Compact.{rank, compact}
use Rattle.compact.specs.OperandLaws.{below_map, map_through}
use Rattle.compact.specs.CompactLaws.{compact_well_formed, compact_inside, compact_values}
use Rattle.compact.specs.Promises.{AllBelow}
use Rattle.plan.specs.Plan.{plan_of, fanout}
use Rattle.normalize.specs.Rounds.{planned, round, rounded}
use Rattle.plan.specs.PlanLaws.{plan_fine}
use Rattle.plan.specs.PlanValueLaws.{plan_value, plan_worth}
use Rattle.plan.specs.Promises.{PlanFine}
use Rattle.plan.specs.declared.Rewrite.{Rewrite}
use Rattle.plan.specs.declared.Rewrite.TheVariants.{Factored, Rotated}

-- a record of z's kind on the operands' places
like_worth : (F : Ops QuadFelt) (given u v : ℕ → QuadFelt) (z : NodeKind) (m : ℕ → ℕ) (a b : ℕ) → u (m a) ≡ v a → u (m b) ≡ v b
    → value_of F given u (like z (m a) (m b)) ≡ value_of F given v (like z a b)
unfolding value_of
like_worth F given u v (Input k) m a b p q = refl
like_worth F given u v (Constant c) m a b p q = refl
like_worth F given u v (Add _ _) m a b p q = ap₂ F.add p q
like_worth F given u v (Sub _ _) m a b p q = ap₂ F.sub p q
like_worth F given u v (Mul _ _) m a b p q = ap₂ F.mul p q
like_worth F given u v (Neg _) m a b p q = ap F.neg p

-- what entering a record by its plan makes of a list
pub record Entered (Low : QuadFelt → Type 0) (l : List NodeKind) (b : Built) : Type 0 where
  pub well_formed : WellFormed Low b.list
  pub inside : b.place < length b.list
  pub longer : length l ≤ length b.list
  pub by_two : length b.list ≤ suc (suc (length l))

by_one_step : (Low : QuadFelt → Type 0) (l : List NodeKind) (b : Built) → Grown Low l b → Entered Low l b
by_one_step Low l b g = record { well_formed = g.well_formed; inside = g.inside; longer = g.longer; by_two = let h = g.by_one in omega arith }

module _ (F : Ops QuadFelt) (L : Laws F) (n : ℕ) (r : Replay) (d : Replayed L.Low n r) (z : NodeKind) (f : Fine L.Low n z) where
  like_fine : (a b : ℕ) → a < n → b < n → Fine L.Low (length r.list) (like z (place_of r a) (place_of r b))
  like_fine a b p q = fine_like L.Low n (length r.list) z (place_of r a) (place_of r b) f (d.inside a p) (d.inside b q)

  -- the inner step of a factored record, and the outer one's request
  module _ (a b : ℕ) (p : a < n) (q : b < n) where
    inner_grown : Grown L.Low r.list (step F r.list (like z (place_of r a) (place_of r b)))
    inner_grown = step_grown F L r.list d.well_formed (like z (place_of r a) (place_of r b)) (like_fine a b p q)

    outer_fine : (g : ℕ) → g < n
        → Fine L.Low (length (step F r.list (like z (place_of r a) (place_of r b))).list)
        (Mul (place_of r g) (step F r.list (like z (place_of r a) (place_of r b))).place)
    unfolding Fine
    outer_fine g k = let h = d.inside g k in let j = inner_grown.longer in (omega arith, inner_grown.inside)

  planned_entered : (plan : Option Rewrite) → PlanFine n plan → Entered L.Low r.list (planned F r z plan)
  unfolding planned
  planned_entered (Some (Factored g a b)) (k, p, q) =
      let inner = step F r.list (like z (place_of r a) (place_of r b)) in
      let i = inner_grown a b p q in
      let o = step_grown F L inner.list i.well_formed (Mul (place_of r g) inner.place) (outer_fine a b p q g k) in
      let j = i.longer in
      let h = i.by_one in
      let m = o.longer in
      let s = o.by_one in
      record { well_formed = o.well_formed; inside = o.inside; longer = omega arith; by_two = omega arith }
  planned_entered (Some (Rotated e y)) (p, q) =
      by_one_step L.Low r.list (step F r.list (like z (place_of r e) (place_of r y))) (inner_grown e y p q)
  planned_entered None h =
      by_one_step L.Low r.list (step F r.list (rename (place_of r) z)) (step_grown F L r.list d.well_formed (rename (place_of r) z) (renamed_fine F L n r d z f))

  module _ (given : ℕ → QuadFelt) (low-given : (k : ℕ) → L.Low (given k)) (l : List NodeKind) (e : Faithful F given l n r) where
    inner_worth : (a b : ℕ) → a < n → b < n
        → Worth F given r.list (step F r.list (like z (place_of r a) (place_of r b))) (value_of F given (value F given l) (like z a b))
    inner_worth a b p q =
        rw (← like_worth F given (value F given r.list) (value F given l) z (place_of r) a b (e a p) (e b q))
        (step_worth F L given low-given r.list d.well_formed (like z (place_of r a) (place_of r b)) (like_fine a b p q))

    planned_worth : (plan : Option Rewrite) → PlanFine n plan → Worth F given r.list (planned F r z plan) (plan_value F given (value F given l) z plan)
    unfolding planned value_of
    planned_worth (Some (Factored g a b)) (k, p, q) =
        let inner = step F r.list (like z (place_of r a) (place_of r b)) in
        let i = inner_grown a b p q in
        let u = inner_worth a b p q in
        let o = step_worth F L given low-given inner.list i.well_formed (Mul (place_of r g) inner.place) (outer_fine a b p q g k) in
        record {
          keeps = λ j h. o.keeps j (let s = i.longer in omega arith) ∙ u.keeps j h;
          worth = o.worth ∙ ap₂ F.mul (u.keeps (place_of r g) (d.inside g k) ∙ e g k) u.worth;
        }
    planned_worth (Some (Rotated a b)) (p, q) = inner_worth a b p q
    planned_worth None h =
        rw (← renamed_worth F L n r d z f given l e)
        (step_worth F L given low-given r.list d.well_formed (rename (place_of r) z) (renamed_fine F L n r d z f))

-- a round on a well-formed list, for any function in place of the fanout
module _ (F : Ops QuadFelt) (L : Laws F) (l : List NodeKind) (w : WellFormed L.Low l) (fan : ℕ → ℕ) where
  -- the list built is well-formed, the map has n entries, each inside
  pub round_replayed : (n : ℕ) → Replayed L.Low n (round F l fan n)
  unfolding round WellFormed
  round_replayed zero = nothing_replayed L.Low
  round_replayed (suc n) =
      let r = round F l fan n in
      let d = round_replayed n in
      let plan = plan_of l fan n (at l n) in
      let g = planned_entered F L n r d (at l n) (w n) plan (plan_fine L.Low l w fan n (at l n) (w n)) in
      recorded_replayed L.Low n r d (planned F r (at l n) plan) g.well_formed g.inside g.longer

  -- at most 2n records before compaction
  pub round_length : (n : ℕ) → length (round F l fan n).list ≤ n + n
  unfolding round recorded WellFormed
  round_length zero = omega arith
  round_length (suc n) =
      let r = round F l fan n in
      let d = round_replayed n in
      let plan = plan_of l fan n (at l n) in
      let g = planned_entered F L n r d (at l n) (w n) plan (plan_fine L.Low l w fan n (at l n) (w n)) in
      let h = round_length n in
      let k = g.by_two in
      omega arith

  -- the result place of each record has its value
  pub round_faithful : (given : ℕ → QuadFelt) → ((k : ℕ) → L.Low (given k)) → (n : ℕ) → n ≤ length l → Faithful F given l n (round F l fan n)
  unfolding round WellFormed
  round_faithful given low-given zero h = λ i k. absurd (omega arith)
  round_faithful given low-given (suc n) h =
      let r = round F l fan n in
      let d = round_replayed n in
      let e = round_faithful given low-given n (omega arith) in
      let plan = plan_of l fan n (at l n) in
      recorded_faithful L.Low n r d (planned F r (at l n) plan) F given l e
      (rw (value_at F given L.Low l w n h, ← plan_worth F L given l w fan n (omega arith) (at l n) (w n))
      (planned_worth F L n r d (at l n) (w n) given low-given l e plan (plan_fine L.Low l w fan n (at l n) (w n))))

-- a round's list compacted
module _ (F : Ops QuadFelt) (L : Laws F) (l : List NodeKind) (w : WellFormed L.Low l) (roots : List ℕ) (inside : AllBelow (length l) roots) where
  renamed_inside : AllBelow (length (round F l (fanout l roots) (length l)).list) (map (place_of (round F l (fanout l roots) (length l))) roots)
  renamed_inside =
      below_map (place_of (round F l (fanout l roots) (length l))) (length (round F l (fanout l roots) (length l)).list) roots
      (λ i p. (round_replayed F L l w (fanout l roots) (length l)).inside i (inside i p))

  pub rounded_well_formed : WellFormed L.Low (rounded F l roots).list
  unfolding rounded
  rounded_well_formed = compact_well_formed _ _ L.Low (round_replayed F L l w (fanout l roots) (length l)).well_formed renamed_inside

  pub rounded_inside : AllBelow (length (rounded F l roots).list) (rounded F l roots).roots
  unfolding rounded
  rounded_inside = compact_inside _ _ L.Low (round_replayed F L l w (fanout l roots) (length l)).well_formed renamed_inside

  pub rounded_values : (given : ℕ → QuadFelt) → ((k : ℕ) → L.Low (given k))
      → map (value F given (rounded F l roots).list) (rounded F l roots).roots ≡ map (value F given l) roots
  unfolding rounded
  rounded_values given low-given =
      let r = round F l (fanout l roots) (length l) in
      compact_values r.list (map (place_of r) roots) L.Low (round_replayed F L l w (fanout l roots) (length l)).well_formed renamed_inside F given
      ∙ map_through (place_of r) (value F given r.list) (value F given l) roots
      (λ i p. round_faithful F L l w (fanout l roots) given low-given (length l) (omega arith) i (inside i p))

-- as many roots as before
pub rounded_many : (F : Ops QuadFelt) (l : List NodeKind) (roots : List ℕ) → length (rounded F l roots).roots ≡ length roots
unfolding rounded compact
rounded_many F l roots =
    let r = round F l (fanout l roots) (length l) in
    length-map (map (place_of r) roots) (rank (marks r.list (map (place_of r) roots))) ∙ length-map roots (place_of r)
