-- A round's turn: the record at place i planned and entered.
use Rattle.std.specs.Prelude.{Bool, false, ◌||◌, Option, Some, None, ℕ, ◌+◌, ◌<◌, ◌≤◌, List, ◌≡◌, length, set}
use Rattle.std.proofs.Math.Path.{refl, ap, ap₂}
use Rattle.std.proofs.Common.{◌∙◌, add-one}
use native.Mathlib.Omega.{arith}
use Rattle.field.specs.Fields.{Field, Low, element_laws}
use Rattle.dag.specs.ViewLaws.{same_room}
use Rattle.dag.specs.View.{interleaved}
use Rattle.dag.specs.Nodes.{nodes, at, like}
use Rattle.dag.specs.WellFormedLaws.{fine_any}
use Rattle.dag.specs.WellFormed.{Any, Fine, WellFormed}
use Rattle.dag.specs.declared.NodeKind.{NodeKind}
use Rattle.dag.specs.declared.NodeKind.TheVariants.{Mul}
use Rattle.builder.specs.Steps.{Replay, place_of, step}
use Rattle.builder.specs.OutcomeLaws.{list_fine}
use Rattle.builder.specs.HoldLaws.{rename_agree, holds_nothing, count_is, place_read, holds_more}
use Rattle.builder.specs.Promises.{read}
use Rattle.builder.specs.declared.Entered.{Entered}
use Rattle.plan.specs.Plan.{plan_of, fires}
use Rattle.normalize.specs.Rounds.{planned, round, fired}
use Rattle.plan.specs.PlanLaws.{plan_fine}
use Rattle.normalize.specs.RoundLaws.{round_replayed, round_length}
use Rattle.plan.specs.Promises.{PlanFine}
use Rattle.normalize.specs.Promises.{Entering, held, Planned, Rounding, RoundHeld}
use Rattle.plan.specs.declared.Rewrite.{Rewrite}
use Rattle.plan.specs.declared.Rewrite.TheVariants.{Factored, Rotated}

module _ (field : Field) where
  -- results that agree before place i give the same list by a plan
  planned_agree : (r q : Replay) (i : ℕ) (x : NodeKind) (plan : Option Rewrite) → r.list ≡ q.list → ((j : ℕ) → j < i → place_of r j ≡ place_of q j) → Fine (Low field) i x → PlanFine i plan
      → planned field.elements r x plan ≡ planned field.elements q x plan
  unfolding planned
  planned_agree r q i x (Some (Factored f a b)) l m h (k, s, t) =
      let inner = ap₂ (step field.elements) l (ap₂ (like x) (m a s) (m b t)) in
      ap₂ (step field.elements) (ap (λ b. b.list) inner) (ap₂ Mul (m f k) (ap (λ b. b.place) inner))
  planned_agree r q i x (Some (Rotated e y)) l m h (s, t) = ap₂ (step field.elements) l (ap₂ (like x) (m e s) (m y t))
  planned_agree r q i x None l m h k = ap₂ (step field.elements) l (rename_agree (Low field) (place_of r) (place_of q) i x h m)

  pub round_begins : (s : List ℕ) (n : ℕ) (fan work map : List ℕ) → RoundHeld field s n fan 0 work map 0 false
  unfolding round fired
  round_begins s n fan work map = record { holds = holds_nothing field work map; fired_is = refl }

  -- stores of the same lengths serve a round too
  pub rounding_still : {s : List ℕ} {n : ℕ} {fan work map : List ℕ} → Rounding field s n fan work map → (later places : List ℕ) → length later ≡ length work → length places ≡ length map → Rounding field s n fan later places
  rounding_still {s} {n} {fan} {work} {map} g later places ew em =
      let a = g.work_fits in
      let b = g.map_fits in
      let q = same_room later work ew in
      record { sound = g.sound; few = g.few; fan_fits = g.fan_fits; work_fits = omega arith; map_fits = omega arith }

  module _ {s : List ℕ} {n : ℕ} {fan : List ℕ} {i : ℕ} {work map : List ℕ} {count : ℕ} {t : Bool} (g : Rounding field s n fan work map) (h : RoundHeld field s n fan i work map count t) where
    r : Replay
    r = round field.elements (nodes (interleaved s) n) (read fan) i

    w : WellFormed (Low field) (nodes (interleaved s) n)
    w = list_fine field (interleaved s) n g.sound

    pub round_count : count ≤ i + i
    unfolding r w
    round_count = let a = count_is field r i work map count h.holds in let b = round_length field.elements (element_laws field) (nodes (interleaved s) n) w (read fan) i in omega arith

    module _ (k : i < n) (x : NodeKind) (ex : x ≡ at (nodes (interleaved s) n) i) where
      fine_here : Fine (Low field) i x
      unfolding WellFormed w
      fine_here = rw ex (w i)

      pub fine_turn : Fine Any i x
      fine_turn = fine_any (Low field) i x fine_here

      module _ (plan : Option Rewrite) (ep : plan ≡ plan_of (nodes (interleaved s) n) (read fan) i x) where
        plan_here : PlanFine i plan
        unfolding w
        plan_here = rw ep (plan_fine (Low field) (nodes (interleaved s) n) w (read fan) i x fine_here)

        pub turn_entering : Entering field work count map i x plan
        unfolding r w
        turn_entering =
            let f = g.map_fits in
            let b = g.work_fits in
            let c = round_count in
            record {
              sound = h.holds.sound;
              places = λ j m.
                  let a = place_read field r i work map count h.holds j m in
                  let d = (round_replayed field.elements (element_laws field) (nodes (interleaved s) n) w (read fan) i).inside j m in
                  let e = count_is field r i work map count h.holds in
                  omega arith;
              fits = omega arith;
              fine = fine_here;
              plan_fine = plan_here;
              room = omega arith;
            }

        pub turn_held : (after : List ℕ) (e : Entered) (u : Bool) → Planned field work count (planned field.elements (held work count map) x plan) after e → u ≡ (t || fires plan)
            → RoundHeld field s n fan (i + 1) after (set map i e.place) e.count u
        unfolding round fired place_of r
        turn_held after e u q eu =
            let same = planned_agree (held work count map) r i x plan h.holds.list_is (place_read field r i work map count h.holds) fine_here plan_here in
            let here = ap₂ (planned field.elements r) ex (ep ∙ ap (plan_of (nodes (interleaved s) n) (read fan) i) ex) in
            rw (add-one i)
            (record {
              holds = holds_more field r i work map count h.holds (planned field.elements r (at (nodes (interleaved s) n) i) (plan_of (nodes (interleaved s) n) (read fan) i (at (nodes (interleaved s) n) i))) after e.place e.count
                  q.sound (q.list_is ∙ ap (λ b. b.list) (same ∙ here)) (q.place_is ∙ ap (λ b. b.place) (same ∙ here)) (let f = g.map_fits in omega arith);
              fired_is = eu ∙ ap₂ (λ a b. a || fires b) h.fired_is (ep ∙ ap (plan_of (nodes (interleaved s) n) (read fan) i) ex);
            })
