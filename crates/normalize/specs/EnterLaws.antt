-- A record entered into a round's list by its plan.
use Rattle.std.specs.Prelude.{Option, Some, None, ℕ, ◌<◌, List, ◌≡◌, length}
use Rattle.std.proofs.Common.{◌∙◌, subst}
use Rattle.std.proofs.Math.Path.{ap, ap₂}
use native.Mathlib.Omega.{arith}
use Rattle.field.specs.Fields.{Field, Low}
use Rattle.dag.specs.ViewLaws.{same_room}
use Rattle.dag.specs.View.{interleaved}
use Rattle.dag.specs.Nodes.{nodes, rename, like}
use Rattle.dag.specs.WellFormed.{Fine}
use Rattle.dag.specs.WellFormedLaws.{fine_mono, fine_like, fine_rename}
use Rattle.dag.specs.declared.NodeKind.{NodeKind}
use Rattle.dag.specs.declared.NodeKind.TheVariants.{Mul}
use Rattle.index.specs.Index.{NodeIndex}
use Rattle.builder.specs.Steps.{place_of, step}
use Rattle.builder.specs.Promises.{Request, Pushed, Room, read}
use Rattle.builder.specs.declared.Entered.{Entered}
use Rattle.normalize.specs.Rounds.{planned}
use Rattle.plan.specs.Promises.{PlanFine}
use Rattle.normalize.specs.Promises.{Entering, Linked, held, Planned}
use Rattle.plan.specs.declared.Rewrite.{Rewrite}
use Rattle.plan.specs.declared.Rewrite.TheVariants.{Factored, Rotated}

module _ (field : Field) where
  by_push : (work : List ℕ) (count : ℕ) (x : NodeKind) (after : List ℕ) (e : Entered) → Pushed field work count x after e → Planned field work count (step field.elements (nodes (interleaved work) count) x) after e
  by_push work count x after e h =
      record {
        kept = h.kept;
        sound = h.sound;
        list_is = h.list_is;
        place_is = h.place_is;
        inside = h.inside;
        longer = h.longer;
        by_two = let k = h.by_one in omega arith;
      }

  module _ {work : List ℕ} {count : ℕ} {map : List ℕ} {i : ℕ} {x : NodeKind} {plan : Option Rewrite} (h : Entering field work count map i x plan) where
    -- there is room for a request
    pub push_room : (links : List ℕ) → Linked work count links → Room work count links
    push_room links d = let a = h.room in let b = d.room in record { room = omega arith; index = d.index; link_room = omega arith }

    like_request : (a b : ℕ) → a < i → b < i → Request field (interleaved work) count (like x (read map a) (read map b))
    like_request a b k q =
        record { sound = h.sound; fine = fine_like (Low field) i count x (read map a) (read map b) h.fine (h.places a k) (h.places b q) }

    pub record_fits : Fine (Low field) (length map) x
    record_fits = fine_mono (Low field) i (length map) x h.fits h.fine

    -- a plain record
    pub plain_request : Request field (interleaved work) count (rename (read map) x)
    plain_request = record { sound = h.sound; fine = fine_rename (Low field) (read map) i count x h.places h.fine }

    pub plain_planned : plan ≡ None → (after : List ℕ) (e : Entered) → Pushed field work count (rename (read map) x) after e → Planned field work count (planned field.elements (held work count map) x plan) after e
    unfolding planned place_of
    plain_planned e after r k = rw e (by_push work count (rename (read map) x) after r k)

    -- a rotated one
    module _ (a b : ℕ) (e : plan ≡ Some (Rotated a b)) where
      rotated_places : (a < i) × (b < i)
      rotated_places = subst (PlanFine i) e h.plan_fine

      module _ (y z : ℕ) (ey : y ≡ read map a) (ez : z ≡ read map b) (q : NodeKind) (eq : q ≡ like x y z) where
        is_like : q ≡ like x (read map a) (read map b)
        is_like = eq ∙ rw (ey, ez)

        pub rotated_request : Request field (interleaved work) count q
        rotated_request = rw is_like (like_request a b rotated_places.0 rotated_places.1)

        pub rotated_planned : (after : List ℕ) (r : Entered) → Pushed field work count q after r → Planned field work count (planned field.elements (held work count map) x plan) after r
        unfolding planned place_of
        rotated_planned after r k = rw e (by_push work count (like x (read map a) (read map b)) after r (rw is_like at k))

    -- a factored one: the inner sum or difference, then the product
    module _ (f a b : ℕ) (e : plan ≡ Some (Factored f a b)) where
      factored_places : (f < i) × (a < i) × (b < i)
      factored_places = subst (PlanFine i) e h.plan_fine

      module _ (y z : ℕ) (ey : y ≡ read map a) (ez : z ≡ read map b) (q : NodeKind) (eq : q ≡ like x y z) where
        inner_like : q ≡ like x (read map a) (read map b)
        inner_like = eq ∙ rw (ey, ez)

        pub inner_request : Request field (interleaved work) count q
        inner_request = rw inner_like (like_request a b factored_places.1 factored_places.2)

        module _ (mid : List ℕ) (r : Entered) (k : Pushed field work count q mid r) (g : ℕ) (eg : g ≡ read map f) where
          pub outer_request : (links later : List ℕ) → Linked work count links → NodeIndex (nodes (interleaved mid) r.count) later → length later ≡ length links → Request field (interleaved mid) r.count (Mul g r.place) × Room mid r.count later
          unfolding Fine
          outer_request links later linked index same =
              let j = h.places f factored_places.0 in
              let l = k.longer in
              let s = k.by_one in
              let t = same_room mid work k.kept in
              let u = h.room in
              let v = linked.room in
              (record { sound = k.sound; fine = (omega arith, k.inside) }, record { room = omega arith; index = index; link_room = rw same (omega arith) })

          pub factored_planned : (after : List ℕ) (o : Entered) → Pushed field mid r.count (Mul g r.place) after o → Planned field work count (planned field.elements (held work count map) x plan) after o
          unfolding planned place_of
          factored_planned after o w =
              let inner = step field.elements (nodes (interleaved work) count) (like x (read map a) (read map b)) in
              let same = ap (step field.elements (nodes (interleaved work) count)) inner_like in
              let m : step field.elements (nodes (interleaved mid) r.count) (Mul g r.place) ≡ step field.elements inner.list (Mul (read map f) inner.place) =
              ap₂ (step field.elements) (k.list_is ∙ ap (λ t. t.list) same) (ap₂ Mul eg (k.place_is ∙ ap (λ t. t.place) same)) in
              rw e
              (record {
                kept = w.kept ∙ k.kept;
                sound = w.sound;
                list_is = w.list_is ∙ ap (λ t. t.list) m;
                place_is = w.place_is ∙ ap (λ t. t.place) m;
                inside = w.inside;
                longer = let c = k.longer in let d = w.longer in omega arith;
                by_two = let c = k.by_one in let d = w.by_one in omega arith;
              })
