-- Step: its tests, and its answer and store by what was resolved.
use Rattle.std.specs.Prelude.{ℕ, suc, ◌+◌, ◌<◌, ◌≤◌, false, Result, Ok, Err, List, [], ◌∷◌, ◌++◌, ◌≡◌}
use Rattle.std.proofs.Math.Bool.{true}
use Rattle.std.proofs.Common.{sym, ◌∙◌, arith}
use Rattle.std.proofs.Math.Path.{ap}
use Rattle.std.proofs.Math.Numerals.{add-one}
use borrow.Author.Tests.{lt-ltb, le-ltb, le-leb, lt-leb}
use Rattle.field.specs.Fields.{Field}
use Rattle.dag.specs.View.{interleaved}
use Rattle.dag.specs.Nodes.{most_records, decode, nodes}
use Rattle.dag.specs.NodeLaws.{length_nodes, length_snoc}
use Rattle.dag.specs.Refusals.{need}
use Rattle.dag.specs.Check.{record_check, rootless_check}
use Rattle.dag.specs.CheckLaws.{then_good, passed, faithful}
use Rattle.dag.specs.PassLaws.{listed}
use Rattle.dag.specs.Store.{Records, put, written}
use Rattle.dag.specs.WordLaws.{written_put, written_own}
use Rattle.dag.specs.declared.NodeKind.{NodeKind}
use Rattle.dag.specs.declared.Refusal.{Refusal}
use Rattle.dag.specs.declared.Refusal.TheVariants.{NoRoom}
use Rattle.builder.specs.Steps.{Built, outcome, intern, enter, step}
use Rattle.builder.specs.Calls.{step_check, has_room, stepped, step_room_check, step_whole_check, step_answer, step_store}
use Rattle.builder.specs.Promises.{Request, appended, Stepped}
use Rattle.builder.specs.declared.Outcome.TheVariants.{Place, Node}
use Rattle.builder.specs.declared.Entered.{Entered}

pub stepped_as : (s : List ℕ) (n : ℕ) (b d : Built) (r : Result Entered Refusal) (after : List ℕ) → b ≡ d → Stepped s n d r after → Stepped s n b r after
stepped_as s n b d r after e h = rw e h

module _ (s : List ℕ) (n : ℕ) (records : Records (interleaved s) n) where
  room_there : (i : ℕ) → step_room_check (interleaved s) n (appended (nodes (interleaved s) n) (Place i)) ≡ Ok tt
  unfolding step_room_check
  room_there i = rw (length_nodes (interleaved s) n, le-leb n n (omega arith))

  -- a place that is there
  pub stays : (i : ℕ) (b : Built) → b ≡ appended (nodes (interleaved s) n) (Place i) → Stepped s n b (Ok (record { place = i; count = n })) s
  stays i b e = record { answer = rw (e, room_there i, length_nodes (interleaved s) n); store = rw (e, room_there i) (sym (written_own records.0 s n records.1)) }

  module _ (y : NodeKind) where
    abbrev longer : Built
    longer = appended (nodes (interleaved s) n) (Node y)

    room_new : step_room_check (interleaved s) n longer ≡ need (has_room (interleaved s) n) NoRoom
    unfolding step_room_check
    room_new = rw (length_snoc (nodes (interleaved s) n) y, length_nodes (interleaved s) n, lt-leb (suc n) n (omega arith))

    refuses : has_room (interleaved s) n ≡ false → Stepped s n longer (Err NoRoom) s
    refuses e = record { answer = rw (room_new, e); store = rw (room_new, e) }

    pub list_full : most_records ≤ n → Stepped s n longer (Err NoRoom) s
    unfolding has_room
    list_full h = refuses (rw (le-ltb n most_records h))

    pub store_short : n < most_records → (interleaved s).room ≤ n → Stepped s n longer (Err NoRoom) s
    unfolding has_room
    store_short h k = refuses (rw (lt-ltb n most_records h) (le-ltb n (interleaved s).room k))

    put_written : n < (interleaved s).room → put s n y ≡ written s (nodes (interleaved s) n ++ (y ∷ []))
    put_written k = rw (written_own records.0 s n records.1, length_nodes (interleaved s) n) at (written_put s (nodes (interleaved s) n) y (rw (length_nodes (interleaved s) n) k))

    pub appends : (after : List ℕ) → n < most_records → n < (interleaved s).room → after ≡ put s n y → Stepped s n longer (Ok (record { place = n; count = n + 1 })) after
    unfolding has_room
    appends after h k e =
        let room : has_room (interleaved s) n ≡ true = rw (lt-ltb n most_records h) (lt-ltb n (interleaved s).room k) in
        record {
          answer = rw (room_new, room, length_snoc (nodes (interleaved s) n) y, length_nodes (interleaved s) n, add-one n);
          store = rw (room_new, room) (e ∙ put_written k);
        }

-- the step, by what its request comes to
module _ (field : Field) where
  module _ (l : List NodeKind) (x : NodeKind) where
    pub step_placed : (i : ℕ) → Place i ≡ outcome field.elements l x → step field.elements l x ≡ appended l (Place i)
    unfolding step enter
    step_placed i e = ap (enter l) (sym e)

    pub step_interned : (y : NodeKind) → Node y ≡ outcome field.elements l x → step field.elements l x ≡ intern l y
    unfolding step enter
    step_interned y e = ap (enter l) (sym e)

  -- the answer and the store of Step
  pub record Called (s : List ℕ) (n t a b : ℕ) (r : Result Entered Refusal) (after : List ℕ) : Type 0 where
    pub answer : r ≡ step_answer field (interleaved s) n t a b
    pub store : after ≡ step_store field s n t a b

  module _ (s : List ℕ) (n t a b : ℕ) where
    -- a request that passes
    pub step_request : step_check field (interleaved s) n t a b ≡ Ok tt → Request field (interleaved s) n (decode t a b) × (n ≤ most_records)
    unfolding step_check
    step_request e =
        let both = then_good (rootless_check field.bounds 0 (interleaved s) n) (record_check field.bounds t a b n) e in
        let list = listed field.bounds 0 (interleaved s) n both.0 in
        (record { sound = list.sound; fine = (faithful field.bounds t a b n (passed field.bounds t a b n both.1)).fine }, list.most)

    pub step_refused : (r : Refusal) → step_check field (interleaved s) n t a b ≡ Err r → Called s n t a b (Err r) s
    unfolding step_answer step_store step_whole_check
    step_refused r e = record { answer = rw e; store = rw e }

    pub step_done : (r : Result Entered Refusal) (after : List ℕ) → step_check field (interleaved s) n t a b ≡ Ok tt → Stepped s n (step field.elements (nodes (interleaved s) n) (decode t a b)) r after → Called s n t a b r after
    unfolding step_answer step_store step_whole_check stepped
    step_done r after e h = record { answer = rw e h.answer; store = rw e h.store }
