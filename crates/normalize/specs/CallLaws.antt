-- Normalise: the rounds in its stores, from the copied list to the answer.
use Rattle.std.specs.Prelude.{ℕ, zero, suc, pred, ◌+◌, ◌*◌, ◌-◌, ◌<◌, ◌≤◌, Bool, true, false, Some, None, Result, Ok, Err, List, ◌≡◌, length, replicate}
use Rattle.std.proofs.Math.Path.{refl, ap}
use Rattle.std.proofs.Common.{sym, ◌∙◌, ap₂, add-one, arith}
use Rattle.std.proofs.Math.Nat.{sub-zero}
use Rattle.field.specs.Fields.{Field, field_of, element_laws}
use Rattle.dag.specs.View.{View, interleaved}
use Rattle.dag.specs.Refusals.{unless_refused, Checked}
use Rattle.dag.specs.Nodes.{most_records, nodes, blank}
use Rattle.dag.specs.NodeLaws.{length_nodes}
use Rattle.dag.specs.Roots.{roots_of, roots_from, Inside}
use Rattle.dag.specs.RootLaws.{roots_from_lem, roots_exact}
use Rattle.dag.specs.Check.{room_check, list_check}
use Rattle.dag.specs.CheckLaws.{then_good}
use Rattle.dag.specs.PassLaws.{room_enough, rooted}
use Rattle.dag.specs.Store.{Sound, written, stored, copied_records, blanked_behind}
use Rattle.dag.specs.declared.NodeKind.{NodeKind}
use Rattle.dag.specs.declared.Dag.{Dag}
use Rattle.dag.specs.declared.Roots.{Roots}
use Rattle.dag.specs.declared.Refusal.{Refusal}
use Rattle.dag.specs.declared.RootedDag.{RootedDag}
use Rattle.builder.specs.OutcomeLaws.{list_fine}
use Rattle.compact.specs.OperandLaws.{inside_below, inside_again}
use Rattle.dag.specs.WordLaws.{nodes_written, sound_written, copied_written, blanked_stored}
use Rattle.normalize.specs.Rounds.{rounded, is_kept, rounds_from, normalize}
use Rattle.normalize.specs.RoundLaws.{rounded_inside, rounded_many}
use Rattle.normalize.specs.RepeatLaws.{kept_shorter, given_back}
use Rattle.normalize.specs.Calls.{normalize_stores, normalize_check, normalized, answer_of, normalize_answer, normalize_result, normalize_work}
use Rattle.normalize.specs.Promises.{Ready, Once, Running, Ended, Passed, Finished}
use Rattle.normalize.specs.declared.NormalEnd.{NormalEnd}

-- a list that passed its tests, with its roots, is ready for the rounds
pub dag_ready : (dag : Dag) {roots : Roots} {k : ℕ} → Inside dag.n roots → 2 * dag.n ≤ k → Ready (field_of dag.prime) dag.list.now dag.n roots k
dag_ready dag inside room = record { sound = dag.sound; few = dag.most; inside = inside; room = room }

module _ (field : Field) where
  -- a round that is kept
  rounds_kept : (fuel : ℕ) (l : List NodeKind) (roots : List ℕ) (k : ℕ) → is_kept field.elements l roots ≡ true
      → rounds_from field.elements (suc fuel) l roots k ≡ rounds_from field.elements fuel (rounded field.elements l roots).list (rounded field.elements l roots).roots (suc k)
  unfolding rounds_from
  rounds_kept fuel l roots k e = rw (e, rounds_from)

  first_kept : (c : ℕ) (l : List NodeKind) (roots : List ℕ) (k : ℕ) → 0 < c → is_kept field.elements l roots ≡ true
      → rounds_from field.elements c l roots k ≡ rounds_from field.elements (pred c) (rounded field.elements l roots).list (rounded field.elements l roots).roots (suc k)
  first_kept zero l roots k h e = absurd (omega arith)
  first_kept (suc f) l roots k h e = rounds_kept f l roots k e

  -- fuel past the list's length doesn't matter
  fuel_enough : (f g : ℕ) (l : List NodeKind) (roots : List ℕ) (k : ℕ) → length l ≤ f → length l ≤ g → rounds_from field.elements f l roots k ≡ rounds_from field.elements g l roots k
  fuel_enough zero g l roots k h j = given_back field.elements zero l roots k (empty l roots h) ∙ sym (given_back field.elements g l roots k (empty l roots h))
    where
      empty : (l : List NodeKind) (roots : List ℕ) → length l ≤ 0 → is_kept field.elements l roots ≡ false
      empty l roots h = go (is_kept field.elements l roots) refl
        where
          go : (t : Bool) → is_kept field.elements l roots ≡ t → is_kept field.elements l roots ≡ false
          go true e = absurd (let s = kept_shorter field.elements l roots e in omega arith)
          go false e = e
  fuel_enough (suc f) g l roots k h j = go (is_kept field.elements l roots) refl g j (λ d q. fuel_enough f d (rounded field.elements l roots).list (rounded field.elements l roots).roots (suc k) q)
    where
      go : (t : Bool) → is_kept field.elements l roots ≡ t → (g : ℕ) → length l ≤ g
          → ((d : ℕ) → length (rounded field.elements l roots).list ≤ f → length (rounded field.elements l roots).list ≤ d
          → rounds_from field.elements f (rounded field.elements l roots).list (rounded field.elements l roots).roots (suc k) ≡ rounds_from field.elements d (rounded field.elements l roots).list (rounded field.elements l roots).roots (suc k))
          → rounds_from field.elements (suc f) l roots k ≡ rounds_from field.elements g l roots k
      go false e g j again = given_back field.elements (suc f) l roots k e ∙ sym (given_back field.elements g l roots k e)
      go true e zero j again = absurd (let s = kept_shorter field.elements l roots e in omega arith)
      go true e (suc d) j again =
          let s = kept_shorter field.elements l roots e in
          rounds_kept f l roots k e ∙ (again d (omega arith) (omega arith) ∙ sym (rounds_kept d l roots k e))

  pub running_begins : {s : List ℕ} {n : ℕ} {roots : Roots} {k : ℕ} → Ready field s n roots k → Running field s n roots s n roots 0
  unfolding normalized normalize
  running_begins {s} {n} {roots} h =
      record {
        sound = h.sound;
        inside = h.inside;
        lost = omega arith;
        rounds = ap (λ f. rounds_from field.elements f (nodes (interleaved s) n) (roots_of roots) 0) (length_nodes (interleaved s) n);
      }

  -- the rounds so far, and one round more
  module _ {s : List ℕ} {n : ℕ} {roots : Roots} {result : List ℕ} {count : ℕ} {rs : Roots} {k : ℕ} (h : Running field s n roots result count rs k) where
    pub running_ready : (k : ℕ) → n ≤ most_records → 2 * n ≤ k → Ready field result count rs k
    running_ready k few room = let a = h.lost in record { sound = h.sound; few = omega arith; inside = h.inside; room = omega arith }

    -- a round that is kept
    module _ {after : List ℕ} {q : RootedDag} (o : Once field result count rs after (Some q)) where
      kept : is_kept field.elements (nodes (interleaved result) count) (roots_of rs) ≡ true
      kept = sym o.kept_is

      new_count : q.count ≡ length (rounded field.elements (nodes (interleaved result) count) (roots_of rs)).list
      new_count = sym (length_nodes (interleaved after) q.count) ∙ ap length o.left.list_is

      pub fewer : q.count < count
      fewer = let a = kept_shorter field.elements (nodes (interleaved result) count) (roots_of rs) kept in let b = new_count in let d = length_nodes (interleaved result) count in omega arith

      still_inside : Inside q.count q.roots
      still_inside =
          let a = h.inside in
          let l = rounded field.elements (nodes (interleaved result) count) (roots_of rs) in
          let low = rounded_inside field.elements (element_laws field) (nodes (interleaved result) count) (list_fine field (interleaved result) count h.sound) (roots_of rs) (rw (length_nodes (interleaved result) count) (inside_below count rs a)) in
          let many : length l.roots ≡ length (roots_of rs) = rounded_many field.elements (nodes (interleaved result) count) (roots_of rs) in
          rw (o.left.roots_are, new_count) (inside_again count (length l.list) rs l.roots a many low)

      pub running_on : Running field s n roots after q.count q.roots (k + 1)
      running_on =
          let b = new_count in
          let f = fewer in
          let a = h.lost in
          let l = rounded field.elements (nodes (interleaved result) count) (roots_of rs) in
          record {
            sound = o.left.sound;
            inside = still_inside;
            lost = omega arith;
            rounds =
                h.rounds
                ∙ (first_kept count (nodes (interleaved result) count) (roots_of rs) k (omega arith) kept
                ∙ (fuel_enough (pred count) q.count l.list l.roots (suc k) (omega arith) (omega arith)
                ∙ rw (← o.left.list_is, o.left.roots_are, roots_from_lem l.roots, add-one k)));
          }

    -- the rounds end
    pub ended : {after : List ℕ} → Once field result count rs after None → Ended field s n roots after (record { dag = record { count = count; roots = rs }; rounds = k })
    ended {after} o =
        let z = h.rounds ∙ given_back field.elements count (nodes (interleaved result) count) (roots_of rs) k (sym o.kept_is) in
        record {
          sound = rw o.left h.sound;
          few = let a = h.lost in omega arith;
          list_is = ap (λ t. nodes (interleaved t) count) o.left ∙ sym (ap (λ m. m.list) z);
          roots_are = sym (roots_exact rs) ∙ sym (ap (λ m. roots_from m.roots) z);
          rounds_are = sym (ap (λ m. m.rounds) z);
        }

  pub passed : (s : List ℕ) (n : ℕ) (roots : List ℕ) (result_room work_room : ℕ) → normalize_check field (interleaved s) n roots result_room work_room ≡ Ok tt
      → Passed field s n (roots_from roots) result_room work_room
  unfolding normalize_check
  passed s n roots result_room work_room e =
      let both = then_good (list_check field.bounds (interleaved s) n roots) (normalize_stores n result_room work_room) e in
      let list = rooted field.bounds (interleaved s) n roots both.0 in
      let stores = then_good (room_check n result_room) (room_check (2 * n) work_room) both.1 in
      record {
        sound = list.list.sound;
        few = list.list.most;
        inside = list.inside;
        result_room_lem = room_enough n result_room stores.0;
        work_room_lem = room_enough (2 * n) work_room stores.1;
      }

  -- the whole list copied to the result store, which is then ready for the rounds
  module _ {s : List ℕ} {n : ℕ} {roots : Roots} {work_room : ℕ} (h : Ready field s n roots work_room) (d : List ℕ) {t : List ℕ} (e : t ≡ copied_records s d n) where
    is_written : t ≡ written d (nodes (interleaved s) n)
    is_written = e ∙ copied_written field.bounds s d n h.sound

    pub copied_ready : Ready field t n roots work_room
    copied_ready =
        let sound : Sound field.bounds (interleaved t) n = rw is_written (rw (length_nodes (interleaved s) n) at (sound_written field.bounds d (nodes (interleaved s) n) (list_fine field (interleaved s) n h.sound))) in
        record { sound = sound; few = h.few; inside = h.inside; room = h.room }

    copied_normalized : normalized field (interleaved t) n (roots_of roots) ≡ normalized field (interleaved s) n (roots_of roots)
    unfolding normalized
    copied_normalized = ap (λ l. normalize field.elements l (roots_of roots)) (ap₂ (λ w k. nodes (interleaved w) k) is_written (sym (length_nodes (interleaved s) n)) ∙ nodes_written d (nodes (interleaved s) n))

    pub finished : {result work mid : List ℕ} {r : NormalEnd} → Ended field t n roots mid r → length mid ≡ length result
        → (last : List ℕ) {after blanked : List ℕ} → after ≡ blanked_behind mid r.dag.count → length last ≡ length work → blanked ≡ replicate (length last - 0) blank
        → Finished field s n roots result work r after blanked
    finished {result} {work} {mid} {r} o k last ea ew eb =
        let g = copied_normalized in
        let list_is = o.list_is ∙ ap (λ a. a.list) g in
        let c : r.dag.count ≡ length (normalized field (interleaved s) n (roots_of roots)).list = sym (length_nodes (interleaved mid) r.dag.count) ∙ ap length list_is in
        let rs = o.roots_are ∙ ap (λ a. roots_from a.roots) g in
        record {
          answer = λ i. record { dag = record { count = c i; roots = rs i }; rounds = (o.rounds_are ∙ ap (λ a. a.rounds) g) i };
          list_is = ea ∙ (blanked_stored field.bounds mid result r.dag.count o.sound k ∙ ap (stored result) list_is);
          work_is = eb ∙ rw (sub-zero (length last), ew);
        }

  -- what the answer says of the tests
  module _ (s : View) (n : ℕ) (roots : List ℕ) (result_room work_room : ℕ) where
    pub answer_passed : (a : NormalEnd) → Ok a ≡ normalize_answer field s n roots result_room work_room
        → (normalize_check field s n roots result_room work_room ≡ Ok tt) × (a ≡ answer_of (normalized field s n roots))
    unfolding normalize_answer
    answer_passed a = go (normalize_check field s n roots result_room work_room)
      where
        go : (c : Checked) → Ok a ≡ unless_refused c Err (Ok (answer_of (normalized field s n roots))) → (c ≡ Ok tt) × (a ≡ answer_of (normalized field s n roots))
        go (Ok u) e = (refl, cc)
        go (Err r) e = cc

    pub answer_refused : (r : Refusal) → Err r ≡ normalize_answer field s n roots result_room work_room → normalize_check field s n roots result_room work_room ≡ Err r
    unfolding normalize_answer
    answer_refused r = go (normalize_check field s n roots result_room work_room)
      where
        go : (c : Checked) → Err r ≡ unless_refused c Err (Ok (answer_of (normalized field s n roots))) → c ≡ Err r
        go (Ok u) e = cc
        go (Err q) e = cc

  pub record Called (s : List ℕ) (n : ℕ) (roots : List ℕ) (result work : List ℕ) (a : Result NormalEnd Refusal) (after blanked : List ℕ) : Type 0 where
    pub answer : a ≡ normalize_answer field (interleaved s) n roots (interleaved result).room (interleaved work).room
    pub list_is : after ≡ normalize_result field (interleaved s) n roots result (interleaved work).room
    pub work_is : blanked ≡ normalize_work field (interleaved s) n roots (interleaved result).room work

  module _ (s : List ℕ) (n : ℕ) (roots : List ℕ) (result work : List ℕ) where
    pub normalize_refused : (r : Refusal) → normalize_check field (interleaved s) n roots (interleaved result).room (interleaved work).room ≡ Err r → Called s n roots result work (Err r) result work
    unfolding normalize_answer normalize_result normalize_work
    normalize_refused r e = record { answer = rw e; list_is = rw e; work_is = rw e }

    pub normalize_done : (a : NormalEnd) (after blanked : List ℕ) → normalize_check field (interleaved s) n roots (interleaved result).room (interleaved work).room ≡ Ok tt
        → Finished field s n (roots_from roots) result work a after blanked → Called s n roots result work (Ok a) after blanked
    unfolding normalize_answer normalize_result normalize_work
    normalize_done a after blanked e h =
        let one = roots_from_lem roots in
        record { answer = rw e (ap Ok (rw one at h.answer)); list_is = rw e (rw one at h.list_is); work_is = rw e h.work_is }
