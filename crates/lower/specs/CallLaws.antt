-- Lower: its tests, what is built past them, and its answer and stores.
use Rattle.std.specs.Prelude.{ℕ, zero, suc, ◌<◌, ◌≤◌, Bool, true, false, cond, ◌&&◌, List, [], ◌∷◌, ◌⊎◌, ◌≡◌, refl, eqb, length, replicate, max, fold, Result, Ok, Err}
use Rattle.std.proofs.Common.{inl, inr, sym, ◌∙◌, arith}
use Rattle.std.specs.List.{reduce}
use Rattle.std.specs.Option.{unwrap_or}
use Rattle.std.proofs.Math.Path.{ap}
use Rattle.std.proofs.Math.Nat.{le_trans}
use borrow.Author.Tests.{le-leb, lt-leb, leb-true, leb-false, eqb-true}
use Rattle.std.proofs.Math.Dec.{leb}
use Rattle.std.proofs.Math.ListN.{get_or}
use Rattle.field.specs.Fields.{Field, Bounds, field_of, modulus}
use Rattle.field.specs.declared.Prime.{Prime}
use Rattle.dag.specs.declared.NodeKind.{NodeKind}
use Rattle.std.proofs.Common.{ap₂}
use Rattle.std.specs.Prelude.{IsErr}
use Rattle.std.specs.Result.{IsErrAnd}
use Rattle.std.proofs.lemmas.Result.{err_from_is_err_and}
use Rattle.dag.specs.CaseLaws.{and_true, or_true, cond_elim}
use Rattle.dag.specs.View.{View, interleaved}
use Rattle.dag.specs.Nodes.{blank, most_records, nodes, filled}
use Rattle.dag.specs.NodeLaws.{length_nodes}
use Rattle.dag.specs.Refusals.{need, ◌then◌, unless_refused}
use Rattle.dag.specs.Check.{room_check, rootless_check}
use Rattle.dag.specs.CheckLaws.{then_good, need_good}
use Rattle.dag.specs.PassLaws.{Listed, room_enough, listed}
use Rattle.dag.specs.Store.{Sound, stored}
use Rattle.dag.specs.WordLaws.{filled_front}
use Rattle.dag.specs.declared.Refusal.{Refusal}
use Rattle.dag.specs.declared.Refusal.TheVariants.{NoRoom, SharedPeriod}
use Rattle.columns.specs.Columns.{log_within, is_power}
use Rattle.columns.specs.Prepare.{columns, prepare_check}
use Rattle.columns.specs.PrepareLaws.{prepared}
use Rattle.columns.specs.Promises.{Tested}
use Rattle.periodic.specs.Periodic.{build_periodic_nodes}
use Rattle.lower.specs.Lower.{longest_from, longest, period_good, lower_check, lowered, lower_stores, lower_room, whole_check, lower_answer, lower_result, lower_places, lower_work}
use Rattle.lower.specs.Promises.{columns_check, Ready, has_room, HandedOver, Finished}
use Rattle.lower.specs.FormLaws.{covered}

-- the longest, as std has the greatest
longest_fold : (m : ℕ) (ls : List ℕ) → longest_from m ls ≡ fold max m ls
unfolding longest_from
longest_fold m [] = refl
longest_fold m (n ∷ ls) = rw (longest_fold (cond (leb m n) n m) ls) (ap (λ k. fold max k ls) (greater m n))
  where
    greater : (m n : ℕ) → cond (leb m n) n m ≡ max m n
    greater m n = cond_elim (λ k. k ≡ max m n) (leb m n) n m (λ e. omega (arith, leb-true m n e)) (λ e. omega (arith, leb-false m n e))

pub longest_is : (ls : List ℕ) → unwrap_or (reduce max ls) 0 ≡ longest ls
unfolding longest
longest_is [] = sym (longest_fold 0 [])
longest_is (n ∷ ls) = let first : max 0 n ≡ n = omega arith in sym (longest_fold 0 (n ∷ ls) ∙ ap (λ k. fold max k ls) first)

from_le : (m : ℕ) (ls : List ℕ) → m ≤ longest_from m ls
unfolding longest_from
from_le m [] = omega arith
from_le m (n ∷ ls) =
    cond_elim (λ k. k ≤ longest_from k ls → m ≤ longest_from k ls) (leb m n) n m (λ e h. le_trans (leb-true m n e) h) (λ e h. h) (from_le (cond (leb m n) n m) ls)

longest_le : (m : ℕ) (ls : List ℕ) (j : ℕ) → j < length ls → get_or ls j 0 ≤ longest_from m ls
unfolding longest_from
longest_le m [] j h = absurd (omega arith)
longest_le m (n ∷ ls) (suc j) h = longest_le (cond (leb m n) n m) ls j (omega arith)
longest_le m (n ∷ ls) zero h =
    cond_elim (λ k. k ≤ longest_from k ls → n ≤ longest_from k ls) (leb m n) n m (λ e i. i) (λ e i. le_trans (omega (arith, leb-false m n e)) i) (from_le (cond (leb m n) n m) ls)

-- the shared period
module _ (field : Field) (ls : List ℕ) (period : ℕ) where
  covers : period_good field ls period ≡ true → (j : ℕ) → j < length ls → get_or ls j 0 ≤ period
  unfolding period_good longest
  covers e j h = go (or_true (eqb (length ls) 0) (is_power field.most_log period && leb (longest_from 0 ls) period) e)
    where
      go : (eqb (length ls) 0 ≡ true) ⊎ ((is_power field.most_log period && leb (longest_from 0 ls) period) ≡ true) → get_or ls j 0 ≤ period
      go (inl z) = let q = eqb-true (length ls) 0 z in absurd (omega arith)
      go (inr b) = le_trans (longest_le 0 ls j h) (leb-true (longest_from 0 ls) period (and_true (is_power field.most_log period) (leb (longest_from 0 ls) period) b).1)

need_cond : {A : Type 0} (t : Bool) (q : Refusal) (f : Refusal → A) (g : A) → cond t g (f q) ≡ unless_refused (need t q) f g
need_cond true q f g = refl
need_cond false q f g = refl

module _ (field : Field) where
  -- what the tests behind the list's give
  module _ (ls es : List ℕ) (period work_room place_words : ℕ) where
    pub ready : columns_check field ls es period work_room place_words ≡ Ok tt → Ready field ls es period place_words
    unfolding lower_stores
    ready e =
        let one = then_good (prepare_check (modulus field) ls es) (lower_stores ls work_room place_words then need (period_good field ls period) SharedPeriod) e in
        let two = then_good (lower_stores ls work_room place_words) (need (period_good field ls period) SharedPeriod) one.1 in
        let stores = then_good (room_check most_records work_room) (room_check (length ls) place_words) two.0 in
        record {
          place_room = room_enough (length ls) place_words stores.1;
          covered = covered field ls es period (prepared (modulus field) ls es one.0) (covers field ls period (need_good (period_good field ls period) SharedPeriod two.1));
        }

    -- where the list passes, they are what is left
    pub columns_left : (s : View) (n : ℕ) → rootless_check field.bounds 0 s n ≡ Ok tt → lower_check field s n ls es period work_room place_words ≡ columns_check field ls es period work_room place_words
    unfolding lower_check
    columns_left s n e = rw e

    pub list_refused : (s : View) (n : ℕ) {r : Refusal} → rootless_check field.bounds 0 s n ≡ Err r → lower_check field s n ls es period work_room place_words ≡ Err r
    unfolding lower_check
    list_refused s n e = rw e

  -- a list and columns that pass
  pub record Passed (s : View) (n : ℕ) (ls es : List ℕ) : Type 0 where
    pub list : Listed field.bounds s 0 n
    pub tested : Tested (modulus field) ls es

  pub passed : (s : View) (n : ℕ) (ls es : List ℕ) (period work_room place_words : ℕ) → lower_check field s n ls es period work_room place_words ≡ Ok tt → Passed s n ls es
  unfolding lower_check
  passed s n ls es period work_room place_words e =
      let both = then_good (rootless_check field.bounds 0 s n) (columns_check field ls es period work_room place_words) e in
      let tests = then_good (prepare_check (modulus field) ls es) (lower_stores ls work_room place_words then need (period_good field ls period) SharedPeriod) both.1 in
      record { list = listed field.bounds 0 s n both.0; tested = prepared (modulus field) ls es tests.0 }

  -- past the tests
  module _ (s : View) (n : ℕ) (ls es : List ℕ) (period : ℕ) (result places : List ℕ) where
    -- a list that would be too long
    pub finished_long : (r : Result ℕ Refusal) {x : Refusal} → IsErr r × IsErrAnd r (λ y. y ≡ x) → x ≡ NoRoom → most_records < length (lowered field s n ls es period).list → Finished field s n ls es period result places r result places
    unfolding lower_room
    finished_long r h e long =
        let p = err_from_is_err_and r h.1 in
        rw (p.1, p.2, e) (record { answer = rw short; result_is = rw short; places_are = rw short })
      where
        short : leb (length (lowered field s n ls es period).list) most_records ≡ false
        short = lt-leb (length (lowered field s n ls es period).list) most_records long

    -- the list that was built
    module _ (m : Bounds) (work : List ℕ) (count : ℕ) (ns : List ℕ) (few : count ≤ most_records) (sound : Sound m (interleaved work) count)
        (list_is : nodes (interleaved work) count ≡ (lowered field s n ls es period).list) (answer_is : ns ≡ (lowered field s n ls es period).answer)
        (r : Result ℕ Refusal) (after listed : List ℕ) (h : HandedOver work count ns result places r after listed) where
      fits : length (lowered field s n ls es period).list ≡ count
      fits = ap length (sym list_is) ∙ length_nodes (interleaved work) count

      room : (leb (length (lowered field s n ls es period).list) most_records && leb (length (lowered field s n ls es period).list) (interleaved result).room) ≡ has_room count result
      room = rw (fits, le-leb count most_records few)

      pub finished_done : Finished field s n ls es period result places r after listed
      unfolding lower_room
      finished_done =
          record {
            answer = h.answer ∙ (need_cond (has_room count result) NoRoom Err (Ok count) ∙ sym (ap₂ (λ t k. unless_refused (need t NoRoom) Err (Ok k)) room fits));
            result_is =
                h.result_is
                ∙ (ap (λ l. cond (has_room count result) l result) (filled_front m work result count sound ∙ ap (stored result) list_is)
                ∙ (need_cond (has_room count result) NoRoom (λ q. result) (stored result (lowered field s n ls es period).list) ∙ sym (ap (λ t. unless_refused (need t NoRoom) (λ q. result) (stored result (lowered field s n ls es period).list)) room)));
            places_are =
                h.places_are
                ∙ (ap (λ l. cond (has_room count result) (filled (length places) l) places) answer_is
                ∙ (need_cond (has_room count result) NoRoom (λ q. places) (filled (length places) (lowered field s n ls es period).answer) ∙ sym (ap (λ t. unless_refused (need t NoRoom) (λ q. places) (filled (length places) (lowered field s n ls es period).answer)) room)));
          }

  -- the whole call
  pub record Called (s : View) (n : ℕ) (ls es : List ℕ) (period : ℕ) (result work places : List ℕ) (r : Result ℕ Refusal) (after blanked listed : List ℕ) : Type 0 where
    pub answer : r ≡ lower_answer field s n ls es period result work places
    pub result_is : after ≡ lower_result field s n ls es period result work places
    pub work_is : blanked ≡ lower_work field s n ls es period result work places
    pub places_are : listed ≡ lower_places field s n ls es period result work places

  module _ (s : View) (n : ℕ) (ls es : List ℕ) (period : ℕ) (result work places : List ℕ) where
    pub lower_refused : (r : Refusal) → lower_check field s n ls es period (interleaved work).room (length places) ≡ Err r → Called s n ls es period result work places (Err r) result work places
    unfolding lower_answer lower_result lower_work lower_places whole_check
    lower_refused r e = record { answer = rw e; result_is = rw e; work_is = rw e; places_are = rw e }

    pub lower_done : (r : Result ℕ Refusal) (after blanked listed : List ℕ) → lower_check field s n ls es period (interleaved work).room (length places) ≡ Ok tt
        → Finished field s n ls es period result places r after listed → blanked ≡ replicate (length work) blank
        → Called s n ls es period result work places r after blanked listed
    unfolding lower_answer lower_result lower_work lower_places whole_check
    lower_done r after blanked listed e d b =
        record { answer = rw e d.answer; result_is = rw e d.result_is; work_is = rw e b; places_are = rw e d.places_are }

-- what is run on a list that was taken up
pub lowered_is : (p q : Prime) (l : List NodeKind) (s : View) (n : ℕ) (ls es : List ℕ) (period log : ℕ) → q ≡ p → l ≡ nodes s n → log ≡ log_within (field_of p).most_log period
    → (build_periodic_nodes (field_of q) (columns ls es) log).run l ≡ lowered (field_of p) s n ls es period
unfolding lowered
lowered_is p q l s n ls es period log e h k = rw (e, h, k)
