-- What a list that passes its tests is known to be.
use Rattle.std.specs.Prelude.{ℕ, Bool, ◌≤◌, ◌&&◌, ◌≡◌, List, get_or, length, leb, ltb, Ok}
use Rattle.std.specs.List.{list_all}
use Rattle.std.proofs.Common.{arith, le-leb, lt-ltb, leb-true, ltb-true}
use Rattle.field.specs.Fields.{Bounds}
use Rattle.dag.specs.View.{View}
use Rattle.dag.specs.Nodes.{most_records}
use Rattle.dag.specs.CaseLaws.{and_true}
use Rattle.dag.specs.Refusals.{need, ◌then◌}
use Rattle.dag.specs.Check.{room_check, records_check, rootless_check, roots_check, list_check}
use Rattle.dag.specs.CheckLaws.{then_good, need_good}
use Rattle.dag.specs.Roots.{most_roots, roots_of, roots_from, Inside}
use Rattle.dag.specs.RootLaws.{inside_from}
use Rattle.dag.specs.NodeLaws.{get_or_inside}
use Rattle.std.proofs.lemmas.List.Sums.{AllPass-from_list_all, list_all-from_AllPass}
use Rattle.dag.specs.Store.{Sound}
use Rattle.dag.specs.declared.Refusal.TheVariants.{CountOutOfRange, StoreTooShort, RootOutside, RootCount}

-- what the test of a store's room tells
pub room_enough : (needed room : ℕ) → room_check needed room ≡ Ok tt → needed ≤ room
unfolding room_check
room_enough needed room e = leb-true needed room (need_good (leb needed room) StoreTooShort e)

pub enough_room : (needed room : ℕ) → needed ≤ room → room_check needed room ≡ Ok tt
unfolding room_check
enough_room needed room h = rw (le-leb needed room h)

-- a list without roots
pub record Listed (m : Bounds) (s : View) (least n : ℕ) : Type 0 where
  pub sound : Sound m s n
  pub enough : least ≤ n
  pub most : n ≤ most_records

pub listed : (m : Bounds) (least : ℕ) (s : View) (n : ℕ) → rootless_check m least s n ≡ Ok tt → Listed m s least n
unfolding rootless_check
listed m least s n e =
    let one = then_good (need (leb least n && leb n most_records) CountOutOfRange) (room_check n s.room then records_check m s n) e in
    let two = then_good (room_check n s.room) (records_check m s n) one.1 in
    let range = and_true (leb least n) (leb n most_records) (need_good (leb least n && leb n most_records) CountOutOfRange one.0) in
    record {
      sound = record { room = room_enough n s.room two.0; good = two.1 };
      enough = leb-true least n range.0;
      most = leb-true n most_records range.1;
    }

-- a sound list of enough records passes
pub rootless_passes : (m : Bounds) (least : ℕ) (s : View) (n : ℕ) → Sound m s n → least ≤ n → n ≤ most_records → rootless_check m least s n ≡ Ok tt
unfolding rootless_check
rootless_passes m least s n h enough most = simp (le-leb least n enough, le-leb n most_records most, enough_room n s.room h.room, h.good)

-- a list with roots
pub record Rooted (m : Bounds) (s : View) (n : ℕ) (roots : List ℕ) : Type 0 where
  pub list : Listed m s 1 n
  pub inside : Inside n (roots_from roots)

pub rooted : (m : Bounds) (s : View) (n : ℕ) (roots : List ℕ) → list_check m s n roots ≡ Ok tt → Rooted m s n roots
unfolding list_check roots_check
rooted m s n roots e =
    let below : ℕ → Bool = λ root. ltb root n in
    let both = then_good (rootless_check m 1 s n) (roots_check n roots) e in
    let two = then_good (need (leb 1 (length roots) && leb (length roots) most_roots) RootCount) (need (list_all below roots) RootOutside) both.1 in
    let count = and_true (leb 1 (length roots)) (leb (length roots) most_roots) (need_good (leb 1 (length roots) && leb (length roots) most_roots) RootCount two.0) in
    let each = AllPass-from_list_all below roots (need_good (list_all below roots) RootOutside two.1) in
    record {
      list = listed m 1 s n both.0;
      inside =
          inside_from n roots (leb-true 1 (length roots) count.0) (leb-true (length roots) most_roots count.1)
          (λ j h. ltb-true (get_or roots j 0) n (each j 0 h));
    }

-- the roots of a list of n records pass
pub roots_pass : (n : ℕ) (roots : List ℕ) → Inside n (roots_from roots) → roots_check n roots ≡ Ok tt
unfolding roots_check roots_of roots_from
roots_pass n roots inside =
    let each = list_all-from_AllPass (λ root. ltb root n) roots (λ j d h. rw (get_or_inside roots j d 0 h) (lt-ltb (get_or roots j 0) n (inside.below j h))) in
    rw (le-leb 1 (length roots) inside.some, le-leb (length roots) most_roots inside.few, each)

-- a sound list passes with them
pub list_passes : (m : Bounds) (s : View) (n : ℕ) (roots : List ℕ) → Sound m s n → n ≤ most_records → Inside n (roots_from roots) → list_check m s n roots ≡ Ok tt
unfolding list_check roots_of roots_from
list_passes m s n roots h most inside =
    let some : 1 ≤ n = let low = inside.below 0 inside.some in omega arith in
    rw (rootless_passes m 1 s n h some most) (roots_pass n roots inside)
