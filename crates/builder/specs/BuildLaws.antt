-- Build: its answer and its stores by the replay that they hold.
use Rattle.std.specs.Prelude.{ℕ, ◌-◌, ◌<◌, ◌≤◌, ◌≡◌, Result, Ok, Err, length, take, replicate}
use mathlib.Core.List.{List, [], ◌∷◌, ◌++◌}
use mathlib.Core.List as Lists
use Rattle.std.proofs.Common.{◌∙◌, ap, ap₂, arith, get_or-take, length-take-le}
use Rattle.std.proofs.Math.ListN.{get_or-append}
use Rattle.field.specs.Fields.{Field, element_laws}
use Rattle.dag.specs.View.{View, interleaved}
use Rattle.dag.specs.Nodes.{blank, nodes}
use Rattle.dag.specs.Check.{room_check, list_check}
use Rattle.dag.specs.CheckLaws.{then_good}
use Rattle.dag.specs.PassLaws.{room_enough, rooted}
use Rattle.dag.specs.Roots.{roots_of, roots_from, Inside}
use Rattle.dag.specs.RootLaws.{roots_from_lem, roots_agree}
use Rattle.dag.specs.Store.{Sound, stored, blanked_behind}
use Rattle.dag.specs.WordLaws.{blanked_stored}
use Rattle.dag.specs.declared.Roots.{Roots}
use Rattle.dag.specs.declared.Refusal.{Refusal}
use Rattle.builder.specs.Steps.{place_of, replay}
use Rattle.builder.specs.ReplayLaws.{replay_replayed}
use Rattle.builder.specs.OutcomeLaws.{list_fine}
use Rattle.builder.specs.Calls.{build_stores, build_check, build_answer, build_result, build_map}
use Rattle.builder.specs.HoldLaws.{count_is, place_read, filled_map}
use Rattle.builder.specs.Promises.{read, Holds, Ready, Finished}
use Rattle.dag.specs.declared.RootedDag.{RootedDag}

module _ (field : Field) where
  pub ready : (s : View) (n : ℕ) (roots : List ℕ) (result_room map_words : ℕ) → build_check field s n roots result_room map_words ≡ Ok tt → Ready n (roots_from roots) result_room map_words
  unfolding build_check build_stores
  ready s n roots result_room map_words e =
      let both = then_good (list_check field.bounds s n roots) (build_stores n result_room map_words) e in
      let list = rooted field.bounds s n roots both.0 in
      let stores = then_good (room_check n result_room) (room_check n map_words) both.1 in
      record {
        result_room_lem = room_enough n result_room stores.0;
        map_room = room_enough n map_words stores.1;
        inside = list.inside;
      }

  module _ (s : View) (n : ℕ) (roots : Roots) (result map : List ℕ) (sound : Sound field.bounds s n) (inside : Inside n roots) where
    -- the stores after the replay, with blanks behind what was filled
    pub finished : (after places : List ℕ) (count : ℕ) → Holds field (replay field.elements (nodes s n) n) n after places count → length after ≡ length result → length places ≡ length map → n ≤ length map
        → (u v : List ℕ) (new : Roots)
        → u ≡ blanked_behind after count → v ≡ take n places ++ replicate (length places - n) blank → new ≡ roots_from (Lists.map (read v) (roots_of roots))
        → Finished (replay field.elements (nodes s n) n) roots result map (record { count = count; roots = new }) u v
    finished after places count h e f g u v new eu ev er =
        record {
          answer =
              ap₂ (λ k q. record { count = k; roots = q }) (count_is field (replay field.elements (nodes s n) n) n after places count h)
              (er ∙ ap roots_from (roots_agree n roots inside (read v) (place_of (replay field.elements (nodes s n) n)) front));
          list_is = eu ∙ (blanked_stored field.bounds after result count h.sound e ∙ ap (stored result) h.list_is);
          places_are = ev ∙ filled_map places n (length map) (replay field.elements (nodes s n) n).map h.map_is (replay_replayed field.elements (element_laws field) (nodes s n) (list_fine field s n sound) n).mapped f;
        }
      where
        front : (i : ℕ) → i < n → read v i ≡ place_of (replay field.elements (nodes s n) n) i
        front i k =
            ap (λ l. read l i) ev
            ∙ (get_or-append (take n places) (replicate (length places - n) blank) 0 i (rw (length-take-le n places (omega arith)) k)
            ∙ (get_or-take n places i 0 k ∙ place_read field (replay field.elements (nodes s n) n) n after places count h i k))

  pub record Called (s : View) (n : ℕ) (roots : List ℕ) (result map : List ℕ) (a : Result RootedDag Refusal) (after places : List ℕ) : Type 0 where
    pub answer : a ≡ build_answer field s n roots (interleaved result).room (length map)
    pub list_is : after ≡ build_result field s n roots result (length map)
    pub places_are : places ≡ build_map field s n roots (interleaved result).room map

  module _ (s : View) (n : ℕ) (roots : List ℕ) (result map : List ℕ) where
    pub build_refused : (r : Refusal) → build_check field s n roots (interleaved result).room (length map) ≡ Err r → Called s n roots result map (Err r) result map
    unfolding build_answer build_result build_map
    build_refused r e = record { answer = rw e; list_is = rw e; places_are = rw e }

    pub build_done : (a : RootedDag) (after places : List ℕ) → build_check field s n roots (interleaved result).room (length map) ≡ Ok tt
        → Finished (replay field.elements (nodes s n) n) (roots_from roots) result map a after places → Called s n roots result map (Ok a) after places
    unfolding build_answer build_result build_map
    build_done a after places e h =
        record { answer = rw e (ap Ok (rw (roots_from_lem roots) at h.answer)); list_is = rw e h.list_is; places_are = rw e h.places_are }
