-- Step and Build: the answer, and every word of every lent store, on all inputs.
use Rattle.std.specs.Prelude.{ℕ, Bool, ◌&&◌, ◌||◌, Result, Ok, Err, List, leb, ltb, length}
use mathlib.Core.List as Lists
use Rattle.field.specs.Fields.{Field}
use Rattle.dag.specs.View.{View, interleaved}
use Rattle.dag.specs.Nodes.{most_records, decode, nodes, filled}
use Rattle.dag.specs.Refusals.{Checked, need, ◌then◌, unless_refused}
use Rattle.dag.specs.Check.{record_check, room_check, rootless_check, list_check}
use Rattle.dag.specs.Store.{written, stored}
use Rattle.dag.specs.declared.Refusal.TheVariants.{NoRoom}
use Rattle.dag.specs.Roots.{roots_from}
use Rattle.dag.specs.declared.Refusal.{Refusal}
use Rattle.builder.specs.Steps.{Built, step, replay, place_of}
use Rattle.builder.specs.declared.Entered.{Entered}
use Rattle.dag.specs.declared.RootedDag.{RootedDag}

-- a store of n records has room for one more
unfoldable pub has_room : View → ℕ → Bool
has_room s n = ltb n most_records && ltb n s.room

-- 7 if a new record is needed and there is no room for it
unfoldable pub step_room_check : View → ℕ → Built → Checked
step_room_check s n b = need (leb (length b.list) n || has_room s n) NoRoom

-- the tests of Build's stores: the result's, then the map's
unfoldable pub build_stores : ℕ → ℕ → ℕ → Checked
build_stores n result_room map_words = room_check n result_room then room_check n map_words

module _ (field : Field) where
  -- Step's tests: the list, n may be 0, then the request as record n
  unfoldable pub step_check : View → ℕ → ℕ → ℕ → ℕ → Checked
  step_check s n t a b = rootless_check field.bounds 0 s n then record_check field.bounds t a b n

  -- what the request comes to on the list that a store holds
  unfoldable pub stepped : View → ℕ → ℕ → ℕ → ℕ → Built
  stepped s n t a b = step field.elements (nodes s n) (decode t a b)

  -- Step's tests, then the room for its result
  unfoldable pub step_whole_check : View → ℕ → ℕ → ℕ → ℕ → Checked
  step_whole_check s n t a b = step_check s n t a b then step_room_check s n (stepped s n t a b)

  -- the result's place and the new n
  unfoldable pub step_answer : View → ℕ → ℕ → ℕ → ℕ → Result Entered Refusal
  step_answer s n t a b =
      let r = stepped s n t a b in
      unless_refused (step_whole_check s n t a b) Err (Ok (record { place = r.place; count = length r.list }))

  -- the list with the appended record, if there is one; the words behind it stay
  unfoldable pub step_store : List ℕ → ℕ → ℕ → ℕ → ℕ → List ℕ
  step_store s n t a b =
      unless_refused (step_whole_check (interleaved s) n t a b) (λ r. s) (written s (stepped (interleaved s) n t a b).list)

  -- Build's tests: the list check, then the stores
  unfoldable pub build_check : View → ℕ → List ℕ → ℕ → ℕ → Checked
  build_check s n roots result_room map_words = list_check field.bounds s n roots then build_stores n result_room map_words

  -- the count, and the place that each root's request got
  unfoldable pub build_answer : View → ℕ → List ℕ → ℕ → ℕ → Result RootedDag Refusal
  build_answer s n roots result_room map_words =
      let r = replay field.elements (nodes s n) n in
      unless_refused (build_check s n roots result_room map_words) Err (Ok (record { count = length r.list; roots = roots_from (Lists.map (place_of r) roots) }))

  -- the list built, blanks behind it
  unfoldable pub build_result : View → ℕ → List ℕ → List ℕ → ℕ → List ℕ
  build_result s n roots result map_words =
      unless_refused (build_check s n roots (interleaved result).room map_words) (λ r. result) (stored result (replay field.elements (nodes s n) n).list)

  -- each request's result place, blanks behind them
  unfoldable pub build_map : View → ℕ → List ℕ → ℕ → List ℕ → List ℕ
  build_map s n roots result_room map =
      unless_refused (build_check s n roots result_room (length map)) (λ r. map) (filled (length map) (replay field.elements (nodes s n) n).map)
