-- Step reaches its call: what its answer and its store say together, where it answers a place and a count.
use Rattle.std.specs.Prelude.{ℕ, ◌<◌, ◌≤◌, true, ◌||◌, List, ◌⊎◌, refl, leb, ltb, length, Ok, Result, Err}
use Rattle.std.proofs.Common.{inl, inr, ap, arith}
use Rattle.std.proofs.Math.Path.{◌≡◌}
use borrow.Author.Tests.{leb-true, ltb-true}
use Rattle.field.specs.Fields.{Field, Low, element_laws}
use Rattle.field.specs.declared.QuadFelt.{QuadFelt}
use Rattle.dag.specs.View.{interleaved}
use Rattle.dag.specs.Nodes.{most_records, nodes, decode, words_of}
use Rattle.dag.specs.NodeLaws.{length_nodes}
use Rattle.dag.specs.CaseLaws.{and_true, or_true}
use Rattle.dag.specs.Refusals.{unless_refused, Checked}
use Rattle.dag.specs.Check.{rootless_check}
use Rattle.dag.specs.CheckLaws.{then_good, need_good}
use Rattle.dag.specs.Store.{front, behind, written}
use Rattle.dag.specs.StoreLaws.{sound_well_formed}
use Rattle.dag.specs.WordLaws.{front_written, behind_written, nodes_written, words_rootless}
use Rattle.dag.specs.WellFormed.{Fine, WellFormed}
use Rattle.dag.specs.declared.Refusal.TheVariants.{NoRoom}
use Rattle.dag.specs.declared.Refusal.{Refusal}
use Rattle.meaning.specs.Values.{value_of, value}
use Rattle.builder.specs.Steps.{step}
use Rattle.builder.specs.StepLaws.{Grown, step_grown}
use Rattle.builder.specs.StepValueLaws.{step_value, step_keeps}
use Rattle.builder.specs.Calls.{step_check, has_room, stepped, step_room_check, step_whole_check, step_answer, step_store}
use Rattle.builder.specs.CallLaws.{step_request}
use Rattle.builder.specs.Promises.{Request}
use Rattle.builder.specs.declared.Entered.{Entered}

-- an answer of a place and a count
abbrev pub Done : ℕ → ℕ → Result Entered Refusal
Done place count = Ok (record { place = place; count = count })

module _ (field : Field) where
  -- whoever hears a place and a count was accepted, and heard these
  pub step_accepted : (s : List ℕ) (n t a b place count : ℕ) → step_answer field (interleaved s) n t a b ≡ Done place count
      → (step_whole_check field (interleaved s) n t a b ≡ Ok tt) × ((stepped field (interleaved s) n t a b).place ≡ place) × (length (stepped field (interleaved s) n t a b).list ≡ count)
  unfolding step_answer
  step_accepted s n t a b place count e = go (step_whole_check field (interleaved s) n t a b) (stepped field (interleaved s) n t a b).place (length (stepped field (interleaved s) n t a b).list) e
    where
      go : (c : Checked) (i k : ℕ) → unless_refused c Err (Done i k) ≡ Done place count → (c ≡ Ok tt) × (i ≡ place) × (k ≡ count)
      go (Ok u) i k e =
          let f : ◌≡◌ {A = Entered} (record { place = i; count = k }) (record { place = place; count = count }) = cc in
          (refl, ap (λ d. d.place) f, ap (λ d. d.count) f)
      go (Err r) i k e = let z : ◌≡◌ {A = ℕ} 0 1 = cc in absurd (omega arith)

  module _ (s : List ℕ) (n t a b place count : ℕ) (done : step_answer field (interleaved s) n t a b ≡ Done place count) where
    abbrev store : List ℕ
    store = step_store field s n t a b

    abbrev list : List Rattle.dag.specs.declared.NodeKind.NodeKind
    list = (stepped field (interleaved s) n t a b).list

    heard : (step_whole_check field (interleaved s) n t a b ≡ Ok tt) × ((stepped field (interleaved s) n t a b).place ≡ place) × (length list ≡ count)
    heard = step_accepted s n t a b place count done

    tests : (step_check field (interleaved s) n t a b ≡ Ok tt) × (step_room_check (interleaved s) n (stepped field (interleaved s) n t a b) ≡ Ok tt)
    unfolding step_whole_check
    tests = then_good (step_check field (interleaved s) n t a b) (step_room_check (interleaved s) n (stepped field (interleaved s) n t a b)) heard.0

    request : Request field (interleaved s) n (decode t a b) × (n ≤ most_records)
    request = step_request field s n t a b tests.0

    well_formed : WellFormed (Low field) (nodes (interleaved s) n)
    well_formed = sound_well_formed field.bounds (interleaved s) n request.0.sound

    fine : Fine (Low field) (length (nodes (interleaved s) n)) (decode t a b)
    fine = rw (length_nodes (interleaved s) n) request.0.fine

    grown : Grown (Low field) (nodes (interleaved s) n) (stepped field (interleaved s) n t a b)
    unfolding stepped
    grown = step_grown field.elements (element_laws field) (nodes (interleaved s) n) well_formed (decode t a b) fine

    few : count ≤ most_records
    unfolding step_room_check has_room
    few = go (or_true (leb (length list) n) (has_room (interleaved s) n) (need_good (leb (length list) n || has_room (interleaved s) n) NoRoom tests.1))
      where
        go : (leb (length list) n ≡ true) ⊎ (has_room (interleaved s) n ≡ true) → count ≤ most_records
        go (inl e) = omega (arith, leb-true (length list) n e, heard.2, request.1)
        go (inr e) =
            omega (arith, ltb-true n most_records (and_true (ltb n most_records) (ltb n (interleaved s).room) e).0, heard.2, grown.by_one, length_nodes (interleaved s) n)

    stored : store ≡ written s list
    unfolding step_store
    stored = rw heard.0

    -- the store begins with the words of the step's list
    pub begins : front count store ≡ words_of list
    begins = rw (stored, ← heard.2) (front_written s list)

    -- behind it every word stays
    pub behind_stays : behind count store ≡ behind count s
    behind_stays = rw (stored, ← heard.2) (behind_written s list)

    -- the store's list is the step's list
    pub step_list_lem : nodes (interleaved store) count ≡ (step field.elements (nodes (interleaved s) n) (decode t a b)).list
    unfolding stepped
    step_list_lem = rw (stored, ← heard.2) (nodes_written s list)

    -- the store still passes the list check
    pub step_passes : rootless_check field.bounds 0 (interleaved store) count ≡ Ok tt
    unfolding written
    step_passes =
        rw (stored, ← heard.2) (words_rootless (behind (length list) s) field.bounds list grown.well_formed 0 (omega arith) (omega (arith, heard.2, few)))

    -- the place is inside
    pub step_inside : place < count
    step_inside = omega (arith, grown.inside, heard.1, heard.2)

    module _ (given : ℕ → QuadFelt) (low : (k : ℕ) → Low field (given k)) where
      -- its value is the operation on the operands' values
      pub step_worth : value field.elements given (nodes (interleaved store) count) place ≡ value_of field.elements given (value field.elements given (nodes (interleaved s) n)) (decode t a b)
      unfolding stepped
      step_worth = rw (step_list_lem, ← heard.1) (step_value field.elements (element_laws field) given low (nodes (interleaved s) n) well_formed (decode t a b) fine)

      -- earlier values stay
      pub step_earlier : (i : ℕ) → i < n → value field.elements given (nodes (interleaved store) count) i ≡ value field.elements given (nodes (interleaved s) n) i
      step_earlier i h = rw step_list_lem (step_keeps field.elements (element_laws field) given low (nodes (interleaved s) n) well_formed (decode t a b) fine i (omega (arith, length_nodes (interleaved s) n)))
