-- Where Evaluate accepts a list, it accepts what Normalise, Compact or Build made of it, and answers the same.
use Prim.Native.Nat.{ℕ, zero, suc, ◌<◌, ◌≤◌}
use Rattle.std.specs.Prelude.{true, List, map, ◌≡◌, length, Option, Result, Ok, Err, is_some}
use Rattle.std.proofs.Math.Path.{refl}
use Rattle.std.proofs.Common.{sym, ◌∙◌, ap, arith}
use Rattle.field.specs.Fields.{Field, Low, element_laws}
use Rattle.field.specs.declared.QuadFelt.{QuadFelt}
use Rattle.dag.specs.View.{View, interleaved}
use Rattle.dag.specs.Nodes.{nodes, at}
use Rattle.dag.specs.Store.{Alike, stored}
use Rattle.dag.specs.NodeLaws.{length_nodes}
use Rattle.dag.specs.Refusals.{first_refused, need, ◌then◌, unless_refused, Checked}
use Rattle.dag.specs.Check.{list_check}
use Rattle.dag.specs.CheckLaws.{first_good, then_good, need_good}
use Rattle.dag.specs.Roots.{roots_from}
use Rattle.dag.specs.RootLaws.{roots_from_lem, inside_renamed}
use Rattle.dag.specs.PassLaws.{Rooted, rooted}
use Rattle.dag.specs.StoreLaws.{sound_well_formed}
use Rattle.dag.specs.WellFormed.{WellFormed}
use Rattle.dag.specs.declared.NodeKind.{NodeKind}
use Rattle.dag.specs.declared.NodeKind.TheVariants.{Input, Constant, Add, Sub, Mul, Neg}
use Rattle.dag.specs.declared.Refusal.TheVariants.{Unassigned}
use Rattle.meaning.specs.Values.{value}
use Rattle.builder.specs.Steps.{Replay, place_of, replay}
use Rattle.builder.specs.ReplayLaws.{Replayed, replay_replayed, replay_short, replay_faithful}
use Rattle.builder.specs.Calls.{build_stores, build_check, build_result}
use Rattle.dag.specs.WordLaws.{nodes_stored, stored_pass}
use Rattle.compact.specs.Calls.{compacted, kept_of, compact_check, compact_result}
use Rattle.compact.specs.OperandLaws.{roots_below, map_through}
use Rattle.compact.specs.AnswerLaws as Compacted
use Rattle.entries.specs.Entries.{entries_check, entry_of, has_entry, inputs_check}
use Rattle.evaluate.specs.Calls.{entry_words, given, values_from, evaluate_check, evaluate_answer}
use Rattle.evaluate.specs.declared.RootValues.{RootValues}
use Rattle.entries.specs.EntryLaws.{entries_pass}
use Rattle.evaluate.specs.ValueStepLaws.{given_low}
use Rattle.dag.specs.declared.Refusal.{Refusal}
use Rattle.normalize.specs.Calls.{normalize_check, normalized, normalize_result}
use Rattle.demands.specs.Views.{same_nodes, same_check}
use Rattle.demands.specs.Inputs.{Keyed, Inputs, KeyOf, own_keys, inputs_through, replay_inputs, compact_inputs, normalize_inputs}
use Rattle.demands.specs.Normalising.{count_of, places_of, answer_list, answer_passes, answer_values}

-- Evaluate's test of inputs, as a statement about every input
module _ (find : ℕ → Option ℕ) where
  abbrev pub Assigned : ℕ → Type 0
  Assigned k = is_some (find k) ≡ true

  assigned : (x : NodeKind) → has_entry find x ≡ true → Keyed Assigned x
  assigned (Input k) e = e
  assigned (Constant c) e = tt
  assigned (Add a b) e = tt
  assigned (Sub a b) e = tt
  assigned (Mul a b) e = tt
  assigned (Neg a) e = tt

  has_entry_lem : (x : NodeKind) → Keyed Assigned x → has_entry find x ≡ true
  has_entry_lem (Input k) e = e
  has_entry_lem (Constant c) e = refl
  has_entry_lem (Add a b) e = refl
  has_entry_lem (Sub a b) e = refl
  has_entry_lem (Mul a b) e = refl
  has_entry_lem (Neg a) e = refl

  pub checked_inputs : (l : List NodeKind) → inputs_check find l (length l) ≡ Ok tt → Inputs Assigned l
  unfolding inputs_check
  checked_inputs l e i h =
      assigned (at l i) (need_good (has_entry find (at l i)) (Unassigned i) (first_good (λ i. need (has_entry find (at l i)) (Unassigned i)) (length l) e i h))

  inputs_checked : (l : List NodeKind) → Inputs Assigned l → inputs_check find l (length l) ≡ Ok tt
  unfolding inputs_check first_refused
  inputs_checked l f = go (length l) f
    where
      go : (n : ℕ) → ((i : ℕ) → i < n → Keyed Assigned (at l i)) → inputs_check find l n ≡ Ok tt
      go zero f = refl
      go (suc n) f = rw (go n (λ i h. f i (omega arith)), has_entry_lem (at l n) (f n (omega arith)))

-- an answer of values, one for each root
abbrev pub Values : List QuadFelt → Result RootValues Refusal
Values vs = Ok (values_from vs)

-- it was accepted
accepts : (c : Checked) (w v : List QuadFelt) → unless_refused c Err (Values w) ≡ Values v → c ≡ Ok tt
accepts (Ok u) w v e = refl
accepts (Err r) w v e = let z : ◌≡◌ {A = ℕ} 0 1 = cc in absurd (omega arith)

module _ (field : Field) where
  -- t, count and places in place of s, n and roots: the list passes the list check, brings no new inputs, and its roots have the same values, in their order
  pub record InPlaceOf (s : View) (n : ℕ) (roots : List ℕ) (t : View) (count : ℕ) (places : List ℕ) : Type 0 where
    pub passes : list_check field.bounds t count places ≡ Ok tt
    pub no_new : Inputs (KeyOf (nodes s n)) (nodes t count)
    pub worth : (given : ℕ → QuadFelt) → ((k : ℕ) → Low field (given k)) → map (value field.elements given (nodes t count)) places ≡ map (value field.elements given (nodes s n)) roots

  -- so does every store that begins with t's records
  in_place_front : (s : View) (n : ℕ) (roots : List ℕ) (t : View) (count : ℕ) (places : List ℕ) → InPlaceOf s n roots t count places → (u : View) → Alike t u count
      → InPlaceOf s n roots u count places
  in_place_front s n roots t count places h u same =
      let records = same_nodes field t u count same in
      record {
        passes = sym (same_check field t u count same places) ∙ h.passes;
        no_new = rw (← records) h.no_new;
        worth = λ given low. rw (← records) (h.worth given low);
      }

  module _ (s : View) (n : ℕ) (roots : List ℕ) (t : View) (count : ℕ) (places : List ℕ) (h : InPlaceOf s n roots t count places) (a : List ℕ) (m : ℕ) where
    module _ (e : evaluate_check field s n roots a m ≡ Ok tt) where
      find : ℕ → Option ℕ
      find = entry_of entry_words a m

      tests : (entries_check field.bounds entry_words a m ≡ Ok tt) × (inputs_check find (nodes s n) n ≡ Ok tt)
      unfolding evaluate_check find
      tests =
          then_good (entries_check field.bounds entry_words a m) (inputs_check find (nodes s n) n)
          (then_good (list_check field.bounds s n roots) (entries_check field.bounds entry_words a m then inputs_check find (nodes s n) n) e).1

      inputs : inputs_check find (nodes t count) count ≡ Ok tt
      inputs =
          rw (length_nodes t count) at
          (inputs_checked find (nodes t count)
          (inputs_through (Assigned find) (nodes s n) (nodes t count) h.no_new (checked_inputs find (nodes s n) (rw (length_nodes s n) tests.1))))

      accepted_too : evaluate_check field t count places a m ≡ Ok tt
      unfolding evaluate_check find
      accepted_too = rw (h.passes, tests.0, inputs)

      same_answer : evaluate_answer field t count places a m ≡ evaluate_answer field s n roots a m
      unfolding evaluate_answer
      same_answer = rw (accepted_too, e) (ap Values (h.worth (given a m) (given_low field a m (entries_pass field.bounds entry_words a m tests.0 (omega arith)).1)))

    evaluates_alike : (v : List QuadFelt) → evaluate_answer field s n roots a m ≡ Values v → evaluate_answer field t count places a m ≡ Values v
    unfolding evaluate_answer
    evaluates_alike v e = same_answer (accepts (evaluate_check field s n roots a m) (map (value field.elements (given a m) (nodes s n)) roots) v e) ∙ e

  -- where Evaluate answers values for the list, it answers the same for what stands in its place, from any store that begins with it
  pub evaluates_front : (s : View) (n : ℕ) (roots : List ℕ) (t : View) (count : ℕ) (places : List ℕ) → InPlaceOf s n roots t count places → (u : View) → Alike t u count
      → (a : List ℕ) (m : ℕ) (v : List QuadFelt) → evaluate_answer field s n roots a m ≡ Values v → evaluate_answer field u count places a m ≡ Values v
  evaluates_front s n roots t count places h u front = evaluates_alike s n roots u count places (in_place_front s n roots t count places h u front)

  -- Normalise: its answer stands in place of the list
  pub normalized_in_place : (s : View) (n : ℕ) (roots result : List ℕ) (work_room : ℕ) → normalize_check field s n roots (interleaved result).room work_room ≡ Ok tt
      → InPlaceOf s n roots (interleaved (normalize_result field s n roots result work_room)) (count_of field s n roots) (places_of field s n roots)
  unfolding normalized
  normalized_in_place s n roots result work_room e =
      record {
        passes = answer_passes field s n roots result work_room e;
        no_new = rw (answer_list field s n roots result work_room e) (normalize_inputs (KeyOf (nodes s n)) field.elements (nodes s n) roots (own_keys (nodes s n)));
        worth = answer_values field s n roots result work_room e;
      }

  -- where Normalise accepts a list and Evaluate answers values for it, Evaluate answers the same for the list answered, in any store that begins with it
  pub evaluate_same : (s : View) (n : ℕ) (roots result : List ℕ) (work_room : ℕ) → normalize_check field s n roots (interleaved result).room work_room ≡ Ok tt
      → (u : View) → Alike (interleaved (normalize_result field s n roots result work_room)) u (count_of field s n roots)
      → (a : List ℕ) (m : ℕ) (v : List QuadFelt) → evaluate_answer field s n roots a m ≡ Values v → evaluate_answer field u (count_of field s n roots) (places_of field s n roots) a m ≡ Values v
  evaluate_same s n roots result work_room e =
      evaluates_front s n roots (interleaved (normalize_result field s n roots result work_room)) (count_of field s n roots) (places_of field s n roots) (normalized_in_place s n roots result work_room e)

  -- Compact's count and the roots' places
  abbrev pub kept_count : View → ℕ → List ℕ → ℕ
  kept_count s n roots = length (compacted s n roots).list

  abbrev pub kept_places : View → ℕ → List ℕ → List ℕ
  kept_places s n roots = (compacted s n roots).roots

  -- Compact: its answer stands in place of the list
  pub compacted_in_place : (s : View) (n : ℕ) (roots result : List ℕ) → compact_check field s n roots (interleaved result).room ≡ Ok tt
      → InPlaceOf s n roots (interleaved (compact_result field s n roots result)) (kept_count s n roots) (kept_places s n roots)
  unfolding compacted kept_of
  compacted_in_place s n roots result e =
      record {
        passes = Compacted.answer_passes field s n roots result e;
        no_new = rw (Compacted.answer_list field s n roots result e) (compact_inputs (KeyOf (nodes s n)) (nodes s n) roots (own_keys (nodes s n)));
        worth = λ given low. Compacted.answer_values field s n roots result e field.elements given;
      }

  pub compact_evaluates : (s : View) (n : ℕ) (roots result : List ℕ) → compact_check field s n roots (interleaved result).room ≡ Ok tt
      → (u : View) → Alike (interleaved (compact_result field s n roots result)) u (kept_count s n roots)
      → (a : List ℕ) (m : ℕ) (v : List QuadFelt) → evaluate_answer field s n roots a m ≡ Values v
      → evaluate_answer field u (kept_count s n roots) (kept_places s n roots) a m ≡ Values v
  compact_evaluates s n roots result e =
      evaluates_front s n roots (interleaved (compact_result field s n roots result)) (kept_count s n roots) (kept_places s n roots) (compacted_in_place s n roots result e)

  -- Build: its answer stands in place of the list of requests
  module _ (s : View) (n : ℕ) (roots result : List ℕ) (map_words : ℕ) (e : build_check field s n roots (interleaved result).room map_words ≡ Ok tt) where
    abbrev built : Replay
    built = replay field.elements (nodes s n) n

    passed : Rooted field.bounds s n roots
    unfolding build_check
    passed = rooted field.bounds s n roots (then_good (list_check field.bounds s n roots) (build_stores n (interleaved result).room map_words) e).0

    well_formed : WellFormed (Low field) (nodes s n)
    well_formed = sound_well_formed field.bounds s n passed.list.sound

    replayed : Replayed (Low field) n built
    replayed = replay_replayed field.elements (element_laws field) (nodes s n) well_formed n

    begins : build_result field s n roots result map_words ≡ stored result built.list
    unfolding build_result
    begins = rw e

    holds : nodes (interleaved (build_result field s n roots result map_words)) (length built.list) ≡ built.list
    holds = rw begins (nodes_stored result built.list)

    pub built_in_place : InPlaceOf s n roots (interleaved (build_result field s n roots result map_words)) (length built.list) (map (place_of built) roots)
    built_in_place =
        let same : n ≤ length (nodes s n) = omega (arith, length_nodes s n) in
        record {
          passes = rw begins
              (stored_pass result built.list field.bounds replayed.well_formed (map (place_of built) roots)
              (rw (roots_from_lem roots) at (inside_renamed (place_of built) n (length built.list) (roots_from roots) passed.inside replayed.inside))
              (omega (arith, replay_short field.elements (element_laws field) (nodes s n) well_formed n, passed.list.most)));
          no_new = rw holds (replay_inputs (KeyOf (nodes s n)) field.elements (nodes s n) (own_keys (nodes s n)) n same);
          worth = λ given low. rw holds
              (map_through (place_of built) (value field.elements given built.list) (value field.elements given (nodes s n)) roots
              (λ i p. replay_faithful field.elements (element_laws field) (nodes s n) well_formed given low n same i (roots_below n roots passed.inside i p)));
        }

    pub build_evaluates : (u : View) → Alike (interleaved (build_result field s n roots result map_words)) u (length built.list)
        → (a : List ℕ) (m : ℕ) (v : List QuadFelt) → evaluate_answer field s n roots a m ≡ Values v → evaluate_answer field u (length built.list) (map (place_of built) roots) a m ≡ Values v
    build_evaluates = evaluates_front s n roots (interleaved (build_result field s n roots result map_words)) (length built.list) (map (place_of built) roots) built_in_place
