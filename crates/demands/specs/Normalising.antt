-- Demand 3 about the call: where Normalise accepts, what its answer and its result store are.
use Rattle.std.specs.Prelude.{ℕ, ◌+◌, ◌*◌, ◌<◌, ◌≤◌, false, List, map, ◌⊎◌, ◌↔◌, get_or, length, Ok, Result, Err}
use Rattle.std.proofs.Math.Path.{◌≡◌, refl, sym, ap}
use Rattle.std.proofs.Common.{◌∙◌, subst, arith}
use Rattle.field.specs.Fields.{Field, Low, element_laws}
use Rattle.field.specs.declared.QuadFelt.{QuadFelt}
use Rattle.dag.specs.View.{View, interleaved, Agree}
use Rattle.dag.specs.ViewLaws.{agree_nodes}
use Rattle.dag.specs.Nodes.{nodes, words_of, filled}
use Rattle.dag.specs.NodeLaws.{length_nodes}
use Rattle.dag.specs.Refusals.{unless_refused, Checked}
use Rattle.dag.specs.Roots.{roots_of, roots_from, Inside}
use Rattle.dag.specs.RootLaws.{roots_from_lem}
use Rattle.dag.specs.Check.{list_check}
use Rattle.dag.specs.CheckLaws.{then_good}
use Rattle.dag.specs.PassLaws.{enough_room, Rooted, rooted}
use Rattle.dag.specs.Store.{Sound, Alike, stored}
use Rattle.dag.specs.StoreLaws.{sound_well_formed, same_list_agree}
use Rattle.dag.specs.WordLaws.{nodes_stored, sound_stored, stored_pass}
use Rattle.dag.specs.WellFormed.{WellFormed}
use Rattle.dag.specs.declared.NodeKind.{NodeKind}
use Rattle.meaning.specs.Values.{value}
use Rattle.compact.specs.OperandLaws.{roots_below, inside_again}
use Rattle.compact.specs.Promises.{AllBelow}
use Rattle.plan.specs.Plan.{fanout}
use Rattle.normalize.specs.Rounds.{Normal, fired, rounded, normalize}
use Rattle.normalize.specs.RepeatLaws.{Answered}
use Rattle.normalize.specs.Demand3.{same_value, same_value_at, as_many_roots, answer_well_formed, never_more, rounds_at_most_lost, given_back_exactly_when, idempotent}
use Rattle.normalize.specs.Calls.{normalize_stores, answer_of, normalize_check, normalized, normalize_answer, normalize_result}
use Rattle.normalize.specs.declared.NormalEnd.{NormalEnd}
use Rattle.dag.specs.declared.Refusal.{Refusal}
use Rattle.demands.specs.Views.{same_nodes, same_check}
use Rattle.demands.specs.Repeated.{Repeated, rooted_of, normalize_repeats}

-- an answer of a count, the roots' places and rounds kept
abbrev pub Done : ℕ → List ℕ → ℕ → Result NormalEnd Refusal
Done count places rounds = Ok (record { dag = record { count = count; roots = roots_from places }; rounds = rounds })

module _ (field : Field) where
  -- the count, the roots' places and the rounds kept, answered where Normalise accepts
  abbrev pub count_of : View → ℕ → List ℕ → ℕ
  count_of s n roots = length (normalized field s n roots).list

  abbrev pub places_of : View → ℕ → List ℕ → List ℕ
  places_of s n roots = (normalized field s n roots).roots

  abbrev pub rounds_of : View → ℕ → List ℕ → ℕ
  rounds_of s n roots = (normalized field s n roots).rounds

  -- in the first round no rewrite fired or its compacted list was no shorter
  abbrev pub FirstNotKept : View → ℕ → List ℕ → Type 0
  FirstNotKept s n roots =
      (fired (nodes s n) (fanout (nodes s n) roots) n ≡ false) ⊎ (n ≤ length (rounded field.elements (nodes s n) roots).list)

  -- whoever hears count, places and rounds kept was accepted, and heard these
  pub done_accepted : (s : View) (n : ℕ) (roots : List ℕ) (result_room work_room count : ℕ) (places : List ℕ) (rounds : ℕ) → normalize_answer field s n roots result_room work_room ≡ Done count places rounds
      → (normalize_check field s n roots result_room work_room ≡ Ok tt) × (count_of s n roots ≡ count) × (places_of s n roots ≡ places) × (rounds_of s n roots ≡ rounds)
  unfolding normalize_answer
  done_accepted s n roots result_room work_room count places rounds e = go (normalize_check field s n roots result_room work_room) (normalized field s n roots) e
    where
      go : (c : Checked) (a : Normal) → unless_refused c Err (Ok (answer_of a)) ≡ Done count places rounds
          → (c ≡ Ok tt) × (length a.list ≡ count) × (a.roots ≡ places) × (a.rounds ≡ rounds)
      go (Ok u) a e =
          let f : answer_of a ≡ record { dag = record { count = count; roots = roots_from places }; rounds = rounds } = cc in (
            refl,
            ap (λ d. d.dag.count) f,
            sym (roots_from_lem a.roots) ∙ (ap (λ d. roots_of d.dag.roots) f ∙ roots_from_lem places),
            ap (λ d. d.rounds) f,
          )
      go (Err r) a e = let z : ◌≡◌ {A = ℕ} 0 1 = cc in absurd (omega arith)

  module _ (s : View) (n : ℕ) (roots result : List ℕ) (work_room : ℕ) (accepted : normalize_check field s n roots (interleaved result).room work_room ≡ Ok tt) where
    abbrev list : List NodeKind
    list = (normalized field s n roots).list

    abbrev count : ℕ
    count = count_of s n roots

    abbrev places : List ℕ
    places = places_of s n roots

    abbrev store : List ℕ
    store = normalize_result field s n roots result work_room

    passed : Rooted field.bounds s n roots
    unfolding normalize_check
    passed = rooted field.bounds s n roots (then_good (list_check field.bounds s n roots) (normalize_stores n (interleaved result).room work_room) accepted).0

    well_formed : WellFormed (Low field) (nodes s n)
    well_formed = sound_well_formed field.bounds s n passed.list.sound

    inside : AllBelow (length (nodes s n)) roots
    inside = rw (length_nodes s n) (roots_below n roots passed.inside)

    -- it answers count, the roots' places and rounds kept
    pub answer_done : normalize_answer field s n roots (interleaved result).room work_room ≡ Done count places (rounds_of s n roots)
    unfolding normalize_answer
    answer_done = rw accepted

    -- a place for each root
    pub answer_many : length places ≡ length roots
    unfolding normalized
    answer_many = as_many_roots field.elements (element_laws field) (nodes s n) well_formed roots inside

    -- exactly those that the rounds give: as many as are kept before one isn't, and the list that this one started from
    pub answer_exact : Repeated field.elements (nodes s n) roots (rounds_of s n roots) (rooted_of (normalized field s n roots))
    unfolding normalized
    answer_exact = normalize_repeats field.elements (nodes s n) roots

    -- the result store holds the words of the list answered, and blanks behind them
    pub answer_words_lem : store ≡ stored result list
    unfolding normalize_result
    answer_words_lem = rw accepted

    -- so the list answered
    pub answer_list : nodes (interleaved store) count ≡ list
    answer_list = rw answer_words_lem (nodes_stored result list)

    -- there are never more records than before
    pub answer_count : count ≤ n
    unfolding normalized
    answer_count = omega (arith, never_more field.elements (nodes s n) roots, length_nodes s n)

    -- the rounds kept never outnumber the records lost
    pub answer_rounds : rounds_of s n roots + count ≤ n
    unfolding normalized
    answer_rounds = omega (arith, rounds_at_most_lost field.elements (nodes s n) roots, length_nodes s n)

    answered : Answered (Low field) (normalized field s n roots)
    unfolding normalized
    answered = answer_well_formed field.elements (element_laws field) (nodes s n) well_formed roots inside

    -- the places answered are roots of the list answered
    pub answer_inside : Inside count (roots_from places)
    answer_inside = inside_again n count (roots_from roots) places passed.inside (rw (roots_from_lem roots) answer_many) answered.inside

    -- the answer passes the list check
    pub answer_passes : list_check field.bounds (interleaved store) count places ≡ Ok tt
    answer_passes = rw answer_words_lem (stored_pass result list field.bounds answered.well_formed places answer_inside (omega (arith, answer_count, passed.list.most)))

    -- whatever field element each key is given, every root answered has the value of the root given, in their order
    pub answer_values : (given : ℕ → QuadFelt) → ((k : ℕ) → Low field (given k))
        → map (value field.elements given (nodes (interleaved store) count)) places ≡ map (value field.elements given (nodes s n)) roots
    unfolding normalized
    answer_values given low = rw answer_list (same_value field.elements (element_laws field) (nodes s n) well_formed roots inside given low)

    -- the same, root by root
    pub answer_value : (given : ℕ → QuadFelt) → ((k : ℕ) → Low field (given k)) → (j : ℕ) → j < length roots
        → value field.elements given (nodes (interleaved store) count) (get_or places j 0) ≡ value field.elements given (nodes s n) (get_or roots j 0)
    unfolding normalized
    answer_value given low j h = rw answer_list (same_value_at field.elements (element_laws field) (nodes s n) well_formed roots inside given low j h)

    -- the given records and roots come back exactly when in the first round no rewrite fired or its compacted list was no shorter
    pub answer_unchanged : ((list ≡ nodes s n) × (places ≡ roots)) ↔ FirstNotKept s n roots
    unfolding normalized
    answer_unchanged = rw (length_nodes s n) at (given_back_exactly_when field.elements (nodes s n) roots)

    sound : Sound field.bounds (interleaved store) count
    sound = rw answer_words_lem (sound_stored result list field.bounds answered.well_formed)

    -- the same in words: n records again, their words those that were given, and the roots
    pub answer_unchanged_words : ((count ≡ n) × Agree (interleaved store) s n × (places ≡ roots)) ↔ FirstNotKept s n roots
    answer_unchanged_words = (
      λ (c, a, r). answer_unchanged.0 (sym answer_list ∙ (ap (nodes (interleaved store)) c ∙ agree_nodes (interleaved store) s n a), r),
      λ f. let (l, r) = answer_unchanged.1 f in
          let c = ap length l ∙ length_nodes s n in
          let there = subst (Sound field.bounds (interleaved store)) c sound in
          (c, same_list_agree field.bounds (interleaved store) s n there passed.list.sound (ap (nodes (interleaved store)) (sym c) ∙ (answer_list ∙ l)), r),
    )

    -- normalising what came back: the same records and roots again, with 0 rounds kept
    pub answer_again_list : normalized field (interleaved store) count places ≡ record { list = list; roots = places; rounds = 0 }
    unfolding normalized
    answer_again_list = ap (λ l. normalize field.elements l places) answer_list ∙ idempotent field.elements (nodes s n) roots

    -- the list answered, in any store that begins with it: the result store, a slice cut behind the list, a copy with other words behind or of another layout
    module _ (t : View) (same : Alike (interleaved store) t count) where
      -- it passes the list check
      pub again_passes : list_check field.bounds t count places ≡ Ok tt
      again_passes = sym (same_check field (interleaved store) t count same places) ∙ answer_passes

      -- it is accepted wherever the stores have room for the count answered
      module _ (again : List ℕ) (work_again : ℕ) (result_room_lem : count ≤ (interleaved again).room) (work_room_lem : 2 * count ≤ work_again) where
        pub again_accepted : normalize_check field t count places (interleaved again).room work_again ≡ Ok tt
        unfolding normalize_check
        again_accepted = rw (again_passes, enough_room count (interleaved again).room result_room_lem, enough_room (2 * count) work_again work_room_lem)

        again_list : normalized field t count places ≡ record { list = list; roots = places; rounds = 0 }
        unfolding normalized
        again_list = rw (← same_nodes field (interleaved store) t count same) answer_again_list

        -- it answers the same count and places, and 0 rounds kept
        pub answer_again : normalize_answer field t count places (interleaved again).room work_again ≡ Done count places 0
        unfolding normalize_answer
        answer_again = rw (again_accepted, again_list)

        -- and writes the same list, blanks behind it
        pub answer_again_words : normalize_result field t count places again work_again ≡ stored again list
        unfolding normalize_result
        answer_again_words = rw (again_accepted, again_list)

        -- the whole store again, where the two are as long
        pub answer_again_store : length again ≡ length result → normalize_result field t count places again work_again ≡ store
        unfolding stored
        answer_again_store e = answer_again_words ∙ (ap (λ k. filled k (words_of list)) e ∙ sym answer_words_lem)
