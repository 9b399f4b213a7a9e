-- Equal views give equal answers: stores of whatever layout that are alike give the same answer, and the same words in every store that is written.
use Rattle.std.specs.Prelude.{ℕ, List, ◌≡◌, length}
use Rattle.std.proofs.Math.Path.{ap}
use Rattle.field.specs.Fields.{Field}
use Rattle.dag.specs.View.{View, interleaved}
use Rattle.dag.specs.ViewLaws.{alike_nodes, alike_rootless, alike_list}
use Rattle.dag.specs.Nodes.{nodes}
use Rattle.dag.specs.Check.{rootless_check, list_check}
use Rattle.dag.specs.Store.{Alike}
use Rattle.builder.specs.Calls.{step_check, has_room, stepped, step_room_check, step_whole_check, step_answer, build_check, build_answer, build_result, build_map}
use Rattle.compact.specs.Calls.{compacted, compact_check, compact_answer, compact_result}
use Rattle.normalize.specs.Calls.{normalize_check, normalized, normalize_answer, normalize_result, normalize_work}
use Rattle.evaluate.specs.Calls.{evaluate_check, evaluate_answer}
use Rattle.draw.specs.Calls.{drawn, draw_check, draw_answer, draw_text}
use Rattle.encode.specs.Calls.{input_number, circuit_constants, circuit_operations, geometry, emitted, root_is_last, circuit_check, emit_check, encoded, emit_answer, emit_result}
use Rattle.columns.specs.Columns.{log_within}
use Rattle.periodic.specs.Periodic.{build_periodic_nodes}
use Rattle.columns.specs.Prepare.{columns}
use Rattle.lower.specs.Lower.{lower_check, lowered, whole_check, lower_answer, lower_result, lower_work, lower_places}

module _ (field : Field) where
  module _ (s u : View) (n : ℕ) (h : Alike s u n) where
    pub same_nodes : nodes s n ≡ nodes u n
    same_nodes = alike_nodes s u n h

    same_rootless : (least : ℕ) → rootless_check field.bounds least s n ≡ rootless_check field.bounds least u n
    same_rootless = alike_rootless s u n h field.bounds

    pub same_check : (roots : List ℕ) → list_check field.bounds s n roots ≡ list_check field.bounds u n roots
    same_check = alike_list s u n h field.bounds

    -- Step, where both stores have room for one record more or neither has
    module _ (t a b : ℕ) (room : has_room s n ≡ has_room u n) where
      pub same_stepped : (stepped field s n t a b).list ≡ (stepped field u n t a b).list
      unfolding stepped
      same_stepped = rw same_nodes

      pub step_answer_lem : step_answer field s n t a b ≡ step_answer field u n t a b
      unfolding step_answer step_whole_check step_check step_room_check stepped
      step_answer_lem = rw (same_rootless 0, same_nodes, room)

    module _ (roots : List ℕ) (result_room : ℕ) where
      pub build_answer_lem : (map_words : ℕ) → build_answer field s n roots result_room map_words ≡ build_answer field u n roots result_room map_words
      unfolding build_answer build_check
      build_answer_lem map_words = rw (same_check roots, same_nodes)

      pub compact_answer_lem : compact_answer field s n roots result_room ≡ compact_answer field u n roots result_room
      unfolding compact_answer compact_check compacted
      compact_answer_lem = rw (same_check roots, same_nodes)

      pub normalize_answer_lem : (work_room : ℕ) → normalize_answer field s n roots result_room work_room ≡ normalize_answer field u n roots result_room work_room
      unfolding normalize_answer normalize_check normalized
      normalize_answer_lem work_room = rw (same_check roots, same_nodes)

    module _ (roots result : List ℕ) where
      pub build_result_lem : (map_words : ℕ) → build_result field s n roots result map_words ≡ build_result field u n roots result map_words
      unfolding build_result build_check
      build_result_lem map_words = rw (same_check roots, same_nodes)

      pub compact_result_lem : compact_result field s n roots result ≡ compact_result field u n roots result
      unfolding compact_result compact_check compacted
      compact_result_lem = rw (same_check roots, same_nodes)

      pub normalize_result_lem : (work_room : ℕ) → normalize_result field s n roots result work_room ≡ normalize_result field u n roots result work_room
      unfolding normalize_result normalize_check normalized
      normalize_result_lem work_room = rw (same_check roots, same_nodes)

    pub build_map_lem : (roots : List ℕ) (result_room : ℕ) (map : List ℕ) → build_map field s n roots result_room map ≡ build_map field u n roots result_room map
    unfolding build_map build_check
    build_map_lem roots result_room map = rw (same_check roots, same_nodes)

    pub normalize_work_lem : (roots : List ℕ) (result_room : ℕ) (work : List ℕ) → normalize_work field s n roots result_room work ≡ normalize_work field u n roots result_room work
    unfolding normalize_work normalize_check
    normalize_work_lem roots result_room work = rw (same_check roots)

    pub evaluate_answer_lem : (roots a : List ℕ) (m : ℕ) → evaluate_answer field s n roots a m ≡ evaluate_answer field u n roots a m
    unfolding evaluate_answer evaluate_check
    evaluate_answer_lem roots a m = rw (same_check roots, same_nodes)

    pub draw_answer_lem : (roots : List ℕ) (text_room : ℕ) → draw_answer field s n roots text_room ≡ draw_answer field u n roots text_room
    unfolding draw_answer draw_check drawn
    draw_answer_lem roots text_room = rw (same_check roots, same_nodes)

    pub draw_text_lem : (roots text : List ℕ) → draw_text field s n roots text ≡ draw_text field u n roots text
    unfolding draw_text draw_check drawn
    draw_text_lem roots text = rw (same_check roots, same_nodes)

    module _ (roots layout : List ℕ) (k : ℕ) where
      pub emit_answer_lem : (result_words : ℕ) → emit_answer field s n roots layout k result_words ≡ emit_answer field u n roots layout k result_words
      unfolding emit_answer emit_check circuit_check root_is_last encoded emitted geometry circuit_constants circuit_operations input_number
      emit_answer_lem result_words = rw (same_check roots, same_nodes)

      pub emit_result_lem : (result : List ℕ) → emit_result field s n roots layout k result ≡ emit_result field u n roots layout k result
      unfolding emit_result emit_check circuit_check root_is_last emitted geometry circuit_constants circuit_operations input_number
      emit_result_lem result = rw (same_check roots, same_nodes)

    module _ (ls es : List ℕ) (period : ℕ) where
      same_lowered : lowered field s n ls es period ≡ lowered field u n ls es period
      unfolding lowered
      same_lowered = ap (λ l. (build_periodic_nodes field (columns ls es) (log_within field.most_log period)).run l) same_nodes

      same_tests : (work_room place_words : ℕ) → lower_check field s n ls es period work_room place_words ≡ lower_check field u n ls es period work_room place_words
      unfolding lower_check
      same_tests work_room place_words = rw (same_rootless 0)

      module _ (result work places : List ℕ) where
        same_whole : whole_check field s n ls es period result work places ≡ whole_check field u n ls es period result work places
        unfolding whole_check
        same_whole = rw (same_tests (interleaved work).room (length places), same_lowered)

        pub lower_answer_lem : lower_answer field s n ls es period result work places ≡ lower_answer field u n ls es period result work places
        unfolding lower_answer
        lower_answer_lem = rw (same_whole, same_lowered)

        pub lower_result_lem : lower_result field s n ls es period result work places ≡ lower_result field u n ls es period result work places
        unfolding lower_result
        lower_result_lem = rw (same_whole, same_lowered)

        pub lower_places_lem : lower_places field s n ls es period result work places ≡ lower_places field u n ls es period result work places
        unfolding lower_places
        lower_places_lem = rw (same_whole, same_lowered)

        pub lower_work_lem : lower_work field s n ls es period result work places ≡ lower_work field u n ls es period result work places
        unfolding lower_work
        lower_work_lem = rw (same_tests (interleaved work).room (length places))
