-- No trace of what a store held: where a call accepts, each store it writes is the same at exit whatever it held at entry; only its length counts.
use Rattle.std.specs.Prelude.{ℕ, List, ◌≡◌, length, Ok}
use Rattle.field.specs.Fields.{Field}
use Rattle.dag.specs.View.{View, interleaved}
use Rattle.dag.specs.ViewLaws.{same_room}
use Rattle.dag.specs.Store.{stored}
use Rattle.builder.specs.Calls.{build_check, build_result, build_map}
use Rattle.compact.specs.Calls.{compact_check, compact_result}
use Rattle.normalize.specs.Calls.{normalize_check, normalize_result, normalize_work}
use Rattle.draw.specs.Calls.{draw_check, draw_text}
use Rattle.encode.specs.Calls.{emit_check, emit_result}
use Rattle.lower.specs.Lower.{lower_check, whole_check, lower_result, lower_work, lower_places}

module _ (field : Field) where
  module _ (s : View) (n : ℕ) (roots result result' : List ℕ) (same : length result ≡ length result') where
    module _ (map map' : List ℕ) (same_map : length map ≡ length map') (accepted : build_check field s n roots (interleaved result).room (length map) ≡ Ok tt) where
      pub build_result_lem : build_result field s n roots result (length map) ≡ build_result field s n roots result' (length map')
      unfolding build_result stored
      build_result_lem = rw (← same_room result result' same, ← same_map, accepted, same)

      pub build_map_lem : build_map field s n roots (interleaved result).room map ≡ build_map field s n roots (interleaved result').room map'
      unfolding build_map
      build_map_lem = rw (← same_room result result' same, ← same_map, accepted)

    pub compact_result_lem : compact_check field s n roots (interleaved result).room ≡ Ok tt → compact_result field s n roots result ≡ compact_result field s n roots result'
    unfolding compact_result stored
    compact_result_lem accepted = rw (← same_room result result' same, accepted, same)

    module _ (work work' : List ℕ) (same-work : length work ≡ length work') (accepted : normalize_check field s n roots (interleaved result).room (interleaved work).room ≡ Ok tt) where
      pub normalize_result_lem : normalize_result field s n roots result (interleaved work).room ≡ normalize_result field s n roots result' (interleaved work').room
      unfolding normalize_result stored
      normalize_result_lem = rw (← same_room result result' same, ← same_room work work' same-work, accepted, same)

      pub normalize_work_lem : normalize_work field s n roots (interleaved result).room work ≡ normalize_work field s n roots (interleaved result').room work'
      unfolding normalize_work
      normalize_work_lem = rw (← same_room result result' same, ← same_room work work' same-work, accepted, same-work)

  pub draw_text_lem : (s : View) (n : ℕ) (roots text text' : List ℕ) → length text ≡ length text' → draw_check field s n roots (length text) ≡ Ok tt → draw_text field s n roots text ≡ draw_text field s n roots text'
  unfolding draw_text
  draw_text_lem s n roots text text' same accepted = rw (← same, accepted)

  pub emit_result_lem : (s : View) (n : ℕ) (roots layout : List ℕ) (k : ℕ) (result result' : List ℕ) → length result ≡ length result' → emit_check field s n roots layout k (length result) ≡ Ok tt
      → emit_result field s n roots layout k result ≡ emit_result field s n roots layout k result'
  unfolding emit_result
  emit_result_lem s n roots layout k result result' same accepted = rw (← same, accepted)

  module _ (s : View) (n : ℕ) (ls es : List ℕ) (period : ℕ) (result result' work work' places places' : List ℕ)
      (same : length result ≡ length result') (same-work : length work ≡ length work') (same-places : length places ≡ length places') where
    module _ (accepted : whole_check field s n ls es period result work places ≡ Ok tt) where
      accepted_too : whole_check field s n ls es period result' work' places' ≡ Ok tt
      unfolding whole_check
      accepted_too = rw (← same_room result result' same, ← same_room work work' same-work, ← same-places) accepted

      pub lower_result_lem : lower_result field s n ls es period result work places ≡ lower_result field s n ls es period result' work' places'
      unfolding lower_result stored
      lower_result_lem = rw (accepted, accepted_too, same)

      pub lower_places_lem : lower_places field s n ls es period result work places ≡ lower_places field s n ls es period result' work' places'
      unfolding lower_places
      lower_places_lem = rw (accepted, accepted_too, same-places)

    -- also where 7 is answered
    pub lower_work_lem : lower_check field s n ls es period (interleaved work).room (length places) ≡ Ok tt → lower_work field s n ls es period result work places ≡ lower_work field s n ls es period result' work' places'
    unfolding lower_work
    lower_work_lem tested = rw (← same_room work work' same-work, ← same-places, tested, same-work)
