-- With one root the calls are those that were there before a list could carry several: the same answers, and the same words in every store.
use Rattle.std.specs.Prelude.{ℕ, ◌≡◌, ◌&&◌, Bool, true, false, ltb, replicate, Option, Some, None, Ok, Err}
use mathlib.Core.List.{List, [], ◌∷◌}
use Rattle.std.proofs.Math.Path.{refl, ap}
use Rattle.std.proofs.Common.{arith}
use Rattle.std.proofs.Math.ListN.{get_or, length}
use Rattle.field.specs.Fields.{Field, field_of}
use Rattle.field.specs.Numbers.{numbered, named, in_field}
use Rattle.field.specs.declared.Prime.{Prime}
use Rattle.field.specs.declared.QuadFelt.{QuadFelt}
use Rattle.dag.specs.View.{View, interleaved}
use Rattle.dag.specs.Arrays.{padded}
use Rattle.dag.specs.Nodes.{nodes}
use Rattle.dag.specs.Refusals.{need, ◌then◌, unless_refused, Checked}
use Rattle.dag.specs.Roots.{most_roots, roots_of, roots_from}
use Rattle.dag.specs.Check.{rootless_check, roots_check, list_check}
use Rattle.dag.specs.declared.Refusal.TheVariants as Refusal'
use Rattle.meaning.specs.Values.{value}
use Rattle.builder.specs.Steps.{Replay, place_of, replay}
use Rattle.builder.specs.Calls as Builder
use Rattle.compact.specs.Compact.{Rooted, compact}
use Rattle.compact.specs.Calls as Compaction
use Rattle.entries.specs.Entries.{entries_check, entry_of, inputs_check}
use Rattle.evaluate.specs.Calls.{entry_words, given, values_from}
use Rattle.evaluate.specs.Calls as Evaluation
use Rattle.normalize.specs.Rounds.{Normal, normalize}
use Rattle.normalize.specs.Calls as Normalising
use Rattle.ace.specs.Answers.{list_words, evaluate_words, coordinates}
use Rattle.ace.specs.Answers as Answers
use Rattle.ace.specs.Calls as Calls
use Rattle.demands.specs.Before as Before
use Rattle.demands.specs.Before.{four_words}
use Rattle.demands.specs.Normalising.{answer_many}

-- four words of a list's answer in eleven: the root's place goes behind the rounds kept
unfoldable pub in_eleven : List ℕ → List ℕ
in_eleven ws = get_or ws 0 0 ∷ get_or ws 1 0 ∷ get_or ws 3 0 ∷ get_or ws 2 0 ∷ replicate 7 0

-- four words of Evaluate's answer in seventeen
unfoldable pub in_seventeen : List ℕ → List ℕ
in_seventeen ws = get_or ws 0 0 ∷ get_or ws 1 0 ∷ get_or ws 2 0 ∷ replicate 14 0

-- a list of one
one : (l : List ℕ) → length l ≡ 1 → l ≡ get_or l 0 0 ∷ []
one [] e = absurd (omega arith)
one (x ∷ []) e = refl
one (x ∷ y ∷ l) e = absurd (omega arith)

and_end : (t : Bool) → t && true ≡ t
and_end true = refl
and_end false = refl

module _ (field : Field) (s : View) (n root : ℕ) where
  abbrev built : Replay
  built = replay field.elements (nodes s n) n

  abbrev kept : Rooted
  kept = compact (nodes s n) (root ∷ [])

  abbrev normal : Normal
  normal = normalize field.elements (nodes s n) (root ∷ [])

  same_check : list_check field.bounds s n (root ∷ []) ≡ Before.list_check field s n root
  unfolding list_check roots_check Before.list_check
  same_check = ap (λ t. rootless_check field.bounds 1 s n then need t Refusal'.RootOutside) (and_end (ltb root n))

  build_words : (result_room map_words : ℕ) → list_words (Builder.build_answer field s n (root ∷ []) result_room map_words) ≡ in_eleven (Before.build_answer field s n root result_room map_words)
  unfolding Builder.build_answer Builder.build_check Before.build_answer Before.build_check in_eleven roots_of roots_from padded
  build_words result_room map_words = rw same_check (go (Before.list_check field s n root then Builder.build_stores n result_room map_words))
    where
      go : (c : Checked)
          → list_words (unless_refused c Err (Ok (record { count = length built.list; roots = roots_from (place_of built root ∷ []) })))
          ≡ in_eleven (unless_refused c four_words (0 ∷ length built.list ∷ place_of built root ∷ 0 ∷ []))
      go (Ok u) = refl
      go (Err r) = refl

  build_store : (result : List ℕ) (map_words : ℕ) → Builder.build_result field s n (root ∷ []) result map_words ≡ Before.build_result field s n root result map_words
  unfolding Builder.build_result Builder.build_check Before.build_result Before.build_check
  build_store result map_words = rw same_check

  build_places : (result_room : ℕ) (map : List ℕ) → Builder.build_map field s n (root ∷ []) result_room map ≡ Before.build_map field s n root result_room map
  unfolding Builder.build_map Builder.build_check Before.build_map Before.build_check
  build_places result_room map = rw same_check

  compact_words : (result_room : ℕ) → list_words (Compaction.compact_answer field s n (root ∷ []) result_room) ≡ in_eleven (Before.compact_answer field s n root result_room)
  unfolding Compaction.compact_answer Compaction.compact_check Compaction.compacted Compaction.kept_of compact Before.compact_answer Before.compact_check in_eleven roots_of roots_from padded
  compact_words result_room = rw same_check (go (Before.list_check field s n root then Compaction.compact_stores n result_room))
    where
      go : (c : Checked)
          → list_words (unless_refused c Err (Ok (record { count = length kept.list; roots = roots_from kept.roots })))
          ≡ in_eleven (unless_refused c four_words (0 ∷ length kept.list ∷ get_or kept.roots 0 0 ∷ 0 ∷ []))
      go (Ok u) = refl
      go (Err r) = refl

  compact_store : (result : List ℕ) → Compaction.compact_result field s n (root ∷ []) result ≡ Before.compact_result field s n root result
  unfolding Compaction.compact_result Compaction.compact_check Compaction.compacted Before.compact_result Before.compact_check
  compact_store result = rw same_check

  normalize_words : (result : List ℕ) (work_room : ℕ)
      → Answers.normalize_words (Normalising.normalize_answer field s n (root ∷ []) (interleaved result).room work_room) ≡ in_eleven (Before.normalize_answer field s n root (interleaved result).room work_room)
  unfolding Normalising.normalize_answer Normalising.normalize_check Normalising.normalized Before.normalize_answer Before.normalize_check in_eleven roots_of roots_from padded
  normalize_words result work_room = rw (← same_check) (go (Normalising.normalize_check field s n (root ∷ []) (interleaved result).room work_room) refl)
    where
      go : (c : Checked) → Normalising.normalize_check field s n (root ∷ []) (interleaved result).room work_room ≡ c
          → Answers.normalize_words (unless_refused c Err (Ok (Normalising.answer_of normal)))
          ≡ in_eleven (unless_refused c four_words (0 ∷ length normal.list ∷ get_or normal.roots 0 0 ∷ normal.rounds ∷ []))
      go (Ok u) e = ap (λ rs. 0 ∷ length normal.list ∷ normal.rounds ∷ padded 0 most_roots rs) (one normal.roots (answer_many field s n (root ∷ []) result work_room e))
      go (Err r) e = refl

  normalize_store : (result : List ℕ) (work_room : ℕ) → Normalising.normalize_result field s n (root ∷ []) result work_room ≡ Before.normalize_result field s n root result work_room
  unfolding Normalising.normalize_result Normalising.normalize_check Normalising.normalized Before.normalize_result Before.normalize_check
  normalize_store result work_room = rw same_check

  normalize_blank : (result_room : ℕ) (work : List ℕ) → Normalising.normalize_work field s n (root ∷ []) result_room work ≡ Before.normalize_work field s n root result_room work
  unfolding Normalising.normalize_work Normalising.normalize_check Before.normalize_work Before.normalize_check
  normalize_blank result_room work = rw same_check

  evaluate_words_lem : (a : List ℕ) (m : ℕ) → evaluate_words (Evaluation.evaluate_answer field s n (root ∷ []) a m) ≡ in_seventeen (Before.evaluate_answer field s n root a m)
  unfolding Evaluation.evaluate_answer Evaluation.evaluate_check values_from coordinates Before.evaluate_answer Before.evaluate_check in_seventeen padded
  evaluate_words_lem a m =
      rw same_check
      (go (Before.list_check field s n root then entries_check field.bounds entry_words a m then inputs_check (entry_of entry_words a m) (nodes s n) n)
      (value field.elements (given a m) (nodes s n) root))
    where
      go : (c : Checked) (v : QuadFelt)
          → evaluate_words (unless_refused c Err (Ok (values_from (v ∷ [])))) ≡ in_seventeen (unless_refused c four_words (0 ∷ v.c0 ∷ v.c1 ∷ 0 ∷ []))
      go (Ok u) v = refl
      go (Err r) v = refl

-- a call by its field number: the same in both fields, and where there is none
in_both : (number : ℕ) (h : List ℕ → List ℕ) {u v : List ℕ} {f g : Prime → List ℕ} → u ≡ h v → ((prime : Prime) → f prime ≡ h (g prime)) → in_field number u f ≡ h (in_field number v g)
in_both number h {u} {v} {f} {g} e each = go (numbered number)
  where
    go : (k : Option Prime) → named k u f ≡ h (named k v g)
    go (Some prime) = each prime
    go None = e

abbrev same : List ℕ → List ℕ
same ws = ws

-- 49 in four words
abbrev pub unknown_before : List ℕ
unknown_before = four_words Refusal'.FieldNumber

-- the calls with one root: each answer is the one before, its words where they stand now, and every store is as before
pub record OneRoot (number : ℕ) (list : List ℕ) (n root : ℕ) : Type 0 where
  pub build_answer_lem : (result map : List ℕ)
      → Calls.build_answer number list n (root ∷ []) result map ≡ in_eleven (in_field number unknown_before (λ prime. Before.build_answer (field_of prime) (interleaved list) n root (interleaved result).room (length map)))
  pub build_result_lem : (result map : List ℕ)
      → Calls.build_result number list n (root ∷ []) result map ≡ in_field number result (λ prime. Before.build_result (field_of prime) (interleaved list) n root result (length map))
  pub build_map_lem : (result map : List ℕ)
      → Calls.build_map number list n (root ∷ []) result map ≡ in_field number map (λ prime. Before.build_map (field_of prime) (interleaved list) n root (interleaved result).room map)
  pub compact_answer_lem : (result : List ℕ)
      → Calls.compact_answer number list n (root ∷ []) result ≡ in_eleven (in_field number unknown_before (λ prime. Before.compact_answer (field_of prime) (interleaved list) n root (interleaved result).room))
  pub compact_result_lem : (result : List ℕ) → Calls.compact_result number list n (root ∷ []) result ≡ in_field number result (λ prime. Before.compact_result (field_of prime) (interleaved list) n root result)
  pub normalize_answer_lem : (result work : List ℕ)
      → Calls.normalize_answer number list n (root ∷ []) result work
      ≡ in_eleven (in_field number unknown_before (λ prime. Before.normalize_answer (field_of prime) (interleaved list) n root (interleaved result).room (interleaved work).room))
  pub normalize_result_lem : (result work : List ℕ)
      → Calls.normalize_result number list n (root ∷ []) result work ≡ in_field number result (λ prime. Before.normalize_result (field_of prime) (interleaved list) n root result (interleaved work).room)
  pub normalize_work_lem : (result work : List ℕ)
      → Calls.normalize_work number list n (root ∷ []) result work ≡ in_field number work (λ prime. Before.normalize_work (field_of prime) (interleaved list) n root (interleaved result).room work)
  pub evaluate_answer_lem : (assignment : List ℕ) (m : ℕ)
      → Calls.evaluate_answer number list n (root ∷ []) assignment m ≡ in_seventeen (in_field number unknown_before (λ prime. Before.evaluate_answer (field_of prime) (interleaved list) n root assignment m))

pub one_root : (number : ℕ) (list : List ℕ) (n root : ℕ) → OneRoot number list n root
unfolding Calls.build_answer Calls.build_result Calls.build_map Calls.compact_answer Calls.compact_result Calls.normalize_answer Calls.normalize_result Calls.normalize_work Calls.evaluate_answer in_eleven in_seventeen
one_root number list n root =
    let s = interleaved list in
    record {
      build_answer_lem = λ result map. in_both number in_eleven refl (λ prime. build_words (field_of prime) s n root (interleaved result).room (length map));
      build_result_lem = λ result map. in_both number same refl (λ prime. build_store (field_of prime) s n root result (length map));
      build_map_lem = λ result map. in_both number same refl (λ prime. build_places (field_of prime) s n root (interleaved result).room map);
      compact_answer_lem = λ result. in_both number in_eleven refl (λ prime. compact_words (field_of prime) s n root (interleaved result).room);
      compact_result_lem = λ result. in_both number same refl (λ prime. compact_store (field_of prime) s n root result);
      normalize_answer_lem = λ result work. in_both number in_eleven refl (λ prime. normalize_words (field_of prime) s n root result (interleaved work).room);
      normalize_result_lem = λ result work. in_both number same refl (λ prime. normalize_store (field_of prime) s n root result (interleaved work).room);
      normalize_work_lem = λ result work. in_both number same refl (λ prime. normalize_blank (field_of prime) s n root (interleaved result).room work);
      evaluate_answer_lem = λ assignment m. in_both number in_seventeen refl (λ prime. evaluate_words_lem (field_of prime) s n root assignment m);
    }
