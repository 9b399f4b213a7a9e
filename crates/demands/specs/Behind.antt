-- What lies behind a list, an assignment, a layout or columns is never read: stores that begin with the same words give the same answer, and the same words in every store.
use Prim.Native.Nat.{ℕ, zero, suc, ◌+◌, ◌*◌, ◌<◌, ◌≤◌}
use Rattle.std.specs.Prelude.{List, [], ◌∷◌, ◌++◌, Bool, cond, ◌≡◌, eqb, get_or, length, take, drop, Some}
use Rattle.std.proofs.Math.Bool.{true, false}
use Rattle.std.proofs.Math.Path.{refl, ap, ap₂, fun_ext}
use Rattle.std.proofs.Common.{sym, ◌∙◌, arith, get_or-take, take-add, take-take, mul-suc, mul-le-mul_left}
use borrow.Author.Tests.{le-leb}
use Rattle.std.proofs.Math.Seq.{drop-append_seam}
use Rattle.field.specs.Fields.{Field, modulus}
use Rattle.dag.specs.View.{View, interleaved}
use Rattle.dag.specs.ViewLaws.{front_room, front_agree, alike}
use Rattle.dag.specs.Lookup.{greatest}
use Rattle.dag.specs.Nodes.{nodes, words_of}
use Rattle.dag.specs.Refusals.{first_refused, ◌then◌, Checked}
use Rattle.dag.specs.Store.{front, Alike}
use Rattle.builder.specs.Calls.{has_room, step_answer, step_store}
use Rattle.entries.specs.Entries.{key_at, entry_check, entries_check, entry_of}
use Rattle.circuit.specs.Circuit.{layout_words}
use Rattle.encode.specs.Calls.{input_number, circuit_constants, circuit_operations, geometry, emitted, root_is_last, circuit_check, emit_check, encoded, emit_answer, emit_result}
use Rattle.evaluate.specs.Calls.{entry_words, element_of, given, evaluate_check, evaluate_answer}
use Rattle.columns.specs.Columns.{log_within}
use Rattle.periodic.specs.Periodic.{build_periodic_nodes}
use Rattle.columns.specs.Prepare.{total, columns, prepare_check, prepare}
use Rattle.lower.specs.Lower.{lower_check, lowered, whole_check, lower_answer, lower_result, lower_work, lower_places}
use Rattle.demands.specs.Stepping.{Done, begins}
use Rattle.demands.specs.Views.{same_stepped, step_answer_lem}

-- two list stores, the first with room for n records, that begin with the same n records are alike, whatever lies behind them
pub same_front : (s u : List ℕ) (n : ℕ) → n ≤ (interleaved s).room → front n u ≡ front n s → Alike (interleaved s) (interleaved u) n
same_front s u n room e = alike (interleaved s) (interleaved u) n room (front_room s u n room e) (front_agree s u n (sym e))

-- columns: of a store long enough for their entries only these are read
same_columns : (ls es fs : List ℕ) → take (total ls) es ≡ take (total ls) fs → columns ls es ≡ columns ls fs
unfolding total columns
same_columns [] es fs e = refl
same_columns (n ∷ ls) es fs e = ap₂ ◌∷◌ front (same_columns ls (drop n es) (drop n fs) back)
  where
    front : take n es ≡ take n fs
    front = sym (take-take n (n + total ls) es (omega arith)) ∙ (ap (take n) e ∙ take-take n (n + total ls) fs (omega arith))

    joined : take n es ++ take (total ls) (drop n es) ≡ take n es ++ take (total ls) (drop n fs)
    joined = sym (take-add n (total ls) es) ∙ (e ∙ (take-add n (total ls) fs ∙ ap (λ l. l ++ take (total ls) (drop n fs)) (sym front)))

    back : take (total ls) (drop n es) ≡ take (total ls) (drop n fs)
    back = sym (drop-append_seam (take n es) _) ∙ (ap (drop (length (take n es))) joined ∙ drop-append_seam (take n es) _)

module _ (field : Field) where
  -- Step: the list that the store then begins with
  pub step_list_lem : (s u : List ℕ) (n : ℕ) → Alike (interleaved s) (interleaved u) n → (t a b : ℕ) → has_room (interleaved s) n ≡ has_room (interleaved u) n
      → (place count : ℕ) → step_answer field (interleaved s) n t a b ≡ Done place count → front count (step_store field s n t a b) ≡ front count (step_store field u n t a b)
  step_list_lem s u n h t a b room place count e =
      begins field s n t a b place count e
      ∙ (ap words_of (same_stepped field (interleaved s) (interleaved u) n h t a b room)
      ∙ sym (begins field u n t a b place count (sym (step_answer_lem field (interleaved s) (interleaved u) n h t a b room) ∙ e)))

  -- entries: of a store long enough for m of them only their words are read
  module _ (width : ℕ) (a c : List ℕ) (m : ℕ) (wide : 0 < width) (left : width * m ≤ length a) (right : width * m ≤ length c) (words : take (width * m) a ≡ take (width * m) c) where
    same_word : (k : ℕ) → k < width * m → get_or a k 0 ≡ get_or c k 0
    same_word k h = sym (get_or-take (width * m) a k 0 h) ∙ (ap (λ l. get_or l k 0) words ∙ get_or-take (width * m) c k 0 h)

    same_key : (i : ℕ) → i < m → key_at width a i ≡ key_at width c i
    same_key i h = same_word (width * i) (omega (arith, mul-suc width i, mul-le-mul_left width h, wide))

    same_first : (f g : ℕ → Checked) (k : ℕ) → ((i : ℕ) → i < k → f i ≡ g i) → first_refused f k ≡ first_refused g k
    unfolding first_refused
    same_first f g zero e = refl
    same_first f g (suc k) e = ap₂ ◌then◌ (same_first f g k (λ i h. e i (omega arith))) (e k (omega arith))

    same_entries_lem : ((i : ℕ) → i < m → entry_check field.bounds width a i ≡ entry_check field.bounds width c i) → entries_check field.bounds width a m ≡ entries_check field.bounds width c m
    unfolding entries_check
    same_entries_lem e = rw (le-leb (width * m) (length a) left, le-leb (width * m) (length c) right, same_first (entry_check field.bounds width a) (entry_check field.bounds width c) m e)

    same_entry_of : (key k : ℕ) → k ≤ m → entry_of width a k key ≡ entry_of width c k key
    unfolding entry_of greatest
    same_entry_of key zero h = refl
    same_entry_of key (suc k) h = rw (same_key k (omega arith), same_entry_of key k (omega arith))

    same_finder : entry_of width a m ≡ entry_of width c m
    same_finder = fun_ext (λ key. same_entry_of key m (omega arith))

  -- an assignment
  module _ (a c : List ℕ) (m : ℕ) (left : entry_words * m ≤ length a) (right : entry_words * m ≤ length c) (words : take (entry_words * m) a ≡ take (entry_words * m) c) where
    assigned_word : (k : ℕ) → k < entry_words * m → get_or a k 0 ≡ get_or c k 0
    assigned_word = same_word entry_words a c m (omega arith) left right words

    same_entry : (i : ℕ) → i < m → entry_check field.bounds entry_words a i ≡ entry_check field.bounds entry_words c i
    unfolding entry_check
    same_entry i h =
        rw (assigned_word (entry_words * i) (omega arith), assigned_word (entry_words * i + 1) (omega arith), assigned_word (entry_words * i + 2) (omega arith))

    same_element : (key k : ℕ) → k ≤ m → element_of a (entry_of entry_words a k key) ≡ element_of c (entry_of entry_words c k key)
    unfolding element_of entry_of greatest
    same_element key zero h = refl
    same_element key (suc k) h =
        rw (assigned_word (entry_words * k) (omega arith)) (go (eqb (get_or c (entry_words * k) 0) key) (same_element key k (omega arith)))
      where
        go : (t : Bool) → element_of a (entry_of entry_words a k key) ≡ element_of c (entry_of entry_words c k key)
            → element_of a (cond t (Some k) (entry_of entry_words a k key)) ≡ element_of c (cond t (Some k) (entry_of entry_words c k key))
        go true e = rw (assigned_word (entry_words * k + 1) (omega arith), assigned_word (entry_words * k + 2) (omega arith))
        go false e = e

    same_given : given a m ≡ given c m
    unfolding given
    same_given = fun_ext (λ key. same_element key m (omega arith))

    pub evaluate_assignment : (s : View) (n : ℕ) (roots : List ℕ) → evaluate_answer field s n roots a m ≡ evaluate_answer field s n roots c m
    unfolding evaluate_answer evaluate_check
    evaluate_assignment s n roots = rw (same_entries_lem entry_words a c m (omega arith) left right words same_entry, same_finder entry_words a c m (omega arith) left right words, same_given)

  -- a layout
  module _ (a c : List ℕ) (k : ℕ) (left : k ≤ length a) (right : k ≤ length c) (words : take k a ≡ take k c) (s : View) (n : ℕ) (roots : List ℕ) where
    once : layout_words * k ≡ k
    once = omega arith

    keys : take (layout_words * k) a ≡ take (layout_words * k) c
    keys = rw once words

    layout_entry : (i : ℕ) → i < k → entry_check field.bounds layout_words a i ≡ entry_check field.bounds layout_words c i
    unfolding entry_check
    layout_entry i h = rw (same_key layout_words a c k (omega arith) (omega arith) (omega arith) keys i h)

    layout_entries : entries_check field.bounds layout_words a k ≡ entries_check field.bounds layout_words c k
    layout_entries = same_entries_lem layout_words a c k (omega arith) (omega arith) (omega arith) keys layout_entry

    layout_finder : entry_of layout_words a k ≡ entry_of layout_words c k
    layout_finder = same_finder layout_words a c k (omega arith) (omega arith) (omega arith) keys

    pub emit_layout_answer : (result_words : ℕ) → emit_answer field s n roots a k result_words ≡ emit_answer field s n roots c k result_words
    unfolding emit_answer emit_check circuit_check root_is_last encoded emitted geometry circuit_constants circuit_operations input_number
    emit_layout_answer result_words = rw (layout_entries, layout_finder)

    pub emit_layout_result : (result : List ℕ) → emit_result field s n roots a k result ≡ emit_result field s n roots c k result
    unfolding emit_result emit_check circuit_check root_is_last emitted geometry circuit_constants circuit_operations input_number
    emit_layout_result result = rw (layout_entries, layout_finder)

  pub prepare_answer_lem : (ls es fs : List ℕ) → total ls ≤ length es → total ls ≤ length fs → take (total ls) es ≡ take (total ls) fs → prepare (modulus field) ls es ≡ prepare (modulus field) ls fs
  unfolding prepare prepare_check
  prepare_answer_lem ls es fs left right e = rw (same_columns ls es fs e, le-leb (total ls) (length es) left, le-leb (total ls) (length fs) right)

  -- Lower: the columns' entries
  module _ (s : View) (n : ℕ) (ls es fs : List ℕ) (left : total ls ≤ length es) (right : total ls ≤ length fs) (same : take (total ls) es ≡ take (total ls) fs) (period : ℕ) where
    entries_tests : (work_room place_words : ℕ) → lower_check field s n ls es period work_room place_words ≡ lower_check field s n ls fs period work_room place_words
    unfolding lower_check prepare_check
    entries_tests work_room place_words = rw (same_columns ls es fs same, le-leb (total ls) (length es) left, le-leb (total ls) (length fs) right)

    entries_lowered : lowered field s n ls es period ≡ lowered field s n ls fs period
    unfolding lowered
    entries_lowered = ap (λ cs. (build_periodic_nodes field cs (log_within field.most_log period)).run (nodes s n)) (same_columns ls es fs same)

    module _ (result work places : List ℕ) where
      entries_whole : whole_check field s n ls es period result work places ≡ whole_check field s n ls fs period result work places
      unfolding whole_check
      entries_whole = rw (entries_tests (interleaved work).room (length places), entries_lowered)

      pub entries_answer : lower_answer field s n ls es period result work places ≡ lower_answer field s n ls fs period result work places
      unfolding lower_answer
      entries_answer = rw (entries_whole, entries_lowered)

      pub entries_result : lower_result field s n ls es period result work places ≡ lower_result field s n ls fs period result work places
      unfolding lower_result
      entries_result = rw (entries_whole, entries_lowered)

      pub entries_places : lower_places field s n ls es period result work places ≡ lower_places field s n ls fs period result work places
      unfolding lower_places
      entries_places = rw (entries_whole, entries_lowered)

      pub entries_work : lower_work field s n ls es period result work places ≡ lower_work field s n ls fs period result work places
      unfolding lower_work
      entries_work = rw (entries_tests (interleaved work).room (length places))
