-- From what the calls answer to the listing of the definition.
use Rattle.std.specs.Prelude.{ℕ, ◌*◌, ◌≤◌, ◌≡◌, Result, Ok, Err, refl, length}
use mathlib.Core.List.{List}
use Rattle.std.proofs.Math.Path.{ap}
use Rattle.std.proofs.Common.{◌∙◌, arith}
use Rattle.field.specs.Fields.{goldilocks}
use Rattle.dag.specs.View.{View, interleaved, Agree}
use Rattle.dag.specs.ViewLaws.{words_room, same_room, alike, alike_nodes, alike_list}
use Rattle.dag.specs.Nodes.{record_words, nodes}
use Rattle.dag.specs.NodeLaws.{length_nodes}
use Rattle.dag.specs.PassLaws.{enough_room}
use Rattle.dag.specs.Store.{stored}
use Rattle.dag.specs.Roots.{roots_from}
use Rattle.dag.specs.RootLaws.{roots_from_lem}
use Rattle.dag.specs.declared.Refusal.{Refusal}
use Rattle.dag.specs.WordLaws.{nodes_stored}
use Rattle.normalize.specs.Demand3.{never_more}
use Rattle.normalize.specs.Calls.{answer_of, normalize_check, normalized, normalize_answer, normalize_result}
use Rattle.normalize.specs.CallLaws.{passed}
use Rattle.normalize.specs.Promises.{Passed}
use Rattle.normalize.specs.declared.NormalEnd.{NormalEnd}
use Rattle.dag.specs.Refusals.{Checked, unless_refused}
use Rattle.house_file.specs.File.{most_filed, file_count, file_roots, file_view, held_check, read_answer, read_list}
use Rattle.house_file.specs.declared.Filed.{Filed}
use Rattle.house_file.specs.Promises as FileContracts
use Rattle.house_file.specs.FileLaws.{room_enough, made_refused, Read, read_done, read_agrees, passed as file-passed}
use Rattle.wording.specs.Refused.{refused_line}
use Rattle.listing.specs.Listing.{listed, held_listing, words_listing, listing}
use Rattle.listing.specs.Promises.{answer_text, Tells}

-- Normalise's answer, past its tests
module _ (s : List ℕ) (n : ℕ) (roots result : List ℕ) (work_room : ℕ) where
  end : NormalEnd
  end = answer_of (normalized goldilocks (interleaved s) n roots)

  module _ (good : normalize_check goldilocks (interleaved s) n roots (interleaved result).room work_room ≡ Ok tt) where
    ok : Passed goldilocks s n (roots_from roots) (interleaved result).room work_room
    ok = passed goldilocks s n roots (interleaved result).room work_room good

    fewer : end.dag.count ≤ n
    unfolding end normalized
    fewer = let m = never_more goldilocks.elements (nodes (interleaved s) n) roots in omega (arith, length_nodes (interleaved s) n)

    -- the answered list fits the store that holds it
    may_list : (after : List ℕ) → length after ≡ length result → end.dag.count ≤ (interleaved after).room
    may_list after g = let c = fewer in let q = ok.result_room_lem in rw (same_room after result g) (omega arith)

    words_listed : (after : List ℕ) → after ≡ normalize_result goldilocks (interleaved s) n roots result work_room
        → answer_text (interleaved after) end ≡ words_listing (interleaved s) n roots (interleaved result).room work_room
    unfolding end answer_text words_listing normalize_result
    words_listed after g =
        let a = normalized goldilocks (interleaved s) n roots in
        let held : after ≡ stored result a.list = g ∙ rw good in
        let list_is : nodes (interleaved after) end.dag.count ≡ a.list = ap (λ t. nodes (interleaved t) end.dag.count) held ∙ nodes_stored result a.list in
        ap listed (λ i. record { list = list_is i; roots = roots_from_lem a.roots i; rounds = end.rounds }) ∙ rw good

  -- what it tells
  pub words_told : (after : List ℕ) (r : Result NormalEnd Refusal) → length after ≡ length result → after ≡ normalize_result goldilocks (interleaved s) n roots result work_room
      → r ≡ normalize_answer goldilocks (interleaved s) n roots (interleaved result).room work_room
      → Tells (words_listing (interleaved s) n roots (interleaved result).room work_room) after r
  unfolding end normalize_answer words_listing
  words_told after r h g e = go (normalize_check goldilocks (interleaved s) n roots (interleaved result).room work_room) refl e
    where
      go : (c : Checked) → normalize_check goldilocks (interleaved s) n roots (interleaved result).room work_room ≡ c → r ≡ unless_refused c Err (Ok end)
          → Tells (words_listing (interleaved s) n roots (interleaved result).room work_room) after r
      go (Ok u) f e = rw e (may_list f after h, words_listed f after g)
      go (Err q) f e = rw e (rw f)

-- stores that agree, with room for their lists, have the same listing
agree_listing : (u v : View) (n : ℕ) → n ≤ u.room → n ≤ v.room → Agree u v n → (roots : List ℕ) (result_room work_room : ℕ) → words_listing u n roots result_room work_room ≡ words_listing v n roots result_room work_room
unfolding words_listing normalize_check normalized
agree_listing u v n left right a roots result_room work_room = let h = alike u v n left right a in rw (alike_list u v n h goldilocks.bounds roots, alike_nodes u v n h)

module _ (file list : List ℕ) (h : most_filed ≤ (interleaved list).room) where
  pub file_refused : (r : Refusal) → read_answer file (interleaved list).room ≡ Err r → refused_line r ≡ listing file
  unfolding listing
  file_refused r e = made_refused refused_line held_listing file (interleaved list).room h r e

  module _ (filed : Filed) (e : read_answer file (interleaved list).room ≡ Ok filed) where
    done : Read file (interleaved list).room filed
    done = read_done file (interleaved list).room filed e

    ready : FileContracts.Passed file (interleaved list).room
    ready = file-passed file (interleaved list).room done.good

    module _ (result_room work_room : ℕ) (k : most_filed ≤ result_room) (l : 2 * most_filed ≤ work_room) where
      file_listed : words_listing (file_view file) (file_count file) (file_roots file) result_room work_room ≡ listing file
      unfolding words_listing listing normalize_check held_check
      file_listed =
          let m = ready.form.head.most in
          let n = file_count file in
          rw (← room_enough file (interleaved list).room h, done.good, ready.held_is, enough_room n result_room (omega arith), enough_room (2 * n) work_room (omega arith))

      -- the listing of the store that the file was read into is the file's
      pub file_done : (after : List ℕ) → length after ≡ length list → after ≡ read_list file list → words_listing (interleaved after) filed.count filed.roots.items result_room work_room ≡ listing file
      unfolding file_view
      file_done after g a =
          let left : file_count file ≤ (interleaved after).room = rw (same_room after list g) ready.fits in
          let same : Agree (interleaved after) (file_view file) (file_count file) = rw a (read_agrees file list done.good) in
          rw done.filed_is
          (agree_listing (interleaved after) (file_view file) (file_count file) left (omega arith) same (file_roots file) result_room work_room ∙ file_listed)

-- a store of twice as many words as the longest file's records take
pub work_room_is : (words : List ℕ) → length words ≡ 2 * (record_words * most_filed) → 2 * most_filed ≤ (interleaved words).room
work_room_is words e = words_room words (2 * most_filed) (omega (arith, e))
