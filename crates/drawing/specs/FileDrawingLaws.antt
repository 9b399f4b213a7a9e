-- From what the calls answer to the drawing of the definition, and how long it is at most.
use Rattle.std.specs.Prelude.{ℕ, ◌≤◌, List, ◌≡◌, Result, Ok, Err, get_or, length, take}
use Rattle.std.proofs.Common.{sym, ◌∙◌, ap, arith}
use Rattle.field.specs.Fields.{goldilocks, modulus}
use Rattle.field.specs.declared.Prime.TheVariants.{Goldilocks}
use Rattle.dag.specs.View.{interleaved, Agree}
use Rattle.dag.specs.ViewLaws.{same_room, alike, alike_nodes, alike_list}
use Rattle.dag.specs.Check.{list_check}
use Rattle.dag.specs.PassLaws.{rooted}
use Rattle.dag.specs.CheckLaws.{then_good}
use Rattle.dag.specs.declared.Refusal.{Refusal}
use Rattle.text.specs.Text.{laid}
use Rattle.text.specs.Promises.{Laid, Writes}
use Rattle.wording.specs.Refused.{refused_line}
use Rattle.wording.specs.RefusedLaws.{refused_most}
use Rattle.house_file.specs.File.{most_filed, most_named, enough, file_count, file_roots, file_view, form_check, held_check, file_check, read_answer, read_list}
use Rattle.house_file.specs.declared.Filed.{Filed}
use Rattle.house_file.specs.FileLaws as FileLaws
use Rattle.house_file.specs.CutLaws.{of_input}
use Rattle.house_file.specs.NearLaws.{made_most}
use Rattle.draw.specs.Drawing.{drawing}
use Rattle.draw.specs.Calls.{drawn, draw_answer, draw_text}
use Rattle.draw.specs.CallLaws.{drawn_answer, drawn_text}
use Rattle.draw.specs.SizeLaws.{drawn_most}
use Rattle.drawing.specs.FileDrawing.{held_drawing, file_drawing, most_bytes}
use Rattle.drawing.specs.Promises.{Tells}

module _ (file list : List ℕ) (h : most_filed ≤ (interleaved list).room) where
  pub file_refused : (r : Refusal) → read_answer file (interleaved list).room ≡ Err r → refused_line r ≡ file_drawing file
  unfolding file_drawing
  file_refused r e = FileLaws.made_refused refused_line held_drawing file (interleaved list).room h r e

  -- the store that a file was read into
  module _ (f : Filed) (e : read_answer file (interleaved list).room ≡ Ok f) (after : List ℕ) (g : length after ≡ length list) (a : after ≡ read_list file list) where
    done : FileLaws.Read file (interleaved list).room f
    done = FileLaws.read_done file (interleaved list).room f e

    room : file_count file ≤ (interleaved after).room
    room = rw (same_room after list g) (FileLaws.passed file (interleaved list).room done.good).fits

    same : Agree (interleaved after) (file_view file) (file_count file)
    same = rw a (FileLaws.read_agrees file list done.good)

    passes : list_check goldilocks.bounds (interleaved after) f.count f.roots.items ≡ Ok tt
    unfolding file_view held_check
    passes =
        rw done.filed_is
        (alike_list (interleaved after) (file_view file) (file_count file) (alike (interleaved after) (file_view file) (file_count file) room (omega arith) same) goldilocks.bounds (file_roots file)
        ∙ (FileLaws.passed file (interleaved list).room done.good).held_is)

    is_drawn : drawn goldilocks (interleaved after) f.count ≡ file_drawing file
    unfolding file_view file_drawing drawn
    is_drawn =
        let m = modulus goldilocks in
        let like = alike (interleaved after) (file_view file) (file_count file) room (omega arith) same in
        rw done.filed_is
        (ap (drawing m) (alike_nodes (interleaved after) (file_view file) (file_count file) like)
        ∙ FileLaws.made_good refused_line held_drawing file (interleaved list).room h done.good)

    pub file_drawn : (before text : List ℕ) (r : Result ℕ Refusal) → length (file_drawing file) ≤ length before → text ≡ draw_text goldilocks (interleaved after) f.count f.roots.items before
        → r ≡ draw_answer goldilocks (interleaved after) f.count f.roots.items (length before) → Tells (file_drawing file) before text r
    file_drawn before text r fits t q =
        let enough : length (drawn goldilocks (interleaved after) f.count) ≤ length before = rw is_drawn fits in
        let answer = q ∙ sym (drawn_answer goldilocks (interleaved after) f.count f.roots.items before passes enough) in
        rw answer
        (record {
          store_is = t ∙ (sym (drawn_text goldilocks (interleaved after) f.count f.roots.items before passes enough) ∙ ap (laid (length before)) is_drawn);
          length_is = ap length is_drawn;
          fits = fits;
        })

-- what is written of the bytes that were read is the input's drawing
pub draws : (buffer : List ℕ) (n : ℕ) {before after : List ℕ} {r : ℕ} → enough ≤ length buffer → get_or buffer 5 0 ≤ most_named → Laid before (file_drawing (take n buffer)) after r
    → Writes file_drawing buffer n before after r
unfolding file_drawing
draws buffer n h b l input read = rw (of_input refused_line held_drawing buffer n h b input read) l

-- no drawing of a house file is longer
pub drawing_most : (file : List ℕ) → length (file_drawing file) ≤ most_bytes
unfolding file_drawing file_check held_check
drawing_most =
    made_most refused_line held_drawing most_bytes (λ r h k. omega (arith, refused_most r (omega arith) (omega arith)))
    (λ file e.
    let both = then_good (form_check file) (held_check file) e in
    let few = (FileLaws.formed file both.0).head.most in
    let sound = (rooted goldilocks.bounds (file_view file) (file_count file) (file_roots file) both.1).list.sound in
    omega (arith, drawn_most Goldilocks (file_view file) (file_count file) sound (omega arith)))
