use Rattle.std.proofs.Common.{ℕ, ◌≡◌, refl, Err, sym, rules}
use Rattle.std.proofs.lemmas.List.{length-replicate}
use Rattle.house_file.specs.FileLaws.{store_room}
use Rattle.drawing.specs.FileDrawingLaws.{file_refused, file_drawn}
use Rattle.drawing.proofs.draw_list.Goals as goal

pub returns-in_err-filed : goal.returns-in_err-filed
returns-in_err-filed c =
    let refused : c.from_residual.result ≡ Err c.in_err-filed.field-0.0 = search rules in
    rw refused (refl, file_refused _ _ (store_room _ (length-replicate {A = ℕ} _ 0)) _ (sym c.in_err-filed.ensures.answer))

pub returns : goal.returns
returns c =
    let named = c.as_slice.ensures.value in
    file_drawn c.args.file.now _ (store_room _ (length-replicate {A = ℕ} _ 0)) c.in_ok-filed.filed (sym c.in_ok-filed.ensures.answer) c.read_file.new.list c.read_file.auto.list c.in_ok-filed.ensures.list
    c.args.out.now c.draw.new.text c.draw.result c.requires (rw named at c.draw.ensures.text) (rw named at c.draw.ensures.answer)
