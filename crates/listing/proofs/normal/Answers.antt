use Rattle.std.proofs.Common.{ℕ, ◌≡◌, Err, sym, subst, rules}
use Rattle.std.proofs.lemmas.List.{length-replicate}
use Rattle.listing.specs.CallLaws.{words_told, file_refused, file_done, work_room_is}
use Rattle.house_file.specs.FileLaws.{store_room}
use Rattle.listing.specs.Promises.{Tells}
use Rattle.listing.proofs.normal.Goals as goal

pub returns-in_err-filed : goal.returns-in_err-filed
returns-in_err-filed c =
    let refused : c.from_residual.result ≡ Err c.in_err-filed.field-0.0 = search rules in
    rw refused (file_refused _ _ (store_room _ (length-replicate {A = ℕ} _ 0)) _ (sym c.in_err-filed.ensures.answer))

pub returns : goal.returns
returns c =
    let room = store_room _ (length-replicate {A = ℕ} _ 0) in
    let named = c.as_slice.ensures.value in
    subst (λ text. Tells text c.normalize.new.res c.normalize.result)
    (file_done c.args.file.now _ room c.in_ok-filed.filed (sym c.in_ok-filed.ensures.answer) _ _ (store_room c.args.res.now c.told-res) (work_room_is _ (length-replicate {A = ℕ} _ 0)) c.read_file.new.list c.read_file.auto.list c.in_ok-filed.ensures.list)
    (words_told _ _ _ _ _ _ _ c.normalize.auto.res (rw named at c.normalize.ensures.res) (rw named at c.normalize.ensures.answer))
