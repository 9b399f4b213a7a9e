-- `house_file::read_held` meets its contract, by what its list check says.
use Rattle.std.proofs.Common.{ℕ, arith}
use Rattle.std.proofs.lemmas.List.{length-replicate}
use Rattle.std.proofs.lemmas.Result.{err_from_is_err_and}
use Rattle.house_file.specs.FileLaws.{filed_room, done_refused, done_good}
use Rattle.house_file.proofs.read_held.Goals as goal

pub put_records-requires : goal.put_records-requires
put_records-requires c =
    let form = c.requires.0 in
    let counted = c.file_count-count.ensures in
    (omega (arith, form.whole, counted), filed_room _ _ (length-replicate {A = ℕ} _ 0) (omega (arith, form.head.most, counted)))

pub store_records-requires : goal.store_records-requires
store_records-requires c =
    let counted = c.file_count-count.ensures in
    (filed_room _ _ c.put_records.auto.list (omega (arith, c.requires.0.head.most, counted)), omega (arith, c.requires.1, counted))

pub returns-in_err-list_check : goal.returns-in_err-list_check
returns-in_err-list_check c =
    let counted = c.file_count-count.ensures in
    let room = filed_room _ c.file_count-count.result c.put_records.auto.list (omega (arith, c.requires.0.head.most, counted)) in
    let p = err_from_is_err_and c.from_residual.result c.from_residual.ensures.1 in
    rw (p.1, p.2)
    (done_refused c.args.file.now c.args.list.now _ _ _ counted c.file_roots-roots.ensures room c.put_records.ensures _
    (rw c.as_slice.ensures.value at c.list_check.ensures) _ c.in_err-list_check.was)

pub returns : goal.returns
returns c =
    let counted = c.file_count-count.ensures in
    let room = filed_room _ c.file_count-count.result c.put_records.auto.list (omega (arith, c.requires.0.head.most, counted)) in
    done_good c.args.file.now c.args.list.now _ _ _ counted c.file_roots-roots.ensures room c.put_records.ensures _
    (rw c.as_slice.ensures.value at c.list_check.ensures) _ c.in_ok-list_check.was c.store_records.ensures
