-- `house_file::read_file` meets its contract: the tests first, then the file.
use Rattle.std.proofs.lemmas.Result.{err_from_is_err_and}
use Rattle.dag.specs.View.{interleaved}
use Rattle.dag.specs.BranchLaws.{told}
use Rattle.house_file.specs.FileLaws.{fits, told_refused, told_done}
use Rattle.house_file.proofs.read_file.Goals as goal

pub read_held-requires : goal.read_held-requires
read_held-requires c = fits c.args.file.now (interleaved c.args.list.now).room (rw c.room.ensures at (told c.store_check.ensures c.in_ok-store_check.was))

pub returns-in_err-store_check : goal.returns-in_err-store_check
returns-in_err-store_check c =
    let p = err_from_is_err_and c.from_residual.result c.from_residual.ensures.1 in
    let h = told_refused c.args.file.now c.args.list.now _ (rw c.room.ensures at (told c.store_check.ensures c.in_err-store_check.was)) in
    record { answer = rw (p.1, p.2) h.answer; list = h.list_is }

pub returns : goal.returns
returns c =
    let h = told_done c.args.file.now c.args.list.now _ _ (rw c.room.ensures at (told c.store_check.ensures c.in_ok-store_check.was)) c.read_held.ensures in
    record { answer = h.answer; list = h.list_is }
