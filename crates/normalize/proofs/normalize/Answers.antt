use Rattle.std.proofs.Common.{sym, ◌∙◌, ap}
use Rattle.std.proofs.lemmas.Result.{err_from_is_err_and}
use Rattle.dag.specs.View.{interleaved}
use Rattle.dag.specs.Refusals.{outcome}
use Rattle.dag.specs.RootLaws.{root_count}
use Rattle.field.specs.Fields.{field_of}
use Rattle.normalize.specs.CallLaws.{passed, normalize_refused, normalize_done}
use Rattle.normalize.proofs.normalize.Goals as goal

pub returns-in_err-dag : goal.returns-in_err-dag
returns-in_err-dag c =
    let p = err_from_is_err_and c.from_residual.result c.from_residual.ensures.1 in
    let bad = rw (c.room.ensures, c.room-2.ensures) at (sym c.normalize_check.ensures.checked ∙ ap outcome c.in_err-dag.was) in
    let h = normalize_refused (field_of c.args.prime) c.args.list.now c.args.n c.args.roots.now c.args.res.now c.args.work.now _ bad in
    record { answer = rw (p.1, p.2) h.answer; res = h.list_is; work = h.work_is }

pub of-requires : goal.of-requires
of-requires c =
    let good = sym c.normalize_check.ensures.checked ∙ ap outcome c.in_ok-dag.was in
    (root_count _ _ (passed (field_of c.args.prime) _ _ _ _ _ good).inside).1

pub normalize_ready-requires : goal.normalize_ready-requires
normalize_ready-requires c =
    let same = c.in_ok-dag.ensures.held in
    let good = rw (c.room.ensures, c.room-2.ensures) at (sym c.normalize_check.ensures.checked ∙ ap outcome c.in_ok-dag.was) in
    let h = passed (field_of c.args.prime) c.args.list.now c.args.n c.args.roots.now (interleaved c.args.res.now).room (interleaved c.args.work.now).room good in
    rw (same.2, c.of.ensures) (h.inside, h.result_room_lem, h.work_room_lem)

pub returns : goal.returns
returns c =
    let same = c.in_ok-dag.ensures.held in
    let good = rw (c.room.ensures, c.room-2.ensures) at (sym c.normalize_check.ensures.checked ∙ ap outcome c.in_ok-dag.was) in
    let done = rw (same.0, same.1, same.2, c.of.ensures) at c.normalize_ready.ensures in
    let h = normalize_done (field_of c.args.prime) c.args.list.now c.args.n c.args.roots.now c.args.res.now c.args.work.now _ _ _ good done in
    record { answer = h.answer; res = h.list_is; work = h.work_is }
