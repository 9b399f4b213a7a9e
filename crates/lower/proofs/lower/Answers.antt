use Rattle.std.proofs.Common.{sym, ◌∙◌}
use Rattle.std.proofs.lemmas.Result.{err_from_is_err_and}
use Rattle.field.specs.Fields.{field_of}
use Rattle.lower.specs.CallLaws.{ready, columns_left, list_refused, lower_refused, lower_done}
use Rattle.lower.proofs.lower.Goals as goal

pub returns-in_err-dag : goal.returns-in_err-dag
returns-in_err-dag c =
    let p = err_from_is_err_and c.from_residual.result c.from_residual.ensures.1 in
    let refused = list_refused (field_of c.args.prime) _ _ _ _ _ _ _ (sym c.in_err-dag.ensures.checked) in
    let d = lower_refused (field_of c.args.prime) _ _ _ _ _ _ _ _ _ refused in
    record { answer = rw (p.1, p.2) d.answer; res = d.result_is; work = d.work_is; places = d.places_are }

pub lower_ready-requires-clause-ready : goal.lower_ready-requires-clause-ready
lower_ready-requires-clause-ready c =
    let same = c.in_ok-columns.ensures.columns in
    rw (same.0, same.1, same.2) (ready (field_of c.args.prime) _ _ _ _ _ (sym c.in_ok-columns.ensures.checked))

pub returns-in_err-columns : goal.returns-in_err-columns
returns-in_err-columns c =
    let p = err_from_is_err_and c.from_residual-in_err-columns.result c.from_residual-in_err-columns.ensures.1 in
    let left = columns_left (field_of c.args.prime) _ _ _ _ _ _ _ (sym c.in_ok-dag.ensures.checked) in
    let refused = left ∙ sym c.in_err-columns.ensures.checked in
    let d = lower_refused (field_of c.args.prime) _ _ _ _ _ _ _ _ _ (rw c.room.ensures at refused) in
    record { answer = rw (p.1, p.2) d.answer; res = d.result_is; work = d.work_is; places = d.places_are }

pub returns : goal.returns
returns c =
    let held = c.in_ok-dag.ensures.held in
    let same = c.in_ok-columns.ensures.columns in
    let left = columns_left (field_of c.args.prime) _ _ _ _ _ _ _ (sym c.in_ok-dag.ensures.checked) in
    let good = left ∙ sym c.in_ok-columns.ensures.checked in
    let done = rw (same.0, same.1, same.2, held.1, held.2) at c.lower_ready.ensures.0 in
    let d = lower_done (field_of c.args.prime) _ _ _ _ _ _ _ _ _ _ _ _ (rw c.room.ensures at good) done c.lower_ready.ensures.1 in
    record { answer = d.answer; res = d.result_is; work = d.work_is; places = d.places_are }
