use Rattle.std.proofs.lemmas.Result.{err_from_is_err_and}
use Rattle.field.specs.Fields.{field_of}
use Rattle.builder.specs.CallLaws.{step_request, step_refused, step_done}
use Rattle.std.proofs.Common.{sym}
use Rattle.builder.proofs.step.Goals as goal

pub enter-requires : goal.enter-requires
enter-requires c =
    let a = c.args in
    rw c.from.ensures (step_request (field_of a.prime) a.list.now a.n a.words.tag a.words.first a.words.second (sym c.in_ok-step_check.ensures))

pub returns-in_err-step_check : goal.returns-in_err-step_check
returns-in_err-step_check c =
    let a = c.args in
    let h = step_refused (field_of a.prime) a.list.now a.n a.words.tag a.words.first a.words.second _ (sym c.in_err-step_check.ensures) in
    let p = err_from_is_err_and c.from_residual.result c.from_residual.ensures.1 in
    record { answer = rw (p.1, p.2) h.answer; store = h.store }

pub returns : goal.returns
returns c =
    let a = c.args in
    let h = step_done (field_of a.prime) a.list.now a.n a.words.tag a.words.first a.words.second _ _ (sym c.in_ok-step_check.ensures)
    (rw c.from.ensures at c.enter.ensures) in
    record { answer = h.answer; store = h.store }
