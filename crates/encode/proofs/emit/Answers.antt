use Rattle.std.proofs.Common.{sym, length}
use Rattle.std.proofs.lemmas.Result.{err_from_is_err_and}
use Rattle.field.specs.Fields.{field_of}
use Rattle.dag.specs.View.{interleaved}
use Rattle.dag.specs.BranchLaws.{told}
use Rattle.encode.specs.CallLaws.{list_refused, entries_refused, result_untouched, answer_refused}
use Rattle.encode.proofs.emit.Goals as goal

pub returns-in_err-dag-clause-res : goal.returns-in_err-dag-clause-res
returns-in_err-dag-clause-res c =
    let field = field_of c.args.prime in
    let s = interleaved c.args.list.now in
    result_untouched field s c.args.n c.args.roots.now c.args.layout.now c.args.k c.args.res.now (list_refused field s c.args.n c.args.roots.now c.args.layout.now c.args.k _ (length c.args.res.now) (sym c.in_err-dag.ensures.checked))

pub returns-in_err-dag-clause-answer : goal.returns-in_err-dag-clause-answer
returns-in_err-dag-clause-answer c =
    let field = field_of c.args.prime in
    let s = interleaved c.args.list.now in
    let p = err_from_is_err_and c.from_residual.result c.from_residual.ensures.1 in
    rw (p.1, p.2) (answer_refused field s c.args.n c.args.roots.now c.args.layout.now c.args.k (length c.args.res.now) (list_refused field s c.args.n c.args.roots.now c.args.layout.now c.args.k _ (length c.args.res.now) (sym c.in_err-dag.ensures.checked)))

pub returns-in_err-check-clause-res : goal.returns-in_err-check-clause-res
returns-in_err-check-clause-res c =
    let field = field_of c.args.prime in
    let s = interleaved c.args.list.now in
    let e = told c.check.ensures c.in_err-check.was in
    result_untouched field s c.args.n c.args.roots.now c.args.layout.now c.args.k c.args.res.now (entries_refused field s c.args.n c.args.roots.now c.args.layout.now c.args.k (sym c.in_ok-dag.ensures.checked) _ (length c.args.res.now) e)

pub returns-in_err-check-clause-answer : goal.returns-in_err-check-clause-answer
returns-in_err-check-clause-answer c =
    let field = field_of c.args.prime in
    let s = interleaved c.args.list.now in
    let p = err_from_is_err_and c.from_residual-in_err-check.result c.from_residual-in_err-check.ensures.1 in
    let e = told c.check.ensures c.in_err-check.was in
    rw (p.1, p.2) (answer_refused field s c.args.n c.args.roots.now c.args.layout.now c.args.k (length c.args.res.now) (entries_refused field s c.args.n c.args.roots.now c.args.layout.now c.args.k (sym c.in_ok-dag.ensures.checked) _ (length c.args.res.now) e))
