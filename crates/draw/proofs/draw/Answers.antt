use Rattle.std.proofs.Common.{Ok, sym, ◌∙◌, ap}
use Rattle.std.proofs.lemmas.Result.{err_from_is_err_and}
use Rattle.field.specs.Fields.{field_of}
use Rattle.dag.specs.View.{interleaved}
use Rattle.draw.specs.CallLaws.{list_refused, list_untouched, text_refused, text_untouched, drawn_answer, drawn_text}
use Rattle.draw.proofs.draw.Goals as goal

pub returns-in_err-dag-clause-text : goal.returns-in_err-dag-clause-text
returns-in_err-dag-clause-text c = list_untouched (field_of c.args.prime) (interleaved c.args.list.now) c.args.n c.args.roots.now c.args.text.now _ (sym c.in_err-dag.ensures.checked)

pub returns-in_err-dag-clause-answer : goal.returns-in_err-dag-clause-answer
returns-in_err-dag-clause-answer c =
    let p = err_from_is_err_and c.from_residual.result c.from_residual.ensures.1 in
    rw (p.1, p.2) (list_refused (field_of c.args.prime) (interleaved c.args.list.now) c.args.n c.args.roots.now c.args.text.now _ (sym c.in_err-dag.ensures.checked))

pub returns-then-text-drawing_length-clause-text : goal.returns-then-text-drawing_length-clause-text
returns-then-text-drawing_length-clause-text c =
    let same = c.in_ok-dag.ensures.held in
    let counted = rw (same.0, same.1, same.2) at c.drawing_length.ensures in
    text_untouched (field_of c.args.prime) (interleaved c.args.list.now) c.args.n c.args.roots.now c.args.text.now (sym c.in_ok-dag.ensures.checked) (rw counted at c.if-text-drawing_length.true)

pub returns-then-text-drawing_length-clause-answer : goal.returns-then-text-drawing_length-clause-answer
returns-then-text-drawing_length-clause-answer c =
    let same = c.in_ok-dag.ensures.held in
    let counted = rw (same.0, same.1, same.2) at c.drawing_length.ensures in
    text_refused (field_of c.args.prime) (interleaved c.args.list.now) c.args.n c.args.roots.now c.args.text.now (sym c.in_ok-dag.ensures.checked) (rw counted at c.if-text-drawing_length.true)

pub returns-clause-text : goal.returns-clause-text
returns-clause-text c =
    let same = c.in_ok-dag.ensures.held in
    let written = rw (same.0, same.1, same.2) at c.write.ensures in
    written.store_is ∙ drawn_text (field_of c.args.prime) (interleaved c.args.list.now) c.args.n c.args.roots.now c.args.text.now (sym c.in_ok-dag.ensures.checked) written.fits

pub returns-clause-answer : goal.returns-clause-answer
returns-clause-answer c =
    let same = c.in_ok-dag.ensures.held in
    let written = rw (same.0, same.1, same.2) at c.write.ensures in
    ap Ok written.length_is ∙ drawn_answer (field_of c.args.prime) (interleaved c.args.list.now) c.args.n c.args.roots.now c.args.text.now (sym c.in_ok-dag.ensures.checked) written.fits
