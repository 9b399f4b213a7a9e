-- `encode::emit_within` meets its contract: the inputs pass or refuse, and the circuit is filled in.
use Rattle.std.proofs.Common.{ℕ, ap, arith, length}
use Rattle.std.proofs.lemmas.List.{length-replicate}
use Rattle.std.proofs.lemmas.Result.{err_from_is_err_and}
use Rattle.field.specs.Fields.{field_of}
use Rattle.dag.specs.View.{interleaved}
use Rattle.dag.specs.Refusals.{outcome}
use Rattle.dag.specs.BranchLaws.{told}
use Rattle.circuit.specs.declared.AceNode.{AceNode}
use Rattle.circuit.specs.declared.AceNode.TheVariants as Node
use Rattle.encode.specs.Calls.{input_number}
use Rattle.encode.specs.CallLaws.{inputs_refused, result_untouched, answer_refused}
use Rattle.encode.proofs.emit_within.Goals as goal

pub emit_circuit-requires : goal.emit_circuit-requires
unfolding interleaved
emit_circuit-requires g c =
    let z = c.requires.sized in (
      omega (arith, z.table, z.sized.records, length-replicate {A = ℕ} g.row.WORDS 0),
      rw c.new-index.ensures.held (omega (arith, z.sized.double, z.sized.records, length-replicate {A = ℕ} g.row.LINKS 0)),
      omega (arith, z.sized.records, length-replicate {A = AceNode} g.row.RECORDS (Node.Input 0)),
    )

pub returns-in_err-counts-clause-res : goal.returns-in_err-counts-clause-res
unfolding input_number
returns-in_err-counts-clause-res g c =
    let d = c.args.dag in
    let e = told c.emit_circuit.ensures.checked (ap outcome c.in_err-counts.was) in
    result_untouched (field_of d.prime) (interleaved d.list.now) d.n c.args.roots.now c.args.layout.entries.words.now c.args.layout.entries.count c.args.res.now
    (inputs_refused (field_of d.prime) (interleaved d.list.now) d.n c.args.roots.now c.args.layout.entries.words.now c.args.layout.entries.count c.requires.rooted c.requires.passed _ (length c.args.res.now) e)

pub returns-in_err-counts-clause-answer : goal.returns-in_err-counts-clause-answer
unfolding input_number
returns-in_err-counts-clause-answer g c =
    let d = c.args.dag in
    let p = err_from_is_err_and c.from_residual.result c.from_residual.ensures.1 in
    let e = told c.emit_circuit.ensures.checked (ap outcome c.in_err-counts.was) in
    rw (p.1, p.2)
    (answer_refused (field_of d.prime) (interleaved d.list.now) d.n c.args.roots.now c.args.layout.entries.words.now c.args.layout.entries.count (length c.args.res.now)
    (inputs_refused (field_of d.prime) (interleaved d.list.now) d.n c.args.roots.now c.args.layout.entries.words.now c.args.layout.entries.count c.requires.rooted c.requires.passed _ (length c.args.res.now) e))

pub to_ace-requires : goal.to_ace-requires
unfolding input_number
to_ace-requires g c =
    record {
      rooted = c.requires.rooted;
      passed = c.requires.passed;
      placed = told c.emit_circuit.ensures.checked (ap outcome c.in_ok-counts.was);
    }
