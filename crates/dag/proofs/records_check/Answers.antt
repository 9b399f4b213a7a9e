-- `dag::records_check` meets its contract, by the laws of a test at each place.
use Rattle.std.proofs.Common.{refl, arith}
use Rattle.std.proofs.lemmas.Result.{err_from_is_err_and}
use Rattle.field.specs.Fields.{field_of}
use Rattle.dag.specs.View.{interleaved}
use Rattle.dag.specs.Refusals.{first_refused}
use Rattle.dag.specs.Check as Check
use Rattle.dag.specs.BranchLaws.{told}
use Rattle.dag.specs.CheckLaws.{first_next, first_stop}
use Rattle.dag.proofs.records_check.Goals as goal

pub loop-i-init : goal.loop-i-init
unfolding first_refused
loop-i-init c = refl

pub returns-in_err-record_check : goal.returns-in_err-record_check
unfolding Check.check_at
returns-in_err-record_check c =
    let p = err_from_is_err_and c.from_residual.result c.from_residual.ensures.1 in
    rw (p.1, p.2) (first_stop (Check.check_at (field_of c.args.prime).bounds (interleaved c.args.list.now)) _ _ _ c.loop-i.invariant (rw c.words_at.ensures at (told c.record_check.ensures c.in_err-record_check.was)) (omega arith))

pub loop-i-preserved : goal.loop-i-preserved
unfolding Check.check_at
loop-i-preserved c = first_next (Check.check_at (field_of c.args.prime).bounds (interleaved c.args.list.now)) _ c.loop-i.invariant (rw c.words_at.ensures at (told c.record_check.ensures c.in_ok-record_check.was))
