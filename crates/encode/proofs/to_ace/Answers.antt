use Rattle.std.proofs.Common.{◌∙◌, arith, length}
use Rattle.std.proofs.lemmas.Result.{err_from_is_err_and}
use Rattle.dag.specs.BranchLaws.{told}
use Rattle.encode.specs.EmitLaws.{fits, fitting, refused, short, given}
use Rattle.encode.proofs.to_ace.Goals as goal

pub returns-in_err-circuit_check-clause-res : goal.returns-in_err-circuit_check-clause-res
returns-in_err-circuit_check-clause-res c =
    (refused c.args.circuit c.args.roots.now c.args.res.now c.requires (told c.circuit_check.ensures c.in_err-circuit_check.was)).0

pub returns-in_err-circuit_check-clause-answer : goal.returns-in_err-circuit_check-clause-answer
returns-in_err-circuit_check-clause-answer c =
    let p = err_from_is_err_and c.from_residual.result c.from_residual.ensures.1 in
    rw (p.1, p.2) (refused c.args.circuit c.args.roots.now c.args.res.now c.requires (told c.circuit_check.ensures c.in_err-circuit_check.was)).1

pub from_counts-geometry-requires : goal.from_counts-geometry-requires
from_counts-geometry-requires c = fits c.args.circuit c.args.roots.now c.requires

pub returns-then-res-words-clause-res : goal.returns-then-res-words-clause-res
returns-then-res-words-clause-res c =
    (short c.args.circuit c.args.roots.now c.from_counts-geometry.ensures.counts c.requires (told c.circuit_check.ensures c.in_ok-circuit_check.was) c.args.res.now c.if-res-words.true).0

pub returns-then-res-words-clause-answer : goal.returns-then-res-words-clause-answer
returns-then-res-words-clause-answer c =
    (short c.args.circuit c.args.roots.now c.from_counts-geometry.ensures.counts c.requires (told c.circuit_check.ensures c.in_ok-circuit_check.was) c.args.res.now c.if-res-words.true).1

pub put_instructions-requires-clause-counts : goal.put_instructions-requires-clause-counts
put_instructions-requires-clause-counts c =
    fitting c.args.circuit c.args.roots.now c.from_counts-geometry.ensures.counts (told c.circuit_check.ensures c.in_ok-circuit_check.was) (length c.args.res.now) (omega (arith, c.if-res-words.false))

pub returns-clause-res : goal.returns-clause-res
returns-clause-res c =
    c.put_instructions.ensures ∙ (given c.args.circuit c.args.roots.now c.from_counts-geometry.ensures.counts c.requires (told c.circuit_check.ensures c.in_ok-circuit_check.was) c.args.res.now (omega (arith, c.if-res-words.false))).0

pub returns-clause-answer : goal.returns-clause-answer
returns-clause-answer c =
    (given c.args.circuit c.args.roots.now c.from_counts-geometry.ensures.counts c.requires (told c.circuit_check.ensures c.in_ok-circuit_check.was) c.args.res.now (omega (arith, c.if-res-words.false))).1
