use Rattle.std.proofs.Common.{ap}
use Rattle.std.proofs.lemmas.Result.{err_from_is_err_and}
use Rattle.field.specs.Fields.{field_of}
use Rattle.dag.specs.BranchLaws.{told}
use Rattle.dag.specs.Refusals.{outcome}
use Rattle.dag.specs.RootLaws.{root_count}
use Rattle.builder.specs.BuildLaws.{ready, build_refused, build_done}
use Rattle.builder.proofs.build.Goals as goal

pub returns-in_err-dag : goal.returns-in_err-dag
returns-in_err-dag c =
    let p = err_from_is_err_and c.from_residual.result c.from_residual.ensures.1 in
    let refused = told c.build_check.ensures.checked (ap outcome c.in_err-dag.was) in
    let h = build_refused (field_of c.args.prime) _ _ _ _ _ _ (rw c.room.ensures at refused) in
    record { answer = rw (p.1, p.2) h.answer; res = h.list_is; map = h.places_are }

pub of-requires : goal.of-requires
of-requires c =
    let good = told c.build_check.ensures.checked (ap outcome c.in_ok-dag.was) in
    (root_count _ _ (ready (field_of c.args.prime) _ _ _ _ _ good).inside).1

pub build_sized-requires : goal.build_sized-requires
build_sized-requires c =
    let good = told c.build_check.ensures.checked (ap outcome c.in_ok-dag.was) in
    rw (c.of.ensures, c.in_ok-dag.ensures.held.2) (ready (field_of c.args.prime) _ _ _ _ _ (rw c.room.ensures at good))

pub returns : goal.returns
returns c =
    let same = c.in_ok-dag.ensures.held in
    let good = told c.build_check.ensures.checked (ap outcome c.in_ok-dag.was) in
    let done = rw (c.of.ensures, same.0, same.1, same.2) at c.build_sized.ensures in
    let h = build_done (field_of c.args.prime) _ _ _ _ _ _ _ _ (rw c.room.ensures at good) done in
    record { answer = h.answer; res = h.list_is; map = h.places_are }
