use Rattle.std.proofs.Common.{sym, ◌∙◌, ap, arith}
use Rattle.std.proofs.lemmas.Result.{err_from_is_err_and}
use Rattle.field.specs.Fields.{field_of}
use Rattle.dag.specs.View.{interleaved}
use Rattle.dag.specs.Refusals.{outcome}
use Rattle.dag.specs.RootLaws.{root_count}
use Rattle.dag.specs.PassLaws.{rooted}
use Rattle.compact.specs.CallLaws.{tests, answer_refused, result_refused, may_compact, may_blank, answer_done, result_done}
use Rattle.compact.proofs.compact.Goals as goal

pub returns-in_err-dag : goal.returns-in_err-dag
returns-in_err-dag c =
    let p = err_from_is_err_and c.from_residual.result c.from_residual.ensures.1 in
    let bad = rw c.room.ensures at (sym c.compact_check.ensures.checked ∙ ap outcome c.in_err-dag.was) in
    record {
      answer = rw (p.1, p.2) (answer_refused (field_of c.args.prime) (interleaved c.args.list.now) c.args.n c.args.roots.now c.args.res.now _ bad);
      store = result_refused (field_of c.args.prime) (interleaved c.args.list.now) c.args.n c.args.roots.now c.args.res.now _ bad;
    }

pub of-requires : goal.of-requires
of-requires c =
    let good = rw c.room.ensures at (sym c.compact_check.ensures.checked ∙ ap outcome c.in_ok-dag.was) in
    (root_count _ _ (rooted _ _ _ _ (tests (field_of c.args.prime) (interleaved c.args.list.now) c.args.n c.args.roots.now c.args.res.now good).0).inside).1

pub compact_sized-kept-requires : goal.compact_sized-kept-requires
compact_sized-kept-requires c =
    let same = c.in_ok-dag.ensures.held in
    let good = rw c.room.ensures at (sym c.compact_check.ensures.checked ∙ ap outcome c.in_ok-dag.was) in
    let both = may_compact (field_of c.args.prime) (interleaved c.args.list.now) c.args.n c.args.roots.now c.args.res.now good _ c.of.ensures in
    rw (same.1, same.2) (record { inside = both.0; roots_len_bound = both.1 })

pub blank_records-requires : goal.blank_records-requires
blank_records-requires c =
    let same = c.in_ok-dag.ensures.held in
    let good = rw c.room.ensures at (sym c.compact_check.ensures.checked ∙ ap outcome c.in_ok-dag.was) in
    let kept = rw (same.1, same.2) at c.compact_sized-kept.ensures in
    let h = may_blank (field_of c.args.prime) (interleaved c.args.list.now) c.args.n c.args.roots.now c.args.res.now good _ c.of.ensures _ kept.value _ kept.res_after in
    omega arith

pub returns : goal.returns
returns c =
    let same = c.in_ok-dag.ensures.held in
    let good = rw c.room.ensures at (sym c.compact_check.ensures.checked ∙ ap outcome c.in_ok-dag.was) in
    let kept = rw (same.1, same.2) at c.compact_sized-kept.ensures in
    record {
      answer = answer_done (field_of c.args.prime) (interleaved c.args.list.now) c.args.n c.args.roots.now c.args.res.now good _ c.of.ensures _ kept.value;
      store = result_done (field_of c.args.prime) (interleaved c.args.list.now) c.args.n c.args.roots.now c.args.res.now good _ c.of.ensures _ kept.value _ kept.res_after _ c.blank_records.ensures;
    }
