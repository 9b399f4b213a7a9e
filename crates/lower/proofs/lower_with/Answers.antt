use Rattle.std.proofs.Common.{ℕ, ◌≡◌, ◌<◌, length, ◌∙◌, ap, subst}
use Rattle.field.specs.Fields.{field_of}
use Rattle.columns.specs.Columns.{log_within}
use Rattle.columns.specs.Held.{columns}
use Rattle.dag.specs.Nodes.{most_records}
use Rattle.dag.specs.View.{interleaved}
use Rattle.periodic.specs.Periodic.{build_periodic_nodes}
use Rattle.periodic.specs.Runs.{held}
use Rattle.lower.specs.Lower.{lowered}
use Rattle.lower.specs.CallLaws.{lowered_is, finished_long, finished_done}
use Rattle.lower.proofs.lower_with.Goals as goal
use Rattle.lower.proofs.lower_with.Goals.{After-build_periodic_nodes}

-- what is run is the definition's
same : (c : After-build_periodic_nodes) → let b = held c.load-builder.result in let a = c.args in let w = a.columns in
    (build_periodic_nodes (field_of b.prime) (columns w) c.log_within-log.result).run b.list ≡ lowered (field_of w.prime) (interleaved a.dag.list.now) a.dag.n w.lengths.now w.entries.now a.period
same c = lowered_is c.args.columns.prime _ _ (interleaved c.args.dag.list.now) c.args.dag.n _ _ c.args.period _
    (c.load-builder.ensures.loaded.prime_is ∙ c.requires.same) c.load-builder.ensures.loaded.list_is (c.log_within-log.ensures.log ∙ ap (λ (k : ℕ). log_within k c.args.period) c.most_log.ensures)

pub returns-in_err-nodes : goal.returns-in_err-nodes
returns-in_err-nodes c =
    let told = c.in_err-nodes.ensures.told in
    finished_long (field_of c.args.columns.prime) _ _ _ _ _ _ _ _ c.from_residual.ensures told.reason
    (subst (λ r. most_records < length r.list) (same (goal.at.returns-in_err-nodes c).After-build_periodic_nodes) told.long)

pub returns : goal.returns
returns c =
    let ran = c.in_ok-nodes.ensures.told.ran in
    let e = same (goal.at.returns c).After-build_periodic_nodes in
    let b = c.build_periodic_nodes.new.builder in
    finished_done (field_of c.args.columns.prime) _ _ _ _ _ _ _ _ b.list.now b.count _ b.few b.sound (ran.list_is ∙ ap (λ r. r.list) e) (c.deref.ensures.0 ∙ (ran.answer_is ∙ ap (λ r. r.answer) e)) _ _ _ c.hand_over.ensures
