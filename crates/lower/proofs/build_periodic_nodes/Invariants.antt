-- The invariant: the nodes of the columns before j.
use Rattle.std.proofs.Common.{[]}
use Rattle.periodic.specs.Builder as Builder
use Rattle.periodic.specs.Periodic as Periodic
use Rattle.periodic.specs.Runs as Runs
use Rattle.columns.specs.Prepare as Prepare
use Rattle.lower.proofs.build_periodic_nodes.Given as goal

abbrev pub invariant-loop-j : goal.invariant-loop-j
invariant-loop-j l =
    let c = l.columns in
    Runs.Listed (Runs.held l.initial.builder) (λ field. Builder.turns (λ j ps. Builder.also ps (Periodic.column_node field (Prepare.columns c.lengths.now c.entries.now) l.log j)) l.j []) (Runs.held l.builder) l.j l.nodes.items
