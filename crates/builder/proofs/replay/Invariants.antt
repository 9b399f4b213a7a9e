use Rattle.dag.specs.View.{interleaved}
use Rattle.dag.specs.Nodes.{nodes}
use Rattle.index.specs.Index.{NodeIndex}
use Rattle.field.specs.Fields.{field_of}
use Rattle.field.specs.Field.{elements}
use Rattle.builder.specs.Steps as Steps
use Rattle.builder.specs.Promises.{Holds, SameStores}
use Rattle.builder.proofs.replay.Given as goal

abbrev pub invariant-loop-i : goal.invariant-loop-i
invariant-loop-i l = record {
  same : SameStores l.initial.builder l.builder;
  holds : Holds (field_of l.fn.dag.prime) (Steps.replay (elements l.fn.dag.prime) (nodes (interleaved l.fn.dag.list.now) l.fn.dag.n) l.i) l.i l.builder.list.now l.map l.builder.count;
  index : NodeIndex (nodes (interleaved l.builder.list.now) l.builder.count) l.builder.index.now.links.now;
}
