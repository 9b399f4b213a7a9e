use Rattle.field.specs.Fields.{field_of}
use Rattle.dag.specs.View.{interleaved}
use Rattle.dag.specs.Nodes.{nodes}
use Rattle.index.specs.Index.{NodeIndex}
use Rattle.builder.specs.Promises.{SameStores}
use Rattle.normalize.specs.Promises.{RoundHeld}
use Rattle.normalize.proofs.round.Given as goal

abbrev pub invariant-loop-i : goal.invariant-loop-i
invariant-loop-i l = record {
  same : SameStores l.initial.built l.built;
  held : RoundHeld (field_of l.fn.prime) l.round.list.now l.round.n l.round.fan.now l.i l.built.list.now l.map l.built.count l.fired;
  index : NodeIndex (nodes (interleaved l.built.list.now) l.built.count) l.built.index.now.links.now;
}
