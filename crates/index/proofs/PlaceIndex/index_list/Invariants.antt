-- The invariant: the index holds the records before place i.
use Rattle.dag.specs.View.{interleaved}
use Rattle.dag.specs.Nodes as Nodes
use Rattle.index.specs.Index as Index
use Rattle.index.specs.Promises.{SameLinks}
use Rattle.index.proofs.PlaceIndex.index_list.Given as goal

abbrev pub invariant-loop-i : goal.invariant-loop-i
invariant-loop-i l = record {
  same : SameLinks l.initial.self l.self;
  indexed : Index.NodeIndex (Nodes.nodes (interleaved l.list) l.i) l.self.links.now;
}
