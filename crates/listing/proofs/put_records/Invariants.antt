use Rattle.text.specs.Promises.{Wrote}
use Rattle.dag.specs.View.{interleaved}
use Rattle.dag.specs.Nodes as Nodes
use Rattle.listing.specs.Listing as Listing
use Rattle.listing.proofs.put_records.Given as goal

abbrev pub invariant-loop-i : goal.invariant-loop-i
invariant-loop-i l = Wrote l.initial.text (Listing.record_lines (Nodes.nodes (interleaved l.list) l.n) l.i) l.text
