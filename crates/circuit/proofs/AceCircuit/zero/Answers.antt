use Rattle.std.proofs.Common.{◌≡◌, refl, sym, ◌∙◌, ap}
use Rattle.field.specs.Fields.{field_of}
use Rattle.field.specs.Field.{elements}
use Rattle.dag.specs.View.{interleaved}
use Rattle.dag.specs.Nodes.{nodes}
use Rattle.dag.specs.NodeLaws.{length_nodes}
use Rattle.circuit.specs.Circuit.{constants, constants_of, constant_node}
use Rattle.circuit.specs.AceCircuits.{listed, placed}
use Rattle.circuit.proofs.AceCircuit.zero.Goals as goal

pub returns : goal.returns
unfolding constant_node constants_of elements
returns c =
    let a = c.args.self.now in
    let F = (field_of a.dag.prime).elements in
    let all : constants_of F (placed a) (listed a) ≡ nodes (interleaved a.constants.now) a.counts.constants =
    ap (constants F (listed a)) (length_nodes (interleaved a.dag.list.now) a.dag.n) ∙ sym a.emitted.constants_are in
    rw (all, length_nodes (interleaved a.constants.now) a.counts.constants, c.unwrap_or.ensures, c.lookup-place.ensures) refl
