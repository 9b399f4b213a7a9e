use Rattle.std.proofs.Common.{ℕ, Option, refl, sym, ◌∙◌, ap, arith, length}
use Rattle.std.proofs.lemmas.Result.{err_from_is_err_and}
use Rattle.field.specs.Fields.{field_of}
use Rattle.field.specs.Field.{elements}
use Rattle.dag.specs.View.{interleaved}
use Rattle.dag.specs.ViewLaws.{same_room}
use Rattle.dag.specs.Nodes.{nodes}
use Rattle.dag.specs.NodeLaws.{length_nodes}
use Rattle.dag.specs.Refusals.{first_refused}
use Rattle.entries.specs.Entries.{inputs_check, entry_of}
use Rattle.entries.specs.declared.KeyedEntries.{KeyedEntries}
use Rattle.circuit.specs.Promises.{held}
use Rattle.entries.specs.EntryLaws.{no_entry, an_entry}
use Rattle.builder.specs.OutcomeLaws.{at_below}
use Rattle.builder.specs.HoldLaws.{same_stores, same_still}
use Rattle.circuit.specs.Circuit.{layout_words, constants, operation_count}
use Rattle.dag.specs.BranchLaws.{told, none_of, some_of}
use Rattle.circuit.specs.CircuitLaws.{operation_count_few}
use Rattle.circuit.specs.EmitLaws.{no_zero, zero_next, turn_few, turn_is, turn_node, turn_counted, turn_constants, nodes_more, no_node, some_node, empty_table}
use Rattle.circuit.proofs.emit_circuit.Goals as goal

-- where a layout has a key
abbrev find_of : KeyedEntries layout_words → ℕ → Option ℕ
find_of layout = entry_of layout_words layout.entries.words.now layout.entries.count

pub loop-i-init : goal.loop-i-init
unfolding constants operation_count inputs_check first_refused nodes
loop-i-init c =
    let e = c.new-constants.ensures.empty in
    record {
      same = same_stores _;
      table = empty_table _ e;
      constants_are = rw e.none refl;
      zero_stands = no_zero (elements c.args.dag.prime) _;
      operations_are = refl;
      nodes_are = λ j h. absurd (omega arith);
      passed = refl;
    }

pub node_of-node-requires-clause-low : goal.node_of-node-requires-clause-low
node_of-node-requires-clause-low c =
    let v = c.loop-i.invariant in
    rw (v.same.prime, c.new-constants.ensures.empty.prime_is)
    (at_below (field_of c.args.dag.prime) (interleaved c.args.dag.list.now) c.args.dag.n c.args.dag.sound c.loop-i.i c.node-x.result (omega arith) c.node-x.ensures)

pub node_of-node-requires-clause-zero : goal.node_of-node-requires-clause-zero
node_of-node-requires-clause-zero c =
    let v = c.loop-i.invariant in
    rw (v.same.prime, c.new-constants.ensures.empty.prime_is, v.constants_are) v.zero_stands

pub node_of-node-requires-clause-room : goal.node_of-node-requires-clause-room
node_of-node-requires-clause-room c =
    let v = c.loop-i.invariant in
    let e = c.new-constants.ensures.empty in
    let few = turn_few (elements c.args.dag.prime) (nodes (interleaved c.args.dag.list.now) c.args.dag.n) c.loop-i.constants c.loop-i.i v.constants_are in
    record {
      records = rw (same_room c.loop-i.constants.list.now c.args.table.now (v.same.list_words ∙ ap length e.list_is)) (omega (arith, few, c.requires.0));
      links = omega (arith, few, c.requires.1, v.same.link_words, c.new-constants.ensures.same_links.words);
    }

pub returns-in_err-nodes-clause-checked : goal.returns-in_err-nodes-clause-checked
returns-in_err-nodes-clause-checked c =
    let v = c.loop-i.invariant in
    let p = err_from_is_err_and c.from_residual.result c.from_residual.ensures.1 in
    let q = none_of c.in_err-nodes.ensures.value in
    rw (p.1, p.2, q.1)
    (no_entry _ (interleaved c.args.dag.list.now) c.args.dag.n _ _ (omega arith) v.passed c.node-x.ensures
    (no_node (find_of c.args.layout) (held c.loop-i.constants) c.loop-i.operations c.node-x.result (sym (told c.node_of-node.ensures.node q.0))))

pub counted-operations-requires : goal.counted-operations-requires
counted-operations-requires c =
    let v = c.loop-i.invariant in
    omega (arith, v.operations_are, operation_count_few (nodes (interleaved c.args.dag.list.now) c.args.dag.n) c.loop-i.i, c.args.dag.most)

pub loop-i-preserved : goal.loop-i-preserved
loop-i-preserved c =
    let v = c.loop-i.invariant in
    let d = c.args.dag in
    let a = c.node_of-node.ensures in
    let l = nodes (interleaved d.list.now) d.n in
    let prime = v.same.prime ∙ c.new-constants.ensures.empty.prime_is in
    let x_is = turn_is (interleaved d.list.now) d.n _ (omega arith) c.node-x.ensures in
    let some = some_of _ c.in_ok-nodes.ensures.value ∙ rw (v.constants_are, v.operations_are) at a.node in
    record {
      same = same_still _ _ _ v.same a.same;
      table = a.table;
      constants_are = turn_constants (elements d.prime) l _ x_is v.constants_are (rw prime at a.constants);
      zero_stands = rw c.is_neg.ensures (zero_next (elements d.prime) l _ x_is c.loop-i.zero v.zero_stands);
      operations_are = turn_counted l _ x_is v.operations_are c.counted-operations.ensures;
      nodes_are = nodes_more (field_of d.prime) _ _ _ _ _ _ _ v.nodes_are (omega (arith, c.requires.2, c.loop-i.auto.nodes)) (turn_node (field_of d.prime) _ l _ (omega (arith, length_nodes (interleaved d.list.now) d.n)) x_is some);
      passed = an_entry _ (interleaved d.list.now) d.n _ _ (omega arith) v.passed c.node-x.ensures (some_node (find_of c.args.layout) (constants (elements d.prime) l c.loop-i.i) (operation_count l c.loop-i.i) c.node-x.result c.in_ok-nodes.field-0 some);
    }
