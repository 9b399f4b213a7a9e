-- `circuit::AceCircuit::operation` meets its contract: a record's operands come before it, and their nodes are its operation's.
use Rattle.std.proofs.lemmas.Bool.{le-ltb}
use Rattle.dag.specs.declared.NodeKind.{NodeKind}
use Rattle.circuit.specs.Promises.{last_operand}
use Rattle.std.proofs.Common.{ℕ, true, false, lt-ltb, ◌<◌, ◌≤◌, ◌≡◌, sym, ◌∙◌, ap, arith}
use Rattle.field.specs.Fields.{field_of, Low}
use Rattle.dag.specs.View.{interleaved}
use Rattle.dag.specs.Nodes.{tag, first, second, record_at, words_at}
use Rattle.dag.specs.NodeLaws.{at_nodes}
use Rattle.dag.specs.StoreLaws.{tag_word_lem, first_word_lem, second_word_lem}
use Rattle.dag.specs.OperandLaws.{fine}
use Rattle.dag.specs.declared.Dag.{Dag}
use Rattle.dag.specs.declared.Words.{Words}
use Rattle.circuit.specs.Circuit.{is_operation}
use Rattle.circuit.specs.AceCircuits.{listed, placed}
use Rattle.circuit.specs.EmitLaws.{no_operation, the_operation, ends_before}
use Rattle.circuit.proofs.AceCircuit.operation.Goals as goal

-- the words that were read are the record's
module _ (d : Dag) (i : ℕ) (h : i < d.n) {w : Words} (e : w ≡ words_at (interleaved d.list.now) i) where
  abbrev x : NodeKind
  x = record_at (interleaved d.list.now) i

  tag_is : w.tag ≡ tag x
  tag_is = ap (λ w. w.tag) e ∙ sym (tag_word_lem (field_of d.prime).bounds (interleaved d.list.now) d.n d.sound i h)

  first_is : w.first ≡ first x
  first_is = ap (λ w. w.first) e ∙ sym (first_word_lem (field_of d.prime).bounds (interleaved d.list.now) d.n d.sound i h)

  second_is : w.second ≡ second x
  second_is = ap (λ w. w.second) e ∙ sym (second_word_lem (field_of d.prime).bounds (interleaved d.list.now) d.n d.sound i h)

  is_one : 2 ≤ w.tag → is_operation x ≡ true
  unfolding is_operation
  is_one k = lt-ltb 1 (tag x) (omega (arith, k, tag_is))

  is_none : w.tag < 2 → is_operation x ≡ false
  unfolding is_operation
  is_none k = le-ltb 1 (tag x) (omega (arith, k, tag_is))

  before : 2 ≤ w.tag → (w.first < i) × (last_operand w.tag w.first w.second < i)
  before k = rw (tag_is, first_is, second_is) (ends_before (Low (field_of d.prime)) i x (fine (field_of d.prime).bounds (interleaved d.list.now) d.n d.sound i h) (is_one k))

pub returns-then-w-lt-ADD : goal.returns-then-w-lt-ADD
returns-then-w-lt-ADD c =
    let a = c.args.self.now in
    rw (at_nodes (interleaved a.dag.list.now) a.dag.n c.args.i c.requires.0)
    (no_operation (field_of a.dag.prime).elements (placed a) (listed a) (x a.dag c.args.i c.requires.0 c.words_at-w.ensures) (is_none a.dag c.args.i c.requires.0 c.words_at-w.ensures (omega (arith, c.if-w-lt-ADD.true))))

pub node-first-requires : goal.node-first-requires
node-first-requires c =
    let d = c.args.self.now.dag in
    let k = (before d c.args.i c.requires.0 c.words_at-w.ensures (omega (arith, c.if-w-lt-ADD.false))).0 in
    omega (arith, k, c.requires.0)

pub node-requires : goal.node-requires
node-requires c =
    let d = c.args.self.now.dag in
    let k = (before d c.args.i c.requires.0 c.words_at-w.ensures (omega (arith, c.if-w-lt-ADD.false))).1 in
    omega (arith, k, c.last_operand.ensures, c.requires.0)

pub returns : goal.returns
returns c =
    let a = c.args.self.now in
    let e = c.words_at-w.ensures in
    let h = c.requires.0 in
    rw (
      at_nodes (interleaved a.dag.list.now) a.dag.n c.args.i h,
      c.op_of.ensures,
      c.minuend.ensures,
      c.node.ensures,
      c.node-first.ensures,
      c.last_operand.ensures,
      tag_is a.dag c.args.i h e,
      first_is a.dag c.args.i h e,
      second_is a.dag c.args.i h e,
      c.requires.1,
    )
    (the_operation (field_of a.dag.prime).elements (placed a) (listed a) (x a.dag c.args.i h e) (is_one a.dag c.args.i h e (omega (arith, c.if-w-lt-ADD.false))))
