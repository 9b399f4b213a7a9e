use Rattle.std.proofs.Common.{ℕ, List, ◌%◌, ◌≡◌, refl, sym, ◌∙◌, arith, length, lt-ltb}
use Rattle.std.proofs.lemmas.Bool.{ne_eqb, eq-eqb}
use Rattle.field.specs.Fields.{field_of}
use Rattle.dag.specs.View.{interleaved}
use Rattle.encode.specs.Calls.{circuit_check, circuit_operations}
use Rattle.encode.specs.CallLaws.{many_operations}
use Rattle.circuit.specs.declared.AceCircuit.{AceCircuit}
use Rattle.encode.proofs.circuit_check.Goals as goal

-- the operations of a circuit are as many as it counts
counted : (a : AceCircuit) (roots : List ℕ) → length (circuit_operations (field_of a.dag.prime) (interleaved a.dag.list.now) a.dag.n roots a.layout.words.now a.layout.count) ≡ a.counts.operations
counted a roots = many_operations (field_of a.dag.prime) (interleaved a.dag.list.now) a.dag.n roots a.layout.words.now a.layout.count ∙ sym a.emitted.operations_are

pub returns-then-none : goal.returns-then-none
unfolding circuit_check
returns-then-none c = rw (counted c.args.circuit c.args.roots.now, c.if-none.true) refl

pub returns-then-not-last : goal.returns-then-not-last
unfolding circuit_check
returns-then-not-last c =
    rw (counted c.args.circuit c.args.roots.now, lt-ltb 0 c.args.circuit.counts.operations (omega (arith, c.if-none.false)), ← c.root_is_last-last.ensures, c.if-not-last.true) refl

pub returns-then-circuit-ne0 : goal.returns-then-circuit-ne0
unfolding circuit_check
returns-then-circuit-ne0 c =
    rw (counted c.args.circuit c.args.roots.now, lt-ltb 0 c.args.circuit.counts.operations (omega (arith, c.if-none.false)), ← c.root_is_last-last.ensures, c.if-not-last.false, ne_eqb (c.args.circuit.layout.count % 2) 0 c.if-circuit-ne0.true) refl

pub returns : goal.returns
unfolding circuit_check
returns c =
    rw (counted c.args.circuit c.args.roots.now, lt-ltb 0 c.args.circuit.counts.operations (omega (arith, c.if-none.false)), ← c.root_is_last-last.ensures, c.if-not-last.false, eq-eqb (c.args.circuit.layout.count % 2) 0 c.if-circuit-ne0.false) refl
