use Rattle.std.proofs.Common.{refl, ◌∙◌}
use Rattle.builder.specs.Steps.{is_constant, element}
use Rattle.field.specs.Field.{elements}
use Rattle.entries.specs.Entries.{entry_of}
use Rattle.circuit.specs.Circuit.{layout_words}
use Rattle.circuit.specs.Promises.{held}
use Rattle.circuit.specs.EmitLaws.{neither, operation_uses, operation_answer}
use Rattle.circuit.proofs.node_of.Goals as goal

pub returns-in_default : goal.returns-in_default
returns-in_default c =
    let op = neither c.args.x c.in_default.not-Input c.in_default.not-Constant in
    let e = c.args.layout.entries in
    record {
      same = c.use_zero.ensures.same;
      constants = c.use_zero.ensures.constants ∙ operation_uses (elements c.args.constants.now.prime) (held c.args.constants.now) c.args.x op;
      node = operation_answer (entry_of layout_words e.words.now e.count) (held c.args.constants.now) c.args.operations c.args.x op;
      table = c.use_zero.ensures.table;
    }

pub use_constant-requires-clause-low : goal.use_constant-requires-clause-low
unfolding is_constant element
use_constant-requires-clause-low c = (rw c.in-Constant.is at c.requires.low) refl
