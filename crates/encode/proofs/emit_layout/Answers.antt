use Rattle.std.proofs.Common.{arith}
use Rattle.field.specs.Fields.{field_of}
use Rattle.entries.specs.EntryLaws.{entries_most}
use Rattle.encode.proofs.emit_layout.Goals as goal

pub emit_keyed-requires-else-layout-le-MANY-clause-sized : goal.emit_keyed-requires-else-layout-le-MANY-clause-sized
emit_keyed-requires-else-layout-le-MANY-clause-sized c =
    record {
      double = omega arith;
      some = omega arith;
      few = omega arith;
      records = omega arith;
      entries = entries_most (field_of c.args.dag.prime).bounds _ _ _ c.requires.passed;
    }
