use Rattle.std.proofs.Common.{arith}
use Rattle.encode.proofs.emit_sized.Goals as goal

pub emit_within-requires-else-dag-le-MANY-clause-sized : goal.emit_within-requires-else-dag-le-MANY-clause-sized
emit_within-requires-else-dag-le-MANY-clause-sized c =
    record {
      sized = record {
        double = omega arith;
        some = omega arith;
        few = omega arith;
        records = c.args.dag.most;
        entries = omega arith;
      };
      table = omega arith;
    }
