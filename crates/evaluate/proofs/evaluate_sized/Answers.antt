-- `evaluate::evaluate_sized` meets its contract: each size of store is large enough.
use Rattle.std.proofs.Common.{refl, arith}
use Rattle.field.specs.Fields.{field_of}
use Rattle.entries.specs.EntryLaws.{entries_most}
use Rattle.evaluate.proofs.evaluate_sized.Goals as goal

pub evaluate_within-requires-else-most-le-MANY-clause-sized :
    goal.evaluate_within-requires-else-most-le-MANY-clause-sized
evaluate_within-requires-else-most-le-MANY-clause-sized c =
    record {
      double = refl;
      some = omega arith;
      few = omega arith;
      records = c.args.dag.most;
      entries = entries_most (field_of c.args.dag.prime).bounds _ _ _ c.requires.passed;
    }
