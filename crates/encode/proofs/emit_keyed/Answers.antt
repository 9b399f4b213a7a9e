-- `encode::emit_keyed` meets its contract: the layout's keys are indexed.
use Rattle.std.proofs.Common.{arith}
use Rattle.field.specs.Fields.{field_of}
use Rattle.entries.specs.EntryLaws.{entries_pass}
use Rattle.entries.specs.KeyIndexLaws.{links_room, links_keyed}
use Rattle.encode.proofs.emit_keyed.Goals as goal

pub index-requires : goal.index-requires
index-requires g c = (
  omega arith,
  (
    (entries_pass (field_of c.args.dag.prime).bounds _ _ _ c.requires.passed (omega arith)).0,
    rw c.new-index.ensures.held (links_keyed c.requires.sized _ _),
    rw c.new-index.ensures.held (links_room c.requires.sized),
  ),
)

pub invariant_of-keyed : goal.invariant_of-keyed
invariant_of-keyed g c =
    record {
      lookup = record { lent = (entries_pass (field_of c.args.dag.prime).bounds _ _ _ c.requires.passed (omega arith)).0; keyed = rw c.as_slice.ensures c.index.ensures.keyed };
    }
