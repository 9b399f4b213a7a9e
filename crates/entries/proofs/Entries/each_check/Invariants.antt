-- The invariant: the entries before entry i pass.
use Rattle.std.proofs.Common.{◌≡◌, Ok}
use Rattle.field.specs.Fields.{field_of}
use Rattle.dag.specs.Refusals.{first_refused}
use Rattle.entries.specs.Entries.{entry_check}
use Rattle.entries.proofs.Entries.each_check.Given as goal

abbrev pub invariant-loop-i : goal.invariant-loop-i
invariant-loop-i g l = first_refused (entry_check (field_of l.prime).bounds g.row.WIDTH l.self.words.now) l.i ≡ Ok tt
