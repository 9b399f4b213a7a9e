-- The invariant: the records before place i pass.
use Rattle.std.proofs.Common.{◌≡◌, Ok}
use Rattle.field.specs.Fields.{field_of}
use Rattle.dag.specs.View.{interleaved}
use Rattle.dag.specs.Check as Check
use Rattle.dag.proofs.records_check.Given as goal

abbrev pub invariant-loop-i : goal.invariant-loop-i
invariant-loop-i l = Check.records_check (field_of l.prime).bounds (interleaved l.list) l.i ≡ Ok tt
