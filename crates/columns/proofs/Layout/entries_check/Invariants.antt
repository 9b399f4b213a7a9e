-- The invariant: the columns before place j are good.
use Rattle.std.proofs.Common.{◌≡◌, Ok}
use Rattle.dag.specs.Refusals.{first_refused}
use Rattle.field.specs.Field.{modulus_of}
use Rattle.columns.specs.Prepare as Prepare
use Rattle.columns.proofs.Layout.entries_check.Given as goal

abbrev pub invariant-loop-j : goal.invariant-loop-j
invariant-loop-j l = first_refused (Prepare.entries_check (modulus_of l.prime) (Prepare.columns l.self.lengths.now l.self.entries.now)) l.j ≡ Ok tt
