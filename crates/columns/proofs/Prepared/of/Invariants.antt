-- The invariant: the forms so far are answered.
use Rattle.std.proofs.Common.{◌≡◌, take}
use Rattle.columns.proofs.Prepared.of.Given as goal

abbrev pub invariant-loop-form : goal.invariant-loop-form
invariant-loop-form l = l.prepared ≡ take l.form-index l.forms
