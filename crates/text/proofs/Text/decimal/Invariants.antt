-- The invariant: behind the digits of what is left stand those that are cut off.
use Rattle.text.specs.CutLaws.{Cut}
use Rattle.text.proofs.Text.decimal.Given as goal

abbrev pub invariant-loop-rest : goal.invariant-loop-rest
invariant-loop-rest l = Cut l.n l.rest l.at l.digits

abbrev pub decreases-loop-rest : goal.decreases-loop-rest
decreases-loop-rest l = l.rest
