use native.Mathlib.Omega.{arith}
use Rattle.field.specs.Field.{modulus_of}
use Rattle.columns.specs.ClassLaws.{below_at}
use Rattle.periodic.specs.Periodic as Periodic
use Rattle.periodic.specs.RunLaws.{list_none, list_next, list_long, list_all, none_inside, below_later, refused_list}
use Rattle.periodic.proofs.PeriodicBuilder.constants.Goals as goal

pub loop-number-init : goal.loop-number-init
loop-number-init c = list_none _ _ _ _ c.new-places.ensures (none_inside _)

pub constant-requires : goal.constant-requires
constant-requires c = below_later c.loop-number.invariant.ran.prime_is (below_at (modulus_of c.args.self.now.prime) _ _ c.requires.0 c.loop-number-test.true)

pub returns-in_err-place : goal.returns-in_err-place
unfolding Periodic.constants
returns-in_err-place c = refused_list _ _ c.from_residual.ensures (list_long _ _ _ _ c.loop-number-test.true c.loop-number.invariant c.in_err-place.ensures.told)

pub loop-number-preserved : goal.loop-number-preserved
loop-number-preserved c = list_next _ _ _ _ _ c.loop-number.invariant c.in_ok-place.ensures.told c.push.ensures.items

pub returns : goal.returns
unfolding Periodic.constants
returns c = list_all _ _ _ _ (omega arith) c.loop-number-test.false (omega arith) c.loop-number.invariant
