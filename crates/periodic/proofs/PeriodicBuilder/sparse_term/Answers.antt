use Rattle.periodic.specs.Periodic as Periodic
use Rattle.periodic.specs.RunLaws.{long_first, then_long, then_enter, below_later, refused}
use Rattle.periodic.proofs.PeriodicBuilder.sparse_term.Goals as goal

pub returns-in_err-factor : goal.returns-in_err-factor
unfolding Periodic.sparse_term
returns-in_err-factor c = refused _ _ c.from_residual.ensures (long_first _ c.in_err-factor.ensures.told)

pub constant-requires : goal.constant-requires
constant-requires c = below_later c.in_ok-factor.ensures.told.ran.prime_is c.requires.3

pub returns-in_err-scaled : goal.returns-in_err-scaled
unfolding Periodic.sparse_term
returns-in_err-scaled c = refused _ _ c.from_residual-in_err-scaled.ensures (then_long _ c.in_ok-factor.ensures.told.ran (long_first _ c.in_err-scaled.ensures.told))

pub returns : goal.returns
unfolding Periodic.sparse_term
returns c = then_enter _ c.in_ok-factor.ensures.told.ran (then_enter _ c.in_ok-scaled.ensures.told.ran c.mul.ensures)
