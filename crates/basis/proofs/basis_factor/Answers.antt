use Rattle.periodic.specs.RunLaws.{long_first, then_enter, refused}
use Rattle.basis.specs.Promises as Promises
use Rattle.basis.proofs.basis_factor.Goals as goal

pub returns-in_err-root : goal.returns-in_err-root
unfolding Promises.factor
returns-in_err-root c = refused _ _ c.from_residual.ensures (long_first _ c.in_err-root.ensures.told)

pub returns : goal.returns
unfolding Promises.factor
returns c = then_enter _ c.in_ok-root.ensures.told.ran c.sub.ensures
