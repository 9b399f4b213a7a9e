use Rattle.std.proofs.Common.{rules}
use Rattle.columns.specs.PrepareLaws.{prepare_good}
use Rattle.columns.proofs.prepare.Goals as goal

pub returns : goal.returns
returns c = prepare_good _ _ _ _ (search rules) (search rules)
