use Rattle.field.specs.Field.{elements}
use Rattle.circuit.specs.Promises.{held}
use Rattle.circuit.specs.EmitLaws.{zero_stood}
use Rattle.circuit.proofs.use_zero.Goals as goal

pub returns-then-zero-clause-constants : goal.returns-then-zero-clause-constants
returns-then-zero-clause-constants c =
    zero_stood (elements c.args.constants.now.prime) (held c.args.constants.now) c.args.x c.args.zero c.requires.zero c.if-zero.true
