use Rattle.std.proofs.Common.{arith}
use Rattle.listing.specs.InputLaws.{lists}
use Rattle.listing.proofs.list_input.Goals as goal

pub returns-clause-listed : goal.returns-clause-listed
returns-clause-listed c = lists _ _ c.requires.0 (omega (arith, c.type_inv.buffer 5)) c.list_file.ensures
