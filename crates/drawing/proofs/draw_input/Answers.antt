use Rattle.std.proofs.Common.{arith}
use Rattle.drawing.specs.FileDrawingLaws.{draws}
use Rattle.drawing.proofs.draw_input.Goals as goal

pub returns-clause-drawn : goal.returns-clause-drawn
returns-clause-drawn c = draws _ _ c.requires.0 (omega (arith, c.type_inv.buffer 5)) c.draw_file.ensures
