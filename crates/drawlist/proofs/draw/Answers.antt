-- the buffer holds what the reader gives, or as much of it as decides the drawing; what is written of the text is the drawing
use Rattle.std.proofs.Common.{rules}
use Rattle.std.proofs.Math.Nat.{le_trans}
use Rattle.std.proofs.lemmas.Result.{on_ok_weaker}
use Rattle.text.specs.OutputLaws.{appended}
use Rattle.drawing.specs.FileDrawing.{file_drawing}
use Rattle.drawing.specs.FileDrawingLaws.{drawing_most}
use Rattle.drawlist.proofs.draw.Goals as goal

pub draw_input-length-requires : goal.draw_input-length-requires
draw_input-length-requires g c = (search rules, search rules, le_trans (drawing_most _) (search rules))

pub returns : goal.returns
returns g c = on_ok_weaker _ (appended file_drawing _ _ _ _ _ c.in_ok-n.ensures.front c.draw_input-length.ensures.drawn) c.write_all.ensures.bytes
