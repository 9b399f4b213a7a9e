-- The drawing of a house file as a list of bytes.
use Rattle.std.specs.Prelude.{ℕ, ◌+◌, ◌*◌, List}
use Rattle.field.specs.Fields.{goldilocks}
use Rattle.house_file.specs.File.{most_filed, file_count, file_view, of_file}
use Rattle.wording.specs.Refused.{refused_line}
use Rattle.draw.specs.Calls.{drawn}
use Rattle.draw.specs.Promises.{frame_bytes, record_bytes}

-- the drawing of the list that a file holds
abbrev pub held_drawing : List ℕ → List ℕ
held_drawing file = drawn goldilocks (file_view file) (file_count file)

-- a whole file: that drawing, or the refused line
unfoldable pub file_drawing : List ℕ → List ℕ
file_drawing = of_file refused_line held_drawing

-- no drawing of a house file has more bytes
abbrev pub most_bytes : ℕ
most_bytes = frame_bytes + record_bytes * most_filed
