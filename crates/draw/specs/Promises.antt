-- What the functions of drawing ask, and the lines that they count.
use Rattle.std.specs.Prelude.{ℕ, ◌<◌, List, ◌++◌}
use Rattle.dag.specs.Nodes.{operands}
use Rattle.dag.specs.declared.NodeKind.{NodeKind}
use Rattle.dag.specs.declared.NodeKind.TheVariants.{Input, Constant, Add, Sub, Mul, Neg}
use Rattle.draw.specs.Drawing.{node_line, edges}

-- a constant's coordinates are below the modulus m
abbrev pub LowConstant : ℕ → NodeKind → Type 0
LowConstant m (Input k) = Unit
LowConstant m (Constant c) = (c.c0 < m) × (c.c1 < m)
LowConstant m (Add a b) = Unit
LowConstant m (Sub a b) = Unit
LowConstant m (Mul a b) = Unit
LowConstant m (Neg a) = Unit

-- the lines of the record x at place i, its own and its operands'
unfoldable pub both_lines : ℕ → ℕ → NodeKind → List ℕ
both_lines m i x = node_line m i x ++ edges i (operands x)

-- the bytes of the first and the last line
abbrev pub frame_bytes : ℕ
frame_bytes = 14

-- the lines of a record have no more bytes
abbrev pub record_bytes : ℕ
record_bytes = 65
