-- A list as Graphviz DOT: a line for each record, then a line for each operand.
use Rattle.std.specs.Prelude.{ℕ, List, [], ◌++◌, length}
use Rattle.dag.specs.Nodes.{at, operands}
use Rattle.dag.specs.declared.NodeKind.{NodeKind}
use Rattle.dag.specs.declared.NodeKind.TheVariants.{Input, Constant, Add, Sub, Mul, Neg}
use Rattle.text.specs.Text.{ascii, decimal, integer, ended, newline, pieces, rows}
use Rattle.wording.specs.Kinds.{kind}
use Rattle.signed.specs.Signed.{signed}

-- a coordinate, signed, behind a space
unfoldable pub coordinate : ℕ → ℕ → List ℕ
coordinate m c = ascii " " ++ integer (signed m c)

-- what a label has behind the kind: an input's key number; a constant's coordinates
unfoldable pub numbers : ℕ → NodeKind → List ℕ
numbers m (Input k) = ascii " " ++ decimal k
numbers m (Constant c) = coordinate m c.c0 ++ coordinate m c.c1
numbers m (Add a b) = []
numbers m (Sub a b) = []
numbers m (Mul a b) = []
numbers m (Neg a) = []

-- a label: parts that are one space apart
unfoldable pub label : ℕ → NodeKind → List ℕ
label m x = kind x ++ numbers m x

-- what the line of the record x at place i says
unfoldable pub node_text : ℕ → ℕ → NodeKind → List ℕ
node_text m i x = ascii "n" ++ (decimal i ++ (ascii " [label=\"" ++ (label m x ++ ascii "\"];")))

-- what the line of an operand of the record at place i says
unfoldable pub edge_text : ℕ → ℕ → List ℕ
edge_text i a = ascii "n" ++ (decimal i ++ (ascii " -> n" ++ (decimal a ++ ascii ";")))

-- these lines, each with its newline
unfoldable pub node_line : ℕ → ℕ → NodeKind → List ℕ
node_line m i x = ended (node_text m i x) newline

unfoldable pub edge_line : ℕ → ℕ → List ℕ
edge_line i a = ended (edge_text i a) newline

-- the lines of the operands of the record at place i, in their order
abbrev pub edges : ℕ → List ℕ → List ℕ
edges i = pieces (edge_line i)

-- the lines of the first n records
abbrev pub node_lines : ℕ → List NodeKind → ℕ → List ℕ
node_lines m l = rows (λ i. node_line m i (at l i))

-- the lines of the operands of the first n records
abbrev pub edge_lines : List NodeKind → ℕ → List ℕ
edge_lines l = rows (λ i. edges i (operands (at l i)))

abbrev pub opening : List ℕ
opening = ascii "digraph g {\n"

abbrev pub closing : List ℕ
closing = ascii "}\n"

-- the drawing of a list, its coordinates signed by the modulus m
unfoldable pub drawing : ℕ → List NodeKind → List ℕ
drawing m l = opening ++ (node_lines m l (length l) ++ (edge_lines l (length l) ++ closing))
