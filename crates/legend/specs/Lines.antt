-- A text's lines, and the lines that name a list's records and their operands.
use Rattle.std.specs.Prelude.{ℕ, suc, ◌+◌, List, [], ◌∷◌, ◌++◌, cond, eqb, length, map}
use Rattle.dag.specs.Nodes.{at, operands}
use Rattle.dag.specs.declared.NodeKind.{NodeKind}
use Rattle.text.specs.Text.{ascii, newline}
use Rattle.draw.specs.Drawing.{node_text, edge_text}
use Rattle.draw.specs.Promises.{LowConstant}

-- a byte before the first piece
unfoldable pub grow : ℕ → List (List ℕ) → List (List ℕ)
grow b [] = (b ∷ []) ∷ []
grow b (w ∷ ws) = (b ∷ w) ∷ ws

-- a text cut behind each byte e, the pieces without it
unfoldable pub cut : ℕ → List ℕ → List (List ℕ)
cut e [] = []
cut e (b ∷ s) = cond (eqb b e) ([] ∷ cut e s) (grow b (cut e s))

-- a text's lines, each without its newline
abbrev pub lines_of : List ℕ → List (List ℕ)
lines_of s = cut newline s

-- one line for the record x at place i
abbrev pub record_lines : ℕ → ℕ → NodeKind → List (List ℕ)
record_lines m i x = node_text m i x ∷ []

-- a line for each of its operands, first before second
abbrev pub operand_lines : ℕ → NodeKind → List (List ℕ)
operand_lines i x = map (edge_text i) (operands x)

-- the lines that f gives for the records of a list, in order, the first at place i
unfoldable pub each : (ℕ → NodeKind → List (List ℕ)) → ℕ → List NodeKind → List (List ℕ)
each f i [] = []
each f i (x ∷ l) = f i x ++ each f (suc i) l

-- the lines of a list's drawing: those that name its records, then those of their operands
unfoldable pub legend : ℕ → List NodeKind → List (List ℕ)
legend m l = ascii "digraph g {" ∷ (each (record_lines m) 0 l ++ (each operand_lines 0 l ++ (ascii "}" ∷ [])))

-- how many operands a list's records have
unfoldable pub operand_count : List NodeKind → ℕ
operand_count [] = 0
operand_count (x ∷ l) = length (operands x) + operand_count l

-- every constant's coordinates are below m
unfoldable pub CoordinatesBelow : ℕ → List NodeKind → Type 0
CoordinatesBelow m l = (i : ℕ) → LowConstant m (at l i)
