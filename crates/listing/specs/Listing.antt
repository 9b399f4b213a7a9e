-- The installers' listing as a list of bytes: of an answer, of a refusal, and of a whole house file.
use Rattle.std.specs.Prelude.{ℕ, ◌+◌, ◌*◌, List, [], ◌∷◌, ◌++◌, map, length}
use Rattle.field.specs.Fields.{goldilocks}
use Rattle.dag.specs.View.{View}
use Rattle.dag.specs.Nodes.{at, first, second}
use Rattle.dag.specs.Refusals.{unless_refused}
use Rattle.dag.specs.declared.NodeKind.{NodeKind}
use Rattle.normalize.specs.Rounds.{Normal}
use Rattle.normalize.specs.Calls.{normalize_check, normalized}
use Rattle.text.specs.Text.{ascii, decimal, line, rows}
use Rattle.house_file.specs.File.{file_count, file_roots, file_view, of_file}
use Rattle.wording.specs.Kinds.{kind}
use Rattle.wording.specs.Refused.{refused_line}

-- count, roots and rounds kept
unfoldable pub first_line : ℕ → List ℕ → ℕ → List ℕ
first_line count roots rounds =
    line (ascii "nodes" ∷ decimal count ∷ ascii "root" ∷ (map decimal roots ++ (ascii "rounds" ∷ decimal rounds ∷ [])))

-- a record's place, kind and two words
unfoldable pub record_line : ℕ → NodeKind → List ℕ
record_line i x = line (decimal i ∷ kind x ∷ decimal (first x) ∷ decimal (second x) ∷ [])

-- the lines of the first n records
abbrev pub record_lines : List NodeKind → ℕ → List ℕ
record_lines l = rows (λ i. record_line i (at l i))

-- an answer: the first line, then a line a record
unfoldable pub listed : Normal → List ℕ
listed a = first_line (length a.list) a.roots a.rounds ++ record_lines a.list (length a.list)

-- what Normalise answers to the list that a store holds
unfoldable pub words_listing : View → ℕ → List ℕ → ℕ → ℕ → List ℕ
words_listing s n roots result_room work_room =
    unless_refused (normalize_check goldilocks s n roots result_room work_room) refused_line (listed (normalized goldilocks s n roots))

-- the listing of what Normalise answers to the list that a file holds
abbrev pub held_listing : List ℕ → List ℕ
held_listing file = listed (normalized goldilocks (file_view file) (file_count file) (file_roots file))

-- a whole file: that listing, or the refused line
unfoldable pub listing : List ℕ → List ℕ
listing = of_file refused_line held_listing

-- a listing of n records has no more bytes: 68 in its first line, 53 in each other
abbrev pub most_bytes : ℕ → ℕ
most_bytes n = 68 + 53 * n
