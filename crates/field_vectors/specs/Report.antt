-- What the program writes of a text of vectors.
use Rattle.std.specs.Prelude.{ℕ, ◌/◌, List, [], ◌∷◌, ◌++◌, length, codes}
use Rattle.std.specs.Fmt.{decimal}
use Rattle.field_vectors.specs.Vectors.{line, matched}

-- how many of a text's whole lines agree, and how many there are
abbrev pub report_of : List ℕ → List ℕ
report_of s = decimal (matched s (length s / line)) ++ (codes " of " ++ (decimal (length s / line) ++ (codes " vectors match" ++ 10 ∷ [])))
