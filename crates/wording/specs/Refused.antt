-- The line of a refusal.
use Rattle.std.specs.Prelude.{ℕ, List, [], ◌∷◌}
use Rattle.dag.specs.Refusals.{number, place}
use Rattle.dag.specs.declared.Refusal.{Refusal}
use Rattle.text.specs.Text.{ascii, decimal, line}

-- a refusal: its number and its place
unfoldable pub refused_line : Refusal → List ℕ
refused_line r = line (ascii "refused" ∷ decimal (number r) ∷ decimal (place r) ∷ [])
