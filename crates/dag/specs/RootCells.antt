-- Roots in eight cells, 0 behind them.
use Rattle.std.specs.Prelude.{ℕ, List, ◌≡◌, length, take}
use Rattle.std.proofs.Common.{ap₂}
use Rattle.dag.specs.Cells.{Celled, cells_of, celled_length, celled_cells}
use Rattle.dag.specs.declared.Roots.TheInside.{Inside}

-- the places in the cells
abbrev pub places : Inside → List ℕ
places r = take r.len r.cells

abbrev pub IsPadded : Inside → Type 0
IsPadded r = Celled 0 8 r.len r.cells

-- the cells of some places
abbrev pub padded : List ℕ → Inside
padded is = record { cells = cells_of 0 8 is; len = length is }

-- places give their cells back
pub padded_places : (r : Inside) → IsPadded r → padded (places r) ≡ r
padded_places r h = ap₂ (λ xs k. record { cells = xs; len = k }) (celled_cells 0 8 r.len r.cells h) (celled_length 0 8 r.len r.cells h)
