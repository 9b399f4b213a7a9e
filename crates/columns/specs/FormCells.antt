-- Forms in sixteen cells, sparse behind them.
use Rattle.std.specs.Prelude.{List, ◌≡◌, length, take}
use Rattle.std.proofs.Common.{ap₂}
use Rattle.dag.specs.Cells.{Celled, cells_of, celled_length, celled_cells}
use Rattle.columns.specs.declared.Form.{Form}
use Rattle.columns.specs.declared.Form.TheVariants.{Sparse}
use Rattle.columns.specs.declared.Prepared.TheInside.{Inside}

-- the forms in the cells
abbrev pub forms_in : Inside → List Form
forms_in p = take p.len p.cells

abbrev pub IsPadded : Inside → Type 0
IsPadded p = Celled Sparse 16 p.len p.cells

-- the cells of some forms
abbrev pub padded : List Form → Inside
padded fs = record { cells = cells_of Sparse 16 fs; len = length fs }

-- forms give their cells back
pub padded_forms : (p : Inside) → IsPadded p → padded (forms_in p) ≡ p
padded_forms p h = ap₂ (λ xs k. record { cells = xs; len = k }) (celled_cells Sparse 16 p.len p.cells h) (celled_length Sparse 16 p.len p.cells h)
