-- The invariant: the words of the forms before place j are written.
use Rattle.std.proofs.Common.{◌≡◌, ◌∷◌, length, map, take}
use Rattle.dag.specs.Arrays.{padded}
use Rattle.columns.specs.Columns.{form_number}
use Rattle.columns.specs.Prepare.{most_columns}
use Rattle.ace.proofs.form_words.Given as goal

abbrev pub invariant-loop-j : goal.invariant-loop-j
invariant-loop-j l = l.words ≡ 0 ∷ length l.forms ∷ padded 0 most_columns (map form_number (take l.j l.forms))
