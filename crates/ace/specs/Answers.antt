-- The words of an answer: 0 and the accepted values, or the refusal's number and place; words that no value takes are 0.
use Rattle.std.specs.Prelude.{ℕ, ◌+◌, ◌*◌, ◌-◌, List, [], ◌∷◌, length, map, replicate, Result, Ok, Err}
use Rattle.field.specs.declared.QuadFelt.{QuadFelt}
use Rattle.dag.specs.Refusals.{number, place}
use Rattle.dag.specs.declared.Refusal.{Refusal}
use Rattle.dag.specs.Roots.{most_roots, roots_of}
use Rattle.dag.specs.declared.RootedDag.{RootedDag}
use Rattle.builder.specs.declared.Entered.{Entered}
use Rattle.normalize.specs.declared.NormalEnd.{NormalEnd}
use Rattle.evaluate.specs.declared.RootValues.{RootValues}
use Rattle.dag.specs.Arrays.{padded}
use Rattle.columns.specs.Columns.{form_number}
use Rattle.columns.specs.Prepare.{most_columns}
use Rattle.columns.specs.declared.Form.{Form}
use Rattle.columns.specs.declared.Prepared.{Prepared}
use Rattle.encode.specs.declared.EncodedCircuit.{EncodedCircuit}

-- how many words an answer has: of Step, Lower, Draw and Emit, of a list, of Evaluate, of Prepare
abbrev pub answer_width : ℕ
answer_width = 4

abbrev pub list_width : ℕ
list_width = 3 + most_roots

abbrev pub evaluate_width : ℕ
evaluate_width = 1 + 2 * most_roots

abbrev pub prepare_width : ℕ
prepare_width = 2 + most_columns

-- a refusal in so many words
abbrev pub refused_words : ℕ → Refusal → List ℕ
refused_words width r = number r ∷ place r ∷ replicate (width - 2) 0

abbrev pub step_words : Result Entered Refusal → List ℕ
step_words (Ok e) = 0 ∷ e.place ∷ e.count ∷ 0 ∷ []
step_words (Err r) = refused_words answer_width r

-- a list's count, the rounds kept and the roots' places, 0 past the last
abbrev pub accepted_words : ℕ → ℕ → List ℕ → List ℕ
accepted_words count rounds roots = 0 ∷ count ∷ rounds ∷ padded 0 most_roots roots

abbrev pub list_words : Result RootedDag Refusal → List ℕ
list_words (Ok d) = accepted_words d.count 0 (roots_of d.roots)
list_words (Err r) = refused_words list_width r

abbrev pub normalize_words : Result NormalEnd Refusal → List ℕ
normalize_words (Ok e) = accepted_words e.dag.count e.rounds (roots_of e.dag.roots)
normalize_words (Err r) = refused_words list_width r

-- both coordinates of each element in turn
unfoldable pub coordinates : List QuadFelt → List ℕ
coordinates [] = []
coordinates (v ∷ vs) = v.c0 ∷ v.c1 ∷ coordinates vs

-- the roots' values, 0 past the last
abbrev pub value_words : List QuadFelt → List ℕ
value_words vs = 0 ∷ padded 0 (2 * most_roots) (coordinates vs)

abbrev pub evaluate_words : Result RootValues Refusal → List ℕ
evaluate_words (Ok r) = value_words r.values.items
evaluate_words (Err r) = refused_words evaluate_width r

-- the number of columns, and their forms as numbers, 0 past the last
abbrev pub form_words : List Form → List ℕ
form_words fs = 0 ∷ length fs ∷ padded 0 most_columns (map form_number fs)

abbrev pub prepare_words : Result Prepared Refusal → List ℕ
prepare_words (Ok p) = form_words p
prepare_words (Err r) = refused_words prepare_width r

-- one number: a list's count, a text's length
abbrev pub number_words : Result ℕ Refusal → List ℕ
number_words (Ok n) = 0 ∷ n ∷ 0 ∷ 0 ∷ []
number_words (Err r) = refused_words answer_width r

-- the counts of variables and operations
abbrev pub encoded_words : Result EncodedCircuit Refusal → List ℕ
encoded_words (Ok e) = 0 ∷ e.num_vars ∷ e.num_ops ∷ 0 ∷ []
encoded_words (Err r) = refused_words answer_width r
