-- What values of `Layout` and `Columns` hold.
use Rattle.std.specs.Prelude.{ℕ, List, Result, IfOk, ◌≡◌}
use Rattle.field.specs.Field.{modulus_of}
use Rattle.field.specs.declared.Prime.{Prime}
use Rattle.dag.specs.declared.Refusal.{Refusal}
use Rattle.columns.specs.Prepare as Prepare
use Rattle.columns.specs.declared.Layout.{Layout}
use Rattle.columns.specs.declared.Columns.{Columns}

-- the columns that stand there
abbrev pub laid : Layout → List (List ℕ)
laid l = Prepare.columns l.lengths.now l.entries.now

-- its columns, and the modulus that their entries are below
abbrev pub columns : Columns → List (List ℕ)
columns c = Prepare.columns c.lengths.now c.entries.now

abbrev pub modulus : Columns → ℕ
modulus c = modulus_of c.prime

-- where columns passed, they have these lengths and entries, over the field
abbrev pub HeldOf : Prime → List ℕ → List ℕ → Result Columns Refusal → Type 0
HeldOf prime lengths entries r = IfOk r (λ c. (c.prime ≡ prime) × (c.lengths.now ≡ lengths) × (c.entries.now ≡ entries))
