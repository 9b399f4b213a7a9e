-- What the list check gives on decoded lists, with 'in lowest form' left open.
use Rattle.std.specs.Prelude.{ℕ, ◌<◌, true, List, ◌≡◌}
use Rattle.field.specs.declared.QuadFelt.{QuadFelt}
use Rattle.dag.specs.Keys.{is_key}
use Rattle.dag.specs.Nodes.{at}
use Rattle.dag.specs.declared.NodeKind.{NodeKind}
use Rattle.dag.specs.declared.NodeKind.TheVariants.{Input, Constant, Add, Sub, Mul, Neg}

-- any element will do
abbrev pub Any : QuadFelt → Type 0
Any c = Unit

-- a record that may stand at place i: a key's number, a constant in lowest form, operands before i
unfoldable pub Fine : (QuadFelt → Type 0) → ℕ → NodeKind → Type 0
Fine Low i (Input k) = is_key k ≡ true
Fine Low i (Constant c) = Low c
Fine Low i (Add a b) = (a < i) × (b < i)
Fine Low i (Sub a b) = (a < i) × (b < i)
Fine Low i (Mul a b) = (a < i) × (b < i)
Fine Low i (Neg a) = a < i

-- every record may stand where it stands
unfoldable pub WellFormed : (QuadFelt → Type 0) → List NodeKind → Type 0
WellFormed Low l = (i : ℕ) → Fine Low i (at l i)
