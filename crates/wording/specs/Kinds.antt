-- The words of the kinds of records.
use Rattle.std.specs.Prelude.{ℕ, List}
use Rattle.dag.specs.declared.NodeKind.{NodeKind}
use Rattle.dag.specs.declared.NodeKind.TheVariants.{Input, Constant, Add, Sub, Mul, Neg}
use Rattle.text.specs.Text.{ascii}

-- the word of a record's kind
unfoldable pub kind : NodeKind → List ℕ
kind (Input k) = ascii "in"
kind (Constant c) = ascii "const"
kind (Add a b) = ascii "add"
kind (Sub a b) = ascii "sub"
kind (Mul a b) = ascii "mul"
kind (Neg a) = ascii "neg"
