-- The word of a kind: how long it is.
use Rattle.std.specs.Prelude.{◌≤◌, length}
use Rattle.std.proofs.Common.{arith}
use Rattle.dag.specs.declared.NodeKind.{NodeKind}
use Rattle.dag.specs.declared.NodeKind.TheVariants.{Input, Constant, Add, Sub, Mul, Neg}
use Rattle.text.specs.Text.{ascii, ended, space}
use Rattle.text.specs.WritingLaws.{length_ended}
use Rattle.wording.specs.Kinds.{kind}

pub kind_few : (x : NodeKind) → length (kind x) ≤ 5
unfolding kind ascii
kind_few (Input k) = omega arith
kind_few (Constant c) = omega arith
kind_few (Add a b) = omega arith
kind_few (Sub a b) = omega arith
kind_few (Mul a b) = omega arith
kind_few (Neg a) = omega arith

pub kind_short : (x : NodeKind) → length (ended (kind x) space) ≤ 6
kind_short x = omega (arith, length_ended (kind x) space, kind_few x)
