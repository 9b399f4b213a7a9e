-- What a record is worth, over any ring and any element given to each key.
use Rattle.std.specs.Prelude.{ℕ, zero, suc, List, [], ◌∷◌, ◌++◌, get_or, length}
use Rattle.ring.specs.Ring.{Ops}
use Rattle.field.specs.declared.QuadFelt.{QuadFelt}
use Rattle.dag.specs.Nodes.{at}
use Rattle.dag.specs.declared.NodeKind.{NodeKind}
use Rattle.dag.specs.declared.NodeKind.TheVariants.{Input, Constant, Add, Sub, Mul, Neg}

module _ (F : Ops QuadFelt) (given : ℕ → QuadFelt) where
  -- the value of a record whose operands have the values v
  unfoldable pub value_of : (ℕ → QuadFelt) → NodeKind → QuadFelt
  value_of v (Input k) = given k
  value_of v (Constant c) = c
  value_of v (Add a b) = F.add (v a) (v b)
  value_of v (Sub a b) = F.sub (v a) (v b)
  value_of v (Mul a b) = F.mul (v a) (v b)
  value_of v (Neg a) = F.neg (v a)

  -- the values of the first n records
  unfoldable pub values : List NodeKind → ℕ → List QuadFelt
  values l zero = []
  values l (suc n) = values l n ++ (value_of (λ i. get_or (values l n) i F.zero) (at l n) ∷ [])

  -- the value at a place
  unfoldable pub value : List NodeKind → ℕ → QuadFelt
  value l i = get_or (values l (length l)) i F.zero
