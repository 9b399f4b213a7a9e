-- The steps (`DagBuilder` of builder.rs) on decoded lists, over any ring.
use Rattle.std.specs.Prelude.{ℕ, zero, suc, ◌+◌, Bool, cond, not, ◌&&◌, ◌||◌, Option, Some, None, List, [], ◌∷◌, ◌++◌, leb, eqb, get_or, length}
use Rattle.ring.specs.Ring.{Ops}
use Rattle.field.specs.Field.{same}
use Rattle.field.specs.declared.QuadFelt.{QuadFelt}
use Rattle.dag.specs.Nodes.{tag, first, second, at, rename}
use Rattle.dag.specs.Lookup.{lookup}
use Rattle.dag.specs.declared.NodeKind.{NodeKind}
use Rattle.dag.specs.declared.NodeKind.TheVariants.{Input, Constant, Add, Sub, Mul, Neg}
use Rattle.builder.specs.declared.Rule.{Rule}
use Rattle.builder.specs.declared.Rule.TheVariants.{ComesTo, HandOver}
use Rattle.builder.specs.declared.Outcome.{Outcome}
use Rattle.builder.specs.declared.Outcome.TheVariants.{Place, Node}

-- a record's kind, by its tag
unfoldable pub is_constant : NodeKind → Bool
is_constant x = eqb (tag x) 1

unfoldable pub is_add : NodeKind → Bool
is_add x = eqb (tag x) 2

unfoldable pub is_sub : NodeKind → Bool
is_sub x = eqb (tag x) 3

unfoldable pub is_mul : NodeKind → Bool
is_mul x = eqb (tag x) 4

unfoldable pub is_neg : NodeKind → Bool
is_neg x = eqb (tag x) 5

-- a constant's element
unfoldable pub element : NodeKind → QuadFelt
element x = record { c0 = first x; c1 = second x }

-- x is the constant c
unfoldable pub is_the : QuadFelt → NodeKind → Bool
is_the c x = is_constant x && same (element x) c

-- a sum or product with the lower place first
unfoldable pub low_first : (ℕ → ℕ → NodeKind) → ℕ → ℕ → NodeKind
low_first op a b = cond (leb a b) (op a b) (op b a)

module _ (F : Ops QuadFelt) where
  -- add(a, b), where places a and b hold x and y
  unfoldable pub add_rule : NodeKind → NodeKind → ℕ → ℕ → Rule
  add_rule x y a b =
      cond (is_constant x && is_constant y) (ComesTo (Node (Constant (F.add (element x) (element y)))))
      (cond (is_the F.zero x) (ComesTo (Place b))
      (cond (is_the F.zero y) (ComesTo (Place a))
      (cond (is_sub x && eqb (second x) b) (ComesTo (Place (first x)))
      (cond (is_sub y && eqb (second y) a) (ComesTo (Place (first y)))
      (cond (is_neg x && not (is_neg y)) (HandOver b (first x))
      (cond (is_neg y && not (is_neg x)) (HandOver a (first y))
      (ComesTo (Node (low_first Add a b)))))))))

  -- sub(a, b), where places a and b hold x and y
  unfoldable pub sub_rule : NodeKind → NodeKind → ℕ → ℕ → Rule
  sub_rule x y a b =
      cond (is_constant x && is_constant y) (ComesTo (Node (Constant (F.sub (element x) (element y)))))
      (cond (is_the F.zero y) (ComesTo (Place a))
      (cond (eqb a b) (ComesTo (Node (Constant F.zero)))
      (cond (is_add x && eqb (first x) b) (ComesTo (Place (second x)))
      (cond (is_add x && eqb (second x) b) (ComesTo (Place (first x)))
      (cond (is_sub y && eqb (first y) a) (ComesTo (Place (second y)))
      (cond (is_neg y) (HandOver a (first y))
      (ComesTo (Node (Sub a b)))))))))

  -- mul(a, b), where places a and b hold x and y
  unfoldable pub mul_outcome : NodeKind → NodeKind → ℕ → ℕ → Outcome
  mul_outcome x y a b =
      cond (is_constant x && is_constant y) (Node (Constant (F.mul (element x) (element y))))
      (cond (is_the F.zero x || is_the F.zero y) (Node (Constant F.zero))
      (cond (is_the F.one x) (Place b)
      (cond (is_the F.one y) (Place a)
      (Node (low_first Mul a b)))))

  -- neg(a), where place a holds x
  unfoldable pub neg_outcome : NodeKind → ℕ → Outcome
  neg_outcome x a = cond (is_constant x) (Node (Constant (F.neg (element x)))) (Node (Neg a))

  -- a rule's answer, where `next` says what operands handed over come to
  unfoldable pub follow : Rule → (ℕ → ℕ → Outcome) → Outcome
  follow (ComesTo o) next = o
  follow (HandOver a b) next = next a b

  unfoldable mutual
    -- add and sub hand work to each other along a chain of negations, at most k times
    pub add_within : ℕ → List NodeKind → ℕ → ℕ → Outcome
    add_within zero l a b = Node (low_first Add a b)
    add_within (suc k) l a b = follow (add_rule (at l a) (at l b) a b) (λ c d. sub_within k l c d)

    pub sub_within : ℕ → List NodeKind → ℕ → ℕ → Outcome
    sub_within zero l a b = Node (Sub a b)
    sub_within (suc k) l a b = follow (sub_rule (at l a) (at l b) a b) (λ c d. add_within k l c d)

  -- the sum of the two operand places falls each time, so it bounds the chain
  unfoldable pub add_outcome : List NodeKind → ℕ → ℕ → Outcome
  add_outcome l a b = add_within (suc (a + b)) l a b

  unfoldable pub sub_outcome : List NodeKind → ℕ → ℕ → Outcome
  sub_outcome l a b = sub_within (suc (a + b)) l a b

  -- what a request on the list l comes to
  unfoldable pub outcome : List NodeKind → NodeKind → Outcome
  outcome l (Input k) = Node (Input k)
  outcome l (Constant c) = Node (Constant c)
  outcome l (Add a b) = add_outcome l a b
  outcome l (Sub a b) = sub_outcome l a b
  outcome l (Mul a b) = mul_outcome (at l a) (at l b) a b
  outcome l (Neg a) = neg_outcome (at l a) a

-- a list, and the place of a result in it
pub record Built : Type 0 where
  pub list : List NodeKind
  pub place : ℕ

-- the record x where the search for it said so: at its greatest place, else appended
unfoldable pub interned : List NodeKind → NodeKind → Option ℕ → Built
interned l x (Some i) = record { list = l; place = i }
interned l x None = record { list = l ++ (x ∷ []); place = length l }

unfoldable pub intern : List NodeKind → NodeKind → Built
intern l x = interned l x (lookup l x (length l))

unfoldable pub enter : List NodeKind → Outcome → Built
enter l (Place i) = record { list = l; place = i }
enter l (Node x) = intern l x

-- one request
unfoldable pub step : Ops QuadFelt → List NodeKind → NodeKind → Built
step F l x = enter l (outcome F l x)

-- a list that is built, and the result place of each request so far
pub record Replay : Type 0 where
  pub list : List NodeKind
  pub map : List ℕ

-- the result place of an earlier request
unfoldable pub place_of : Replay → ℕ → ℕ
place_of r i = get_or r.map i 0

-- one more result
unfoldable pub recorded : Replay → Built → Replay
recorded r b = record { list = b.list; map = r.map ++ (b.place ∷ []) }

-- Build: the first n requests of l, one after the other, into an empty list
unfoldable pub replay : Ops QuadFelt → List NodeKind → ℕ → Replay
replay F l zero = record { list = []; map = [] }
replay F l (suc n) =
    let r = replay F l n in
    recorded r (step F r.list (rename (place_of r) (at l n)))
