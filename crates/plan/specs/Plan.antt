-- What a round does with one record (`normalize_once` of normalize.rs), on decoded lists.
use Rattle.std.specs.Prelude.{ℕ, zero, suc, ◌+◌, Bool, cond, ◌&&◌, List, [], ◌∷◌, Option, Some, None, is_some, ltb, eqb, length}
use Rattle.dag.specs.Nodes.{at, tag, first, second, operands}
use Rattle.dag.specs.Lookup.{lookup}
use Rattle.dag.specs.declared.NodeKind.{NodeKind}
use Rattle.dag.specs.declared.NodeKind.TheVariants.{Input, Constant, Add, Sub, Mul, Neg}
use Rattle.builder.specs.Steps.{low_first}
use Rattle.plan.specs.declared.Rewrite.{Rewrite}
use Rattle.plan.specs.declared.Rewrite.TheVariants.{Factored, Rotated}

-- how often i stands in a list of places
unfoldable pub count : ℕ → List ℕ → ℕ
count i [] = 0
count i (j ∷ js) = cond (eqb i j) 1 0 + count i js

-- the mentions of i as an operand among the first n records, unreachable ones too
unfoldable pub mentions : List NodeKind → ℕ → ℕ → ℕ
mentions l i zero = 0
mentions l i (suc n) = mentions l i n + count i (operands (at l n))

-- the mentions by all records, plus one for each root
unfoldable pub fanout : List NodeKind → List ℕ → ℕ → ℕ
fanout l roots i = mentions l i (length l) + count i roots

-- a rewrite fires
abbrev pub fires : Option Rewrite → Bool
fires = is_some

-- the first plan, if a rewrite fires there, else the other
unfoldable pub or_else : Option Rewrite → Option Rewrite → Option Rewrite
or_else (Some r) other = Some r
or_else None other = other

-- the record at place a is the operation's, with fanout 1; `fan` is the fanout of a place
abbrev pub is_single : (ℕ → ℕ → NodeKind) → List NodeKind → (ℕ → ℕ) → ℕ → Bool
is_single op l fan a = eqb (fan a) 1 && eqb (tag (at l a)) (tag (op 0 0))

-- the first hit: a's first operand against b's first, then second; then a's second likewise
unfoldable pub shared_factor : ℕ → ℕ → ℕ → ℕ → Option Rewrite
shared_factor a₀ a₁ b₀ b₁ =
    cond (eqb a₀ b₀) (Some (Factored a₀ a₁ b₁))
    (cond (eqb a₀ b₁) (Some (Factored a₀ a₁ b₀))
    (cond (eqb a₁ b₀) (Some (Factored a₁ a₀ b₁))
    (cond (eqb a₁ b₁) (Some (Factored a₁ a₀ b₀))
    None)))

-- two muls, each of fanout 1, that share a factor
unfoldable pub common_factor : List NodeKind → (ℕ → ℕ) → ℕ → ℕ → Option Rewrite
common_factor l fan a b =
    cond (is_single Mul l fan a && is_single Mul l fan b)
    (shared_factor (first (at l a)) (second (at l a)) (first (at l b)) (second (at l b)))
    None

-- the record found, if it stands before place i, with what remains
unfoldable pub onto_before : ℕ → ℕ → Option ℕ → Option Rewrite
onto_before i remaining (Some j) = cond (ltb j i) (Some (Rotated j remaining)) None
onto_before i remaining None = None

-- op (op x y) other at place i: x with `other`, else y with `other`, where that is a record before i
unfoldable pub existing_rotation : (ℕ → ℕ → NodeKind) → List NodeKind → (ℕ → ℕ) → ℕ → ℕ → ℕ → Option Rewrite
existing_rotation op l fan i inner other =
    let x = first (at l inner) in
    let y = second (at l inner) in
    cond (is_single op l fan inner)
    (or_else (onto_before i y (lookup l (low_first op x other) (length l)))
    (onto_before i x (lookup l (low_first op y other) (length l))))
    None

-- the first operand is tried as the inner one, then the second
unfoldable pub either_rotation : (ℕ → ℕ → NodeKind) → List NodeKind → (ℕ → ℕ) → ℕ → ℕ → ℕ → Option Rewrite
either_rotation op l fan i a b = or_else (existing_rotation op l fan i a b) (existing_rotation op l fan i b a)

-- what a round does with the record x at place i
unfoldable pub plan_of : List NodeKind → (ℕ → ℕ) → ℕ → NodeKind → Option Rewrite
plan_of l fan i (Input k) = None
plan_of l fan i (Constant c) = None
plan_of l fan i (Add a b) = or_else (common_factor l fan a b) (either_rotation Add l fan i a b)
plan_of l fan i (Sub a b) = common_factor l fan a b
plan_of l fan i (Mul a b) = either_rotation Mul l fan i a b
plan_of l fan i (Neg a) = None
