-- The box's run of a circuit's words: every record's operation has the record's value, and each pad is the square of the one before.
use Rattle.std.specs.Prelude.{ℕ, zero, suc, ◌+◌, ◌-◌, ◌<◌, ◌≤◌, true, Option, Some, List, ◌++◌, ◌≡◌, ◌↔◌, ◌⊎◌, refl, length, get_or}
use Rattle.std.proofs.Common.{ap₂, ◌∙◌, inl, inr, arith}
use Rattle.ring.specs.Ring.{Ops, Laws}
use Rattle.field.specs.declared.QuadFelt.{QuadFelt}
use Rattle.dag.specs.Nodes.{at}
use Rattle.dag.specs.WellFormed.{WellFormed}
use Rattle.dag.specs.declared.NodeKind.{NodeKind}
use Rattle.dag.specs.declared.NodeKind.TheVariants.{Input, Constant, Add, Sub, Mul, Neg}
use Rattle.meaning.specs.Values.{value_of, value}
use Rattle.meaning.specs.ValueLaws.{value_at}
use Rattle.circuit.specs.declared.AceNode.TheVariants as Node
use Rattle.circuit.specs.declared.AceOpNode.{AceOpNode}
use Rattle.circuit.specs.Circuit.{is_operation, operation_count, constants, node, operations}
use Rattle.circuit.specs.CircuitLaws.{node_operation, operation_node}
use Rattle.encode.specs.declared.StreamGeometry.{StreamGeometry}
use Rattle.encode.specs.Encode.{from_counts, instructions}
use Rattle.encode.specs.EncodeLaws.{counted}
use Rattle.chiplet.specs.Chiplet.{run}
use Rattle.chiplet.specs.WordLaws.{position}
use Rattle.chiplet.specs.RunLaws.{given, Placed, Padded, padded}

-- a list, the input numbers that its layout gives, and the values of the layout's places
module _ (F : Ops QuadFelt) (find : ℕ → Option ℕ) (inputs : List QuadFelt) (l : List NodeKind) where
  -- its operations, and the counts of its circuit
  abbrev pub list_operations : List AceOpNode
  list_operations = operations F find l (length l)

  abbrev pub list_counts : StreamGeometry
  list_counts = from_counts (length inputs) (length (constants F l (length l))) (length list_operations)

  -- how many values stand before the first operation's
  abbrev pub num_vars : ℕ
  num_vars = list_counts.inputs + list_counts.constants

  -- its words, and any behind them
  abbrev pub list_words : List ℕ → List ℕ
  list_words rest = instructions list_counts (constants F l (length l)) list_operations ++ rest

  -- what a record is worth
  abbrev pub worth : ℕ → QuadFelt
  worth = value F (given F find inputs) l

  -- the run ends with the values vs
  pub record Ran (rest : List ℕ) (vs : List QuadFelt) : Type 0 where
    -- none of its operations reads a node that has no value yet
    pub ran_lem : run F (list_words rest) num_vars list_counts.operations inputs list_counts.operations ≡ Some vs
    -- every node has one
    pub length_lem : length vs ≡ num_vars + list_counts.operations
    -- each record's node has the record's value
    pub nodes : (i : ℕ) → i < length l → get_or vs (position list_counts (node F find l i)) F.zero ≡ worth i
    -- so an operation's record has it at the operation's place
    pub operations_lem : (i : ℕ) → i < length l → is_operation (at l i) ≡ true → get_or vs (num_vars + operation_count l i) F.zero ≡ worth i
    -- each pad is the square of the one before
    pub pads : (j : ℕ) → length list_operations ≤ j → j < list_counts.operations
        → get_or vs (num_vars + j) F.zero ≡ F.mul (get_or vs (num_vars + (j - 1)) F.zero) (get_or vs (num_vars + (j - 1)) F.zero)

  module _ (L : Laws F) (Low : QuadFelt → Type 0) (w : WellFormed Low l) (placed : Placed find inputs l) (more : 0 < length list_operations) (rest : List ℕ) where
    -- where every input has a place and there is an operation, the run ends so, whatever stands behind the words
    pub runs : (vs : List QuadFelt) × Ran rest vs
    unfolding from_counts
    runs =
        let c = counted (length inputs) (length (constants F l (length l))) (length list_operations) in
        let end = padded F L find inputs rest l Low w placed list_counts refl c.constants_least c.operations_least more in
        let p : Padded F L find inputs rest l Low w placed list_counts refl c.constants_least c.operations_least list_counts.operations end.0 = end.1 in (
          end.0,
          record {
            ran_lem = p.ran_lem;
            length_lem = p.length_lem;
            nodes = λ i h. (p.nodes i h).1;
            operations_lem = λ i h e. rw (node_operation F find l i e) at ((p.nodes i h).1);
            pads = p.pads;
          },
        )

-- the last operation before the padding, where it is the root's
module _ (F : Ops QuadFelt) (find : ℕ → Option ℕ) (inputs : List QuadFelt) (l : List NodeKind) (rest : List ℕ) (vs : List QuadFelt) (r : Ran F find inputs l rest vs)
    (root : ℕ) (inside : root < length l) (last : node F find l root ≡ Node.Operation (length (list_operations F find inputs l) - 1)) (more : 0 < length (list_operations F find inputs l)) where
  -- the value of operation j
  abbrev operation_value : ℕ → QuadFelt
  operation_value j = get_or vs (num_vars F find inputs l + j) F.zero

  -- it has the root's value
  pub root_value : operation_value (length (list_operations F find inputs l) - 1) ≡ worth F find inputs l root
  root_value = rw last at (r.nodes root inside)

  module _ (L : Laws F) (Low : QuadFelt → Type 0) (w : WellFormed Low l) where
    -- an operation answers in lowest form
    kind_low : (v : ℕ → QuadFelt) (x : NodeKind) → is_operation x ≡ true → L.Low (value_of F (given F find inputs) v x)
    unfolding is_operation value_of
    kind_low v (Input k) e = absurd cc
    kind_low v (Constant c) e = absurd cc
    kind_low v (Add a b) e = L.low_add (v a) (v b)
    kind_low v (Sub a b) e = L.low_sub (v a) (v b)
    kind_low v (Mul a b) e = L.low_mul (v a) (v b)
    kind_low v (Neg a) e = L.low_neg (v a)

    root_low : L.Low (worth F find inputs l root)
    root_low =
        rw (value_at F (given F find inputs) Low l w root inside)
        (kind_low (worth F find inputs l) (at l root) (operation_node F find l root (length (list_operations F find inputs l) - 1) last))

    -- What is needed for the last operation to tell whether the root's value is zero: that zero alone has the square zero, since up to 7
    -- squares stand between the two. Squares.antt shows it of both fields.
    module _ (squares : (x : QuadFelt) → L.Low x → F.mul x x ≡ F.zero → x ≡ F.zero) where
      -- the same of the pads before
      pads_tell : (k : ℕ) → length (list_operations F find inputs l) + k ≤ (list_counts F find inputs l).operations
          → L.Low (operation_value (length (list_operations F find inputs l) + k - 1)) × ((operation_value (length (list_operations F find inputs l) + k - 1) ≡ F.zero) ↔ (worth F find inputs l root ≡ F.zero))
      pads_tell zero h =
          let e : length (list_operations F find inputs l) + 0 - 1 ≡ length (list_operations F find inputs l) - 1 = omega arith in
          rw (e, root_value) (root_low, (λ q. q, λ q. q))
      pads_tell (suc k) h =
          let before = pads_tell k (omega arith) in
          let j = length (list_operations F find inputs l) + k in
          let e : length (list_operations F find inputs l) + suc k - 1 ≡ j = omega arith in
          let x = operation_value (j - 1) in
          rw (e, r.pads j (omega arith) (omega arith)) (
            L.low_mul x x,
            (λ q. (before.1).0 (squares x before.0 q), λ q. ap₂ F.mul ((before.1).1 q) ((before.1).1 q) ∙ L.zero_mul F.zero),
          )

      -- the last operation, padding counted in, has the value zero exactly where the root has
      pub zero_tells : (operation_value ((list_counts F find inputs l).operations - 1) ≡ F.zero) ↔ (worth F find inputs l root ≡ F.zero)
      zero_tells =
          let os = list_operations F find inputs l in
          let g = list_counts F find inputs l in
          let least = (counted (length inputs) (length (constants F l (length l))) (length os)).operations_least in
          let all : length os + (g.operations - length os) ≡ g.operations = omega arith in
          (rw all at (pads_tell (g.operations - length os) (omega arith))).1

-- in a field, and wherever a product of two is zero only if one of them is, zero alone has the square zero
pub no_divisors : (F : Ops QuadFelt) (L : Laws F) → ((x y : QuadFelt) → L.Low x → L.Low y → F.mul x y ≡ F.zero → (x ≡ F.zero) ⊎ (y ≡ F.zero))
    → (x : QuadFelt) → L.Low x → F.mul x x ≡ F.zero → x ≡ F.zero
no_divisors F L one x h e = go (one x x h h e)
  where
    go : (x ≡ F.zero) ⊎ (x ≡ F.zero) → x ≡ F.zero
    go (inl q) = q
    go (inr q) = q
