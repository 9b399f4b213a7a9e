-- What the box reads of a circuit's words, and what one operation makes of the values so far.
use Rattle.std.specs.Prelude.{ℕ, zero, suc, ◌+◌, ◌-◌, ◌*◌, ◌<◌, ◌≤◌, Option, Some, List, [], ◌∷◌, ◌++◌, ◌≡◌, refl, length, get_or, replicate}
use Rattle.std.proofs.Common.{sym, ◌∙◌, ap, arith, lt-ltb, length-append, append_assoc}
use Rattle.std.proofs.Math.Path.{ap₂}
use Rattle.std.proofs.lemmas.List.{get_or-append-add}
use Rattle.std.proofs.Math.ListN.{get_or-append}
use Rattle.std.proofs.Math.Seq.{get_or-append_right}
use Rattle.ring.specs.Ring.{Ops}
use Rattle.field.specs.Field.{new}
use Rattle.field.specs.declared.QuadFelt.{QuadFelt}
use Rattle.dag.specs.Arrays.{up_to, padded}
use Rattle.dag.specs.ArrayLaws.{get_or_up_to, length_padded, length_up_to}
use Rattle.dag.specs.Nodes.{at, first, second}
use Rattle.dag.specs.declared.NodeKind.{NodeKind}
use Rattle.builder.specs.Steps.{element}
use Rattle.circuit.specs.declared.AceOp.{AceOp}
use Rattle.circuit.specs.declared.AceOp.TheVariants as Op
use Rattle.circuit.specs.declared.AceNode.{AceNode}
use Rattle.circuit.specs.declared.AceNode.TheVariants as Node
use Rattle.circuit.specs.declared.AceOpNode.{AceOpNode}
use Rattle.encode.specs.declared.StreamGeometry.{StreamGeometry}
use Rattle.encode.specs.Encode.{num_nodes, node_id, op_number, encode_operation, encode_operations, square, padded_operations, constant_words, instructions}
use Rattle.encode.specs.EncodeLaws.{length_constant_words, length_padded_operations}
use Rattle.chiplet.specs.Chiplet.{apply, node_value, evaluated, num_constants, read_constants, operation_word, run}

-- where a node stands among the values: inputs, constants, operations
abbrev pub position : StreamGeometry → AceNode → ℕ
position g (Node.Input i) = i
position g (Node.Constant i) = g.inputs + i
position g (Node.Operation i) = g.inputs + g.constants + i

-- its number counts down
id_position : (g : StreamGeometry) (x : AceNode) → node_id g x ≡ num_nodes g - 1 - position g x
unfolding node_id
id_position g (Node.Input i) = refl
id_position g (Node.Constant i) = refl
id_position g (Node.Operation i) = refl

-- the operations stand in front, and each behind them is a square
module _ (os : List AceOpNode) (n i : ℕ) (d : AceOpNode) where
  pub padded_at : i < length os → get_or (padded_operations os n) i d ≡ get_or os i d
  unfolding padded_operations
  padded_at h = get_or-append os (up_to (λ k. square (length os + k)) (n - length os)) d i h

  pub pad_at : length os ≤ i → i < n → get_or (padded_operations os n) i d ≡ square i
  unfolding padded_operations
  pad_at h k =
      let back : length os + (i - length os) ≡ i = omega arith in
      get_or-append_right os (up_to (λ k. square (length os + k)) (n - length os)) i d h
      ∙ (get_or_up_to (λ k. square (length os + k)) d (n - length os) (i - length os) (omega arith) ∙ ap square back)

-- the words of operation i
encoded_at : (g : StreamGeometry) (os : List AceOpNode) (behind : List ℕ) (i r : ℕ) (d : AceOpNode) → i < length os → r < 3
    → get_or (encode_operations g os ++ behind) (3 * i + r) 0 ≡ get_or (encode_operation g (get_or os i d)) r 0
unfolding encode_operations encode_operation
encoded_at g [] behind i r d h k = absurd (omega arith)
encoded_at g (o ∷ os) behind zero zero d h k = refl
encoded_at g (o ∷ os) behind zero (suc zero) d h k = refl
encoded_at g (o ∷ os) behind zero (suc (suc zero)) d h k = refl
encoded_at g (o ∷ os) behind zero (suc (suc (suc r))) d h k = absurd (omega arith)
encoded_at g (o ∷ os) behind (suc i) r d h k =
    let e : 3 * suc i + r ≡ suc (suc (suc (3 * i + r))) = omega arith in
    rw e (encoded_at g os behind i r d (omega arith) k)

-- the words of constant i
constant_at : (cs : List NodeKind) (behind : List ℕ) (i : ℕ) → i < length cs
    → (get_or (constant_words cs ++ behind) (2 * i) 0 ≡ first (at cs i)) × (get_or (constant_words cs ++ behind) (2 * i + 1) 0 ≡ second (at cs i))
unfolding constant_words at
constant_at [] behind i h = absurd (omega arith)
constant_at (c ∷ cs) behind zero h = (refl, refl)
constant_at (c ∷ cs) behind (suc i) h =
    let e : 2 * suc i ≡ suc (suc (2 * i)) = omega arith in
    let f : 2 * suc i + 1 ≡ suc (suc (2 * i + 1)) = omega arith in
    rw (f, e) (constant_at cs behind i (omega arith))

module _ (F : Ops QuadFelt) where
  -- what an operation makes of two elements
  abbrev pub result : AceOp → QuadFelt → QuadFelt → QuadFelt
  result Op.Sub a b = F.sub a b
  result Op.Mul a b = F.mul a b
  result Op.Add a b = F.add a b

  apply_number : (op : AceOp) (a b : QuadFelt) → apply F (op_number op) a b ≡ Some (result op a b)
  unfolding apply
  apply_number Op.Sub a b = refl
  apply_number Op.Mul a b = refl
  apply_number Op.Add a b = refl

  -- an operation's value, on the values so far
  abbrev pub done : StreamGeometry → List QuadFelt → AceOpNode → QuadFelt
  done g vs o = result o.op (get_or vs (position g o.lhs) F.zero) (get_or vs (position g o.rhs) F.zero)

  module _ (g : StreamGeometry) (vs : List QuadFelt) (fits : length vs ≤ num_nodes g) where
    -- a node that has a value already gives it
    value_there : (x : AceNode) → position g x < length vs → node_value F (num_nodes g) vs (node_id g x) ≡ Some (get_or vs (position g x) F.zero)
    unfolding node_value
    value_there x h =
        let p : num_nodes g - 1 - (num_nodes g - 1 - position g x) ≡ position g x = omega arith in
        rw (id_position g x, p, lt-ltb (num_nodes g - 1 - position g x) (num_nodes g) (omega arith), lt-ltb (position g x) (length vs) h)

    -- one operation, on nodes that have values already
    one_done : (o : AceOpNode) → position g o.lhs < length vs → position g o.rhs < length vs
        → evaluated F (num_nodes g) (op_number o.op) (node_id g o.lhs) (node_id g o.rhs) vs ≡ Some (vs ++ (done g vs o ∷ []))
    unfolding evaluated
    one_done o h k =
        rw (value_there o.lhs h, value_there o.rhs k, apply_number o.op (get_or vs (position g o.lhs) F.zero) (get_or vs (position g o.rhs) F.zero))

  -- a circuit of the counts g, run on as many inputs
  module _ (g : StreamGeometry) (cs : List NodeKind) (os : List AceOpNode) (rest : List ℕ) (inputs : List QuadFelt)
      (same : length inputs ≡ g.inputs) (few : length cs ≤ g.constants) (least : length os ≤ g.operations) where
    abbrev pub ws : List ℕ
    ws = instructions g cs os ++ rest

    abbrev pub ops : List AceOpNode
    ops = padded_operations os g.operations

    -- the values before the first operation
    abbrev pub variables : List QuadFelt
    variables = inputs ++ read_constants F ws (g.inputs + g.constants) g.operations inputs

    -- the values once n operations are done
    abbrev pub ran : ℕ → Option (List QuadFelt)
    ran n = run F ws (g.inputs + g.constants) g.operations inputs n

    length_front : length (padded 0 (2 * g.constants) (constant_words cs)) ≡ 2 * g.constants
    length_front = length_padded 0 (2 * g.constants) (constant_words cs) (omega (arith, length_constant_words cs))

    constants_read : num_constants F ws (g.inputs + g.constants) g.operations inputs ≡ g.constants
    constants_read = omega arith

    pub length_variables : length variables ≡ g.inputs + g.constants
    unfolding read_constants
    length_variables =
        omega (
          arith,
          length-append inputs (read_constants F ws (g.inputs + g.constants) g.operations inputs),
          length_up_to (λ i. new (get_or ws (2 * i) 0) (get_or ws (2 * i + 1) 0)) (num_constants F ws (g.inputs + g.constants) g.operations inputs),
        )

    -- the constants' words stand in front
    unfoldable zeros : List ℕ
    zeros = replicate (2 * g.constants - length (constant_words cs)) 0

    unfoldable behind : List ℕ
    behind = zeros ++ (encode_operations g ops ++ rest)

    parts : ws ≡ constant_words cs ++ behind
    unfolding instructions padded behind zeros
    parts = append_assoc (constant_words cs ++ zeros) (encode_operations g ops) rest ∙ append_assoc (constant_words cs) zeros (encode_operations g ops ++ rest)

    -- a constant is read as it was written
    pub constant_there : (i : ℕ) → i < length cs → get_or variables (g.inputs + i) F.zero ≡ element (at cs i)
    unfolding read_constants element
    constant_there i h =
        let both = constant_at cs behind i h in
        let read = get_or_up_to (λ i. new (get_or ws (2 * i) 0) (get_or ws (2 * i + 1) 0)) F.zero (num_constants F ws (g.inputs + g.constants) g.operations inputs) i (omega (arith, constants_read)) in
        ap (λ k. get_or variables (k + i) F.zero) (sym same)
        ∙ (get_or-append-add inputs (read_constants F ws (g.inputs + g.constants) g.operations inputs) i F.zero
        ∙ (read ∙ ap₂ new (ap (λ s. get_or s (2 * i) 0) parts ∙ both.0) (ap (λ s. get_or s (2 * i + 1) 0) parts ∙ both.1)))

    -- the words of an operation are read as they were written
    word_there : (i r : ℕ) (d : AceOpNode) → i < g.operations → r < 3 → operation_word F ws (g.inputs + g.constants) g.operations inputs i r ≡ get_or (encode_operation g (get_or ops i d)) r 0
    unfolding operation_word instructions
    word_there i r d h k =
        let index : 2 * num_constants F ws (g.inputs + g.constants) g.operations inputs + (3 * i + r) ≡ length (padded 0 (2 * g.constants) (constant_words cs)) + (3 * i + r) = omega (arith, length_front, constants_read) in
        let behind = encode_operations g ops in
        ap₂ (λ s j. get_or s j 0) (append_assoc (padded 0 (2 * g.constants) (constant_words cs)) behind rest) index
        ∙ (get_or-append-add (padded 0 (2 * g.constants) (constant_words cs)) (behind ++ rest) (3 * i + r) 0
        ∙ encoded_at g ops rest i r d (omega (arith, length_padded_operations os g.operations least)) k)

    -- operation n, on nodes that have values already
    pub next_done : (n : ℕ) (vs : List QuadFelt) (o : AceOpNode) → ran n ≡ Some vs → n < g.operations → get_or ops n o ≡ o → length vs ≡ g.inputs + g.constants + n
        → position g o.lhs < length vs → position g o.rhs < length vs → ran (suc n) ≡ Some (vs ++ (done g vs o ∷ []))
    unfolding run encode_operation num_nodes
    next_done n vs o e h f q left right =
        let fits : length vs ≤ num_nodes g = omega arith in
        rw (e, word_there n 0 o h (omega arith), word_there n 1 o h (omega arith), word_there n 2 o h (omega arith), f) (one_done g vs fits o left right)
