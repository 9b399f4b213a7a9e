-- Operations written one after the other into a store, and a circuit's words as its parts.
use Rattle.std.specs.Prelude.{ℕ, suc, Option, set, ◌+◌, ◌-◌, ◌*◌, ◌≤◌, ◌<◌, List, [], ◌∷◌, ◌++◌, ◌≡◌, refl, length, take, replicate}
use Rattle.std.proofs.Common.{sym, ◌∙◌, ap, ap₂, arith, add-one, append_assoc, append-nil, length-append}
use Rattle.ring.specs.Ring.{Ops}
use Rattle.field.specs.declared.QuadFelt.{QuadFelt}
use Rattle.dag.specs.View.{View, interleaved}
use Rattle.dag.specs.Nodes.{blank, first, second, record_at, nodes, at, filled}
use Rattle.dag.specs.NodeLaws.{length_nodes}
use Rattle.dag.specs.declared.NodeKind.{NodeKind}
use Rattle.dag.specs.StoreLaws.{length_put_words, front_put_words}
use Rattle.dag.specs.Arrays.{up_to, padded}
use Rattle.dag.specs.ArrayLaws.{padded_set}
use Rattle.circuit.specs.Circuit.{operation_count, operation_of, operations}
use Rattle.circuit.specs.CircuitLaws.{length_operations, operation_count_mono}
use Rattle.circuit.specs.declared.AceOpNode.{AceOpNode}
use Rattle.encode.specs.declared.StreamGeometry.{StreamGeometry}
use Rattle.encode.specs.Encode.{op_number, node_id, encode_operation, encode_operations, constant_words, square, padded_operations, instructions}
use Rattle.encode.specs.EncodeLaws.{length_constant_words, length_words}
use Rattle.encode.specs.Promises.{put, Wrote}

pub constants_snoc : (cs : List NodeKind) (c : NodeKind) → constant_words (cs ++ (c ∷ [])) ≡ (constant_words cs ++ (first c ∷ [])) ++ (second c ∷ [])
unfolding constant_words
constants_snoc [] c = refl
constants_snoc (d ∷ cs) c = ap (λ ws. first d ∷ second d ∷ ws) (constants_snoc cs c)

module _ (g : StreamGeometry) where
  pub encode_append : (os ps : List AceOpNode) → encode_operations g (os ++ ps) ≡ encode_operations g os ++ encode_operations g ps
  unfolding encode_operations encode_operation
  encode_append [] ps = refl
  encode_append (o ∷ os) ps = ap (λ ws. op_number o.op ∷ node_id g o.lhs ∷ node_id g o.rhs ∷ ws) (encode_append os ps)

  -- one operation
  pub wrote_one : (s : List ℕ) (j : ℕ) (o : AceOpNode) (after : List ℕ) → j < (interleaved s).room → after ≡ put g s j o → Wrote g s j (o ∷ []) after (j + 1)
  unfolding encode_operations encode_operation
  wrote_one s j o after h e =
      record {
        next_is = refl;
        words = rw e (front_put_words s j (op_number o.op) (node_id g o.lhs) (node_id g o.rhs) h);
        same = rw e (length_put_words s j (op_number o.op) (node_id g o.lhs) (node_id g o.rhs));
      }

  -- none
  pub wrote_none : (s : List ℕ) (j : ℕ) → Wrote g s j [] s j
  unfolding encode_operations
  wrote_none s j = record { next_is = omega arith; words = sym (append-nil (take (3 * j) s)); same = refl }

  -- some, then others
  pub wrote_more : (s : List ℕ) (j : ℕ) (os : List AceOpNode) (mid : List ℕ) (k : ℕ) (ps : List AceOpNode) (after : List ℕ) (next : ℕ)
      → Wrote g s j os mid k → Wrote g mid k ps after next → Wrote g s j (os ++ ps) after next
  wrote_more s j os mid k ps after next a b =
      record {
        next_is = omega (arith, a.next_is, b.next_is, length-append os ps);
        words = b.words ∙ (ap (λ ws. ws ++ encode_operations g ps) a.words ∙ (append_assoc (take (3 * j) s) (encode_operations g os) (encode_operations g ps) ∙ ap (λ ws. take (3 * j) s ++ ws) (sym (encode_append os ps))));
        same = b.same ∙ a.same;
      }

-- one constant more
module _ (table : View) (i : ℕ) (store : List ℕ) (n : ℕ) (e : store ≡ padded 0 n (constant_words (nodes table i))) where
  pub constants_next : constant_words (nodes table (i + 1)) ≡ (constant_words (nodes table i) ++ (first (record_at table i) ∷ [])) ++ (second (record_at table i) ∷ [])
  unfolding nodes
  constants_next = rw add-one (constants_snoc (nodes table i) (record_at table i))

  pub constant_put : {a b : ℕ} → a ≡ first (record_at table i) → b ≡ second (record_at table i) → 2 * i + 2 ≤ n → set (set store (2 * i) a) (2 * i + 1) b ≡ padded 0 n (constant_words (nodes table (i + 1)))
  constant_put {a} {b} p q h =
      let many = length_constant_words (nodes table i) in
      let size = length_nodes table i in
      let at_one : 2 * i ≡ length (constant_words (nodes table i)) = omega (arith, many, size) in
      let at_two : 2 * i + 1 ≡ length (constant_words (nodes table i) ++ (a ∷ [])) = omega (arith, many, size, length-append (constant_words (nodes table i)) (a ∷ [])) in
      ap₂ (λ s k. set (set s k a) (2 * i + 1) b) e at_one
      ∙ (ap₂ (λ s k. set s k b) (padded_set 0 n (constant_words (nodes table i)) a (omega (arith, many, size, h))) at_two
      ∙ (padded_set 0 n (constant_words (nodes table i) ++ (a ∷ [])) b (omega (arith, many, size, length-append (constant_words (nodes table i)) (a ∷ []), h))
      ∙ rw (constants_next, p, q) refl))

-- the records before record i leave room for its operation
module _ (F : Ops QuadFelt) (find : ℕ → Option ℕ) (l : List NodeKind) (i n : ℕ) (h : i < n) where
  pub next_room : length (operations F find l i) + length (operation_of F find l (at l i)) ≤ operation_count l n
  unfolding operations
  next_room = omega (arith, length-append (operations F find l i) (operation_of F find l (at l i)), length_operations F find l (suc i), operation_count_mono l (suc i) n h)

-- one square more
pub squares_next : (o j : ℕ) → o ≤ j → up_to (λ i. square (o + i)) (j + 1 - o) ≡ up_to (λ i. square (o + i)) (j - o) ++ (square j ∷ [])
unfolding up_to
squares_next o j h =
    let a : j + 1 - o ≡ suc (j - o) = omega arith in
    let b : o + (j - o) ≡ j = omega arith in
    ap (up_to (λ i. square (o + i))) a ∙ ap (λ k. up_to (λ i. square (o + i)) (j - o) ++ (square k ∷ [])) b

-- constants, operations, their padding and blanks are a circuit's words
module _ (g : StreamGeometry) (cs : List NodeKind) (os : List AceOpNode) (o : ℕ) (many : length os ≡ o) where
  pub whole : {front back mid last after : List ℕ} {words : ℕ} → length cs ≤ g.constants → front ≡ padded 0 (2 * g.constants) (constant_words cs)
      → Wrote g back 0 os mid o → Wrote g mid o (up_to (λ i. square (o + i)) (g.operations - o)) last g.operations
      → after ≡ take (3 * g.operations) last ++ replicate (length last - 3 * g.operations) blank → length back + 2 * g.constants ≡ words → o ≤ g.operations
      → front ++ after ≡ filled words (instructions g cs os)
  unfolding filled instructions padded_operations
  whole {front} {back} {mid} {last} {after} {words} few f a b e size h =
      let w = wrote_more g back 0 os mid o (up_to (λ i. square (o + i)) (g.operations - o)) last g.operations a b in
      let all = padded_operations os g.operations in
      let same : os ++ up_to (λ i. square (o + i)) (g.operations - o) ≡ all = ap (λ k. os ++ up_to (λ i. square (k + i)) (g.operations - k)) (sym many) in
      let written : take (3 * g.operations) last ≡ encode_operations g all = w.words ∙ ap (encode_operations g) same in
      let blanks : length last - 3 * g.operations ≡ words - length (instructions g cs os) =
      omega (arith, w.same, size, length_words g cs os few (omega (arith, many))) in
      ap₂ (λ x y. x ++ y) f (e ∙ ap₂ (λ ws k. ws ++ replicate k blank) written blanks)
      ∙ sym (append_assoc (padded 0 (2 * g.constants) (constant_words cs)) (encode_operations g all) (replicate (words - length (instructions g cs os)) blank))
