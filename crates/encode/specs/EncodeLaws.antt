-- How many words a circuit has, and what its counts say of each other.
use Rattle.std.specs.Prelude.{ℕ, ◌+◌, ◌-◌, ◌*◌, ◌%◌, ◌<◌, ◌≤◌, List, [], ◌∷◌, ◌≡◌, refl, length}
use Rattle.std.proofs.Common.{arith, length-append}
use Rattle.dag.specs.Arrays.{up_to, padded}
use Rattle.dag.specs.ArrayLaws.{length_up_to, length_padded}
use Rattle.dag.specs.declared.NodeKind.{NodeKind}
use Rattle.circuit.specs.declared.AceOpNode.{AceOpNode}
use Rattle.encode.specs.declared.StreamGeometry.{StreamGeometry}
use Rattle.encode.specs.Encode.{next_multiple_of, from_counts, encode_operation, encode_operations, square, padded_operations, constant_words, instructions}

-- what the counts g say, where so many are counted without padding
pub record Counted (inputs constants operations : ℕ) (g : StreamGeometry) : Type 0 where
  pub inputs_lem : g.inputs ≡ inputs
  -- constants are even, and at most one zero is padding
  pub constants_even : g.constants % 2 ≡ 0
  pub constants_least : constants ≤ g.constants
  pub constants_most : g.constants ≤ constants + 1
  -- twice the constants and the operations are a multiple of 8, and fewer than 8 operations are padding
  pub whole_blocks : (2 * g.constants + g.operations) % 8 ≡ 0
  pub operations_least : operations ≤ g.operations
  pub operations_most : g.operations < operations + 8

-- the counts say so
pub counted : (inputs constants operations : ℕ) → Counted inputs constants operations (from_counts inputs constants operations)
unfolding from_counts next_multiple_of
counted inputs constants operations =
    record {
      inputs_lem = refl;
      constants_even = omega arith;
      constants_least = omega arith;
      constants_most = omega arith;
      whole_blocks = omega arith;
      operations_least = omega arith;
      operations_most = omega arith;
    }

-- a constant has two words
pub length_constant_words : (cs : List NodeKind) → length (constant_words cs) ≡ 2 * length cs
unfolding constant_words
length_constant_words [] = refl
length_constant_words (c ∷ cs) = omega (arith, length_constant_words cs)

-- an operation has three
pub length_encode_operations : (g : StreamGeometry) (os : List AceOpNode) → length (encode_operations g os) ≡ 3 * length os
unfolding encode_operations encode_operation
length_encode_operations g [] = refl
length_encode_operations g (o ∷ os) = omega (arith, length_encode_operations g os)

-- padded to n, they are n
pub length_padded_operations : (os : List AceOpNode) (n : ℕ) → length os ≤ n → length (padded_operations os n) ≡ n
unfolding padded_operations
length_padded_operations os n h =
    let pads = up_to (λ i. square (length os + i)) (n - length os) in
    omega (arith, length-append os pads, length_up_to (λ i. square (length os + i)) (n - length os))

-- the words are as many as the counts say
pub length_words : (g : StreamGeometry) (cs : List NodeKind) (os : List AceOpNode) → length cs ≤ g.constants → length os ≤ g.operations
    → length (instructions g cs os) ≡ 2 * g.constants + 3 * g.operations
unfolding instructions
length_words g cs os h k =
    let front = padded 0 (2 * g.constants) (constant_words cs) in
    let behind = encode_operations g (padded_operations os g.operations) in
    omega (
      arith,
      length-append front behind,
      length_padded 0 (2 * g.constants) (constant_words cs) (omega (arith, length_constant_words cs)),
      length_encode_operations g (padded_operations os g.operations),
      length_padded_operations os g.operations k,
    )

-- so are those of a circuit's own counts
pub length_instructions : (inputs : ℕ) (cs : List NodeKind) (os : List AceOpNode)
    → let g = from_counts inputs (length cs) (length os) in length (instructions g cs os) ≡ 2 * g.constants + 3 * g.operations
length_instructions inputs cs os =
    let c = counted inputs (length cs) (length os) in
    length_words (from_counts inputs (length cs) (length os)) cs os c.constants_least c.operations_least
