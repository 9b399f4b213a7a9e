-- How long the lines of a record are at most, and how long a drawing is.
use Rattle.std.specs.Prelude.{ℕ, ◌+◌, ◌*◌, ◌^◌, ◌≤◌, ◌<◌, List, ◌++◌, ◌≡◌, true, length, unsigned_abs}
use Rattle.std.proofs.Common.{sym, ◌∙◌, ap, arith, length-append, lit≤, lt_of_lt_of_le, lt_of_le_of_lt}
use Rattle.field.specs.Field.{modulus_of, second_most}
use Rattle.field.specs.Fields.{Field, Within, modulus, field_of}
use Rattle.field.specs.declared.Prime.{Prime}
use Rattle.dag.specs.View.{View}
use Rattle.dag.specs.KeyLaws.{key_word}
use Rattle.dag.specs.Keys.{is_key}
use Rattle.dag.specs.Nodes.{most_records, at, nodes, record_at, operands}
use Rattle.dag.specs.NodeLaws.{length_nodes, at_nodes}
use Rattle.dag.specs.Store.{Sound}
use Rattle.dag.specs.StoreLaws.{sound_well_formed}
use Rattle.dag.specs.WellFormed.{Fine, WellFormed}
use Rattle.dag.specs.declared.NodeKind.{NodeKind}
use Rattle.field.specs.declared.QuadFelt.{QuadFelt}
use Rattle.dag.specs.declared.NodeKind.TheVariants.{Input, Constant, Add, Sub, Mul, Neg}
use Rattle.signed.specs.Signed.{signed}
use Rattle.signed.specs.SignedLaws.{odd, half_small, magnitude}
use Rattle.text.specs.Text.{ascii, pieces, rows}
use Rattle.text.specs.DecimalLaws.{decimal_short, word_digits}
use Rattle.text.specs.IntegerLaws.{integer_short}
use Rattle.text.specs.PieceLaws.{rows_most, rows_parts}
use Rattle.wording.specs.Kinds.{kind}
use Rattle.draw.specs.Drawing.{coordinate, numbers, node_line, edge_line, edges, node_lines, edge_lines, opening, closing, drawing}
use Rattle.draw.specs.Calls.{drawn}
use Rattle.draw.specs.LineLaws.{length_coordinate, length_input, length_constant, length_node, length_edge, length_one, length_two}
use Rattle.draw.specs.Promises.{LowConstant, both_lines, frame_bytes, record_bytes}

module _ (prime : Prime) where
  -- a record that may stand at a place has a constant of low coordinates
  pub low_constant : (i : ℕ) (x : NodeKind) → Fine (Within (field_of prime).bounds) i x → LowConstant (modulus_of prime) x
  unfolding Fine
  low_constant i (Input k) f = tt
  low_constant i (Constant c) f = (f.0, let b = f.1 in omega (arith, second_most prime))
  low_constant i (Add a b) f = tt
  low_constant i (Sub a b) f = tt
  low_constant i (Mul a b) f = tt
  low_constant i (Neg a) f = tt

  coordinate_most : (c : ℕ) → c < modulus_of prime → length (coordinate (modulus_of prime) c) ≤ 21
  coordinate_most c h =
      let z = signed (modulus_of prime) c in
      let small : unsigned_abs z < 10 ^ 19 = lt_of_lt_of_le (lt_of_le_of_lt (magnitude (modulus_of prime) c (odd prime) h) (half_small prime)) (lit≤ tt) in
      omega (arith, length_coordinate (modulus_of prime) c, integer_short 18 z small)

  edge_most : (i a : ℕ) → i < 10000 → a < i → length (edge_line i a) ≤ 16
  edge_most i a h k = omega (arith, length_edge i a, decimal_short 3 i h, decimal_short 3 a (omega arith))

  node_most : (i : ℕ) (x : NodeKind) → i < 10000 → length (node_line (modulus_of prime) i x) ≤ 18 + (length (kind x) + length (numbers (modulus_of prime) x))
  node_most i x h = omega (arith, length_node (modulus_of prime) i x, decimal_short 3 i h)

  numbers_input : (k : ℕ) → is_key k ≡ true → length (numbers (modulus_of prime) (Input k)) ≤ 21
  numbers_input k e = omega (arith, length_input (modulus_of prime) k, word_digits k (key_word k e))

  numbers_constant : (c : QuadFelt) → c.c0 < modulus_of prime → c.c1 < modulus_of prime → length (numbers (modulus_of prime) (Constant c)) ≤ 42
  numbers_constant c h k = omega (arith, length_constant (modulus_of prime) c, coordinate_most c.c0 h, coordinate_most c.c1 k)

  pub length_record : (i : ℕ) (x : NodeKind) → length (both_lines (modulus_of prime) i x) ≡ length (node_line (modulus_of prime) i x) + length (edges i (operands x))
  unfolding both_lines
  length_record i x = length-append (node_line (modulus_of prime) i x) (edges i (operands x))

  pub record_most : (i : ℕ) (x : NodeKind) → i < 10000 → Fine (Within (field_of prime).bounds) i x → length (both_lines (modulus_of prime) i x) ≤ record_bytes
  unfolding kind ascii numbers operands pieces Fine
  record_most i (Input k) h f = omega (arith, length_record i (Input k), node_most i (Input k) h, numbers_input k f)
  record_most i (Constant c) h f =
      let low = low_constant i (Constant c) f in
      omega (arith, length_record i (Constant c), node_most i (Constant c) h, numbers_constant c low.0 low.1)
  record_most i (Add a b) h f = omega (arith, length_record i (Add a b), node_most i (Add a b) h, length_two i a b, edge_most i a h f.0, edge_most i b h f.1)
  record_most i (Sub a b) h f = omega (arith, length_record i (Sub a b), node_most i (Sub a b) h, length_two i a b, edge_most i a h f.0, edge_most i b h f.1)
  record_most i (Mul a b) h f = omega (arith, length_record i (Mul a b), node_most i (Mul a b) h, length_two i a b, edge_most i a h f.0, edge_most i b h f.1)
  record_most i (Neg a) h f = omega (arith, length_record i (Neg a), node_most i (Neg a) h, length_one i a, edge_most i a h f)

  -- the records of a sound list
  module _ (s : View) (n : ℕ) (sound : Sound (field_of prime).bounds s n) where
    may_stand : (i : ℕ) → i < n → Fine (Within (field_of prime).bounds) i (record_at s i)
    unfolding WellFormed
    may_stand i h = rw (← at_nodes s n i h) (sound_well_formed (field_of prime).bounds s n sound i)

    pub node_is : (i : ℕ) (x : NodeKind) → i < n → x ≡ record_at s i → x ≡ at (nodes s n) i
    node_is i x h e = e ∙ sym (at_nodes s n i h)

    pub low_at : (i : ℕ) → i < n → LowConstant (modulus_of prime) (record_at s i)
    low_at i h = low_constant i (record_at s i) (may_stand i h)

    pub most_at : (i : ℕ) → i < n → n ≤ most_records → length (both_lines (modulus_of prime) i (record_at s i)) ≤ record_bytes
    most_at i h most = record_most i (record_at s i) (omega arith) (may_stand i h)

    -- the lines of the first i records together
    abbrev lines : ℕ → List ℕ
    lines = rows (λ i. both_lines (modulus_of prime) i (at (nodes s n) i))

    pub lines_most : n ≤ most_records → (i : ℕ) → i ≤ n → length (lines i) ≤ record_bytes * i
    lines_most most i h = rows_most (λ i. both_lines (modulus_of prime) i (at (nodes s n) i)) record_bytes i (λ j k. rw (at_nodes s n j (omega arith)) (most_at j (omega arith) most))

-- a drawing by its parts, and its length
module _ (field : Field) (s : View) (n : ℕ) where
  pub drawn_is : opening ++ (node_lines (modulus field) (nodes s n) n ++ (edge_lines (nodes s n) n ++ closing)) ≡ drawn field s n
  unfolding drawn drawing
  drawn_is = rw (length_nodes s n)

  pub length_drawn : length (drawn field s n) ≡ 12 + (length (node_lines (modulus field) (nodes s n) n) + (length (edge_lines (nodes s n) n) + 2))
  unfolding ascii
  length_drawn =
      let l = nodes s n in
      let all = ap length drawn_is in
      omega (arith, length-append (node_lines (modulus field) l n) (edge_lines l n ++ closing), length-append (edge_lines l n) closing)

  pub length_lines : length (drawn field s n) ≡ frame_bytes + length (rows (λ i. both_lines (modulus field) i (at (nodes s n) i)) n)
  unfolding both_lines
  length_lines =
      let l = nodes s n in
      omega (arith, length_drawn, rows_parts (λ i. node_line (modulus field) i (at l i)) (λ i. edges i (operands (at l i))) n)

-- no drawing of a sound list has more bytes
pub drawn_most : (prime : Prime) (s : View) (n : ℕ) → Sound (field_of prime).bounds s n → n ≤ most_records → length (drawn (field_of prime) s n) ≤ frame_bytes + record_bytes * n
drawn_most prime s n sound most = omega (arith, length_lines (field_of prime) s n, lines_most prime s n sound most n (omega arith))
