-- The lines of a drawing, piece after piece: how long they are, and what they are made of.
use Rattle.std.specs.Prelude.{ℕ, ◌+◌, [], ◌∷◌, ◌++◌, ◌≡◌, refl, length}
use Rattle.std.proofs.Common.{ap, arith, length-append, append_assoc}
use Rattle.text.specs.Text.{ascii, decimal, integer, ended, pieces}
use Rattle.signed.specs.Signed.{signed}
use Rattle.wording.specs.Kinds.{kind}
use Rattle.dag.specs.declared.NodeKind.{NodeKind}
use Rattle.dag.specs.declared.NodeKind.TheVariants.{Input, Constant, Add, Sub, Mul, Neg}
use Rattle.field.specs.declared.QuadFelt.{QuadFelt}
use Rattle.draw.specs.Drawing.{coordinate, numbers, label, node_text, edge_text, node_line, edge_line, edges}

module _ (m : ℕ) where
  pub length_coordinate : (c : ℕ) → length (coordinate m c) ≡ 1 + length (integer (signed m c))
  unfolding coordinate ascii
  length_coordinate c = length-append (32 ∷ []) (integer (signed m c))

  pub length_input : (k : ℕ) → length (numbers m (Input k)) ≡ 1 + length (decimal k)
  unfolding numbers ascii
  length_input k = length-append (32 ∷ []) (decimal k)

  pub length_constant : (c : QuadFelt) → length (numbers m (Constant c)) ≡ length (coordinate m c.c0) + length (coordinate m c.c1)
  unfolding numbers
  length_constant c = length-append (coordinate m c.c0) (coordinate m c.c1)

  -- a record without numbers
  pub bare : (x : NodeKind) → ((k : ℕ) → x ≡ Input k → ⊥) → ((c : QuadFelt) → x ≡ Constant c → ⊥) → [] ≡ numbers m x
  unfolding numbers
  bare (Input k) p q = absurd (p k refl)
  bare (Constant c) p q = absurd (q c refl)
  bare (Add a b) p q = refl
  bare (Sub a b) p q = refl
  bare (Mul a b) p q = refl
  bare (Neg a) p q = refl

  -- a record's line in its pieces
  pub node_is : (i : ℕ) (x : NodeKind)
      → ascii "n" ++ (decimal i ++ (ascii " [label=\"" ++ (kind x ++ (numbers m x ++ ascii "\"];\n")))) ≡ node_line m i x
  unfolding node_line node_text label ended ascii
  node_is i x = simp append_assoc

  pub length_node : (i : ℕ) (x : NodeKind) → length (node_line m i x) ≡ 1 + (length (decimal i) + (9 + (length (kind x) + (length (numbers m x) + 4))))
  unfolding ascii
  length_node i x =
      let behind = numbers m x ++ ascii "\"];\n" in
      omega (
        arith,
        ap length (node_is i x),
        length-append (decimal i) (ascii " [label=\"" ++ (kind x ++ behind)),
        length-append (kind x) behind,
        length-append (numbers m x) (ascii "\"];\n"),
      )

-- an operand's line in its pieces
pub edge_is : (i a : ℕ) → ascii "n" ++ (decimal i ++ (ascii " -> n" ++ (decimal a ++ ascii ";\n"))) ≡ edge_line i a
unfolding edge_line edge_text ended ascii
edge_is i a = simp append_assoc

pub length_edge : (i a : ℕ) → length (edge_line i a) ≡ 1 + (length (decimal i) + (5 + (length (decimal a) + 2)))
unfolding ascii
length_edge i a =
    omega (arith, ap length (edge_is i a), length-append (decimal i) (ascii " -> n" ++ (decimal a ++ ascii ";\n")), length-append (decimal a) (ascii ";\n"))

-- one operand's line, and two operands' lines
pub length_one : (i a : ℕ) → length (edges i (a ∷ [])) ≡ length (edge_line i a)
unfolding pieces
length_one i a = omega (arith, length-append (edge_line i a) [])

pub length_two : (i a b : ℕ) → length (edges i (a ∷ b ∷ [])) ≡ length (edge_line i a) + length (edge_line i b)
unfolding pieces
length_two i a b = omega (arith, length-append (edge_line i a) (edges i (b ∷ [])), length_one i b)
