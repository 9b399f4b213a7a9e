-- What the builder's code reads off a store is what the steps say of its list.
use Rattle.std.specs.Prelude.{ℕ, ◌+◌, ◌<◌, List, length}
use Rattle.std.proofs.Math.Path.{◌≡◌, sym}
use Rattle.std.proofs.Common.{◌∙◌, ap, arith}
use Rattle.field.specs.Fields.{Field, Low, element_laws}
use Rattle.dag.specs.View.{View}
use Rattle.dag.specs.Nodes.{record_at, nodes, at}
use Rattle.dag.specs.NodeLaws.{at_nodes, length_nodes}
use Rattle.dag.specs.Store.{Sound}
use Rattle.dag.specs.StoreLaws.{sound_well_formed}
use Rattle.dag.specs.WellFormed.{Fine, WellFormed}
use Rattle.dag.specs.declared.NodeKind.{NodeKind}
use Rattle.dag.specs.declared.NodeKind.TheVariants.{Input, Constant, Add, Sub, Mul, Neg}
use Rattle.builder.specs.Steps.{is_constant, element, follow, add_rule, sub_rule, add_outcome, sub_outcome}
use Rattle.builder.specs.StepLaws.{add_unfold, sub_unfold, add_hands_lower, sub_hands_lower}
use Rattle.builder.specs.Promises.{ConstantBelow, ConstantsBelow, Operands}
use Rattle.builder.specs.declared.Rule.{Rule}
use Rattle.builder.specs.declared.Rule.TheVariants.{HandOver}

module _ (field : Field) where
  -- a constant that may stand somewhere is in lowest form
  pub constant_below : (i : ℕ) (x : NodeKind) → Fine (Low field) i x → ConstantBelow field x
  unfolding Fine is_constant element
  constant_below i (Input k) f e = let z : ◌≡◌ {A = ℕ} 0 1 = cc in absurd (omega arith)
  constant_below i (Constant c) f e = f
  constant_below i (Add a b) f e = let z : ◌≡◌ {A = ℕ} 0 1 = cc in absurd (omega arith)
  constant_below i (Sub a b) f e = let z : ◌≡◌ {A = ℕ} 0 1 = cc in absurd (omega arith)
  constant_below i (Mul a b) f e = let z : ◌≡◌ {A = ℕ} 0 1 = cc in absurd (omega arith)
  constant_below i (Neg a) f e = let z : ◌≡◌ {A = ℕ} 0 1 = cc in absurd (omega arith)

  module _ (s : View) (n : ℕ) (sound : Sound field.bounds s n) where
    l : List NodeKind
    l = nodes s n

    pub list_fine : WellFormed (Low field) (nodes s n)
    list_fine = sound_well_formed field.bounds s n sound

    pub at_below : (i : ℕ) (x : NodeKind) → i < n → x ≡ record_at s i → ConstantBelow field x
    unfolding WellFormed
    at_below i x h e = rw (e, ← at_nodes s n i h) (constant_below i (at (nodes s n) i) (list_fine i))

  -- operands a, b of a store, whose records the code has read
  module _ {s : View} {n a b : ℕ} (ops : Operands field s n a b) {x y : NodeKind} (ex : x ≡ record_at s a) (ey : y ≡ record_at s b) where
    fine : WellFormed (Low field) (nodes s n)
    fine = list_fine s n ops.sound

    pub operands_below : ConstantsBelow field x y
    operands_below =
        record {
          left = at_below s n ops.sound a x ops.left_inside ex;
          right = at_below s n ops.sound b y ops.right_inside ey;
        }

    read_a : at (nodes s n) a ≡ x
    read_a = at_nodes s n a ops.left_inside ∙ sym ex

    read_b : at (nodes s n) b ≡ y
    read_b = at_nodes s n b ops.right_inside ∙ sym ey

    inside_a : a < length (nodes s n)
    inside_a = rw (length_nodes s n) ops.left_inside

    inside_b : b < length (nodes s n)
    inside_b = rw (length_nodes s n) ops.right_inside

    lower : (c d : ℕ) → (c < length (nodes s n)) × (d < length (nodes s n)) × (c + d < a + b) → (c + d < a + b) × Operands field s n c d
    lower c d h =
        (h.2, record { sound = ops.sound; left_inside = omega (arith, length_nodes s n); right_inside = omega (arith, length_nodes s n) })

    -- what add's rule says is what add comes to
    pub add_told : {q : Rule} → q ≡ add_rule field.elements x y a b → follow field.elements q (sub_outcome field.elements (nodes s n)) ≡ add_outcome field.elements (nodes s n) a b
    add_told e =
        ap (λ k. follow field.elements k (sub_outcome field.elements (nodes s n))) e
        ∙ sym (add_unfold field.elements (element_laws field) (nodes s n) fine a b ∙ rw (read_a, read_b))

    pub add_lower : {c d : ℕ} → HandOver c d ≡ add_rule field.elements x y a b → (c + d < a + b) × Operands field s n c d
    add_lower {c} {d} e = lower c d (add_hands_lower field.elements (element_laws field) (nodes s n) fine a b c d inside_a inside_b (rw (read_a, read_b) (sym e)))

    -- what sub's rule says is what sub comes to
    pub sub_told : {q : Rule} → q ≡ sub_rule field.elements x y a b → follow field.elements q (add_outcome field.elements (nodes s n)) ≡ sub_outcome field.elements (nodes s n) a b
    sub_told e =
        ap (λ k. follow field.elements k (add_outcome field.elements (nodes s n))) e
        ∙ sym (sub_unfold field.elements (element_laws field) (nodes s n) fine a b ∙ rw (read_a, read_b))

    pub sub_lower : {c d : ℕ} → HandOver c d ≡ sub_rule field.elements x y a b → (c + d < a + b) × Operands field s n c d
    sub_lower {c} {d} e = lower c d (sub_hands_lower field.elements (element_laws field) (nodes s n) fine a b c d inside_a inside_b (rw (read_a, read_b) (sym e)))
