-- Lines tell their records and operands, and so a list's lines tell the list.
use Rattle.std.specs.Prelude.{ℕ, suc, List, [], ◌∷◌, ◌++◌, ◌≡◌, refl, get_or, length, map, Ok}
use Rattle.std.proofs.Common.{sym, ◌∙◌, ap, arith, append_assoc}
use Rattle.std.proofs.Math.Path.{ap₂}
use Rattle.std.proofs.lemmas.List.{append_cancel_left, append_cancel_right}
use Rattle.field.specs.Fields.{Low, modulus, field_of}
use Rattle.field.specs.declared.Prime.{Prime}
use Rattle.dag.specs.Nodes.{nodes, at, operands}
use Rattle.dag.specs.View.{View}
use Rattle.dag.specs.Check.{list_check}
use Rattle.dag.specs.CheckLaws.{check_well_formed}
use Rattle.dag.specs.PassLaws.{rooted}
use Rattle.dag.specs.WellFormed.{WellFormed}
use Rattle.dag.specs.declared.NodeKind.{NodeKind}
use Rattle.dag.specs.declared.NodeKind.TheVariants.{Input, Constant, Add, Sub, Mul, Neg}
use Rattle.text.specs.Text.{ascii, decimal}
use Rattle.wording.specs.Kinds.{kind}
use Rattle.signed.specs.Signed.{signed}
use Rattle.signed.specs.SignedLaws.{signed_same}
use Rattle.draw.specs.Drawing.{label, numbers, coordinate, node_text, edge_text}
use Rattle.draw.specs.Promises.{LowConstant}
use Rattle.draw.specs.SizeLaws.{low_constant}
use Rattle.legend.specs.Lines.{each, record_lines, operand_lines, legend, CoordinatesBelow}
use Rattle.legend.specs.ReadLaws.{parted, decimal_same, decimal_above, integer_same, integer_above}

-- what is behind the place that a line begins with
behind_place : (i j : ℕ) (s t : List ℕ) → 110 ∷ (decimal i ++ (32 ∷ s)) ≡ 110 ∷ (decimal j ++ (32 ∷ t)) → s ≡ t
behind_place i j s t e = (parted 32 (decimal i) (decimal j) s t (decimal_above 32 i (omega arith)) (decimal_above 32 j (omega arith)) cc).1

-- a line tells the label or the operand, and which of the two it has
label_same : (m i : ℕ) (x y : NodeKind) → node_text m i x ≡ node_text m i y → label m x ≡ label m y
unfolding node_text ascii
label_same m i x y e = append_cancel_right (label m x) (label m y) (ascii "\"];") (append_cancel_left (ascii "[label=\"") _ _ (behind_place i i _ _ e))

operand_same : (i a b : ℕ) → edge_text i a ≡ edge_text i b → a ≡ b
unfolding edge_text ascii
operand_same i a b e = decimal_same a b (append_cancel_right (decimal a) (decimal b) (ascii ";") (append_cancel_left (ascii "-> n") _ _ (behind_place i i _ _ e)))

arrow_apart : (m i j a : ℕ) (x : NodeKind) → ¬ (edge_text j a ≡ node_text m i x)
unfolding edge_text node_text ascii
arrow_apart m i j a x e = let first = ap (λ t. get_or t 0 0) (behind_place j i _ _ e) in absurd (omega arith)

-- lines that don't begin with a record's
abbrev Behind : ℕ → List (List ℕ) → Type 0
Behind m s = (i : ℕ) (x : NodeKind) (t : List (List ℕ)) → ¬ (s ≡ node_text m i x ∷ t)

operands_behind : (m j : ℕ) (l : List NodeKind) → Behind m (each operand_lines j l ++ (ascii "}" ∷ []))
unfolding each operands node_text ascii
operands_behind m j [] i x t e = let z : ◌≡◌ {A = ℕ} 125 110 = cc in absurd (omega arith)
operands_behind m j (Input k ∷ l) i x t e = operands_behind m (suc j) l i x t e
operands_behind m j (Constant c ∷ l) i x t e = operands_behind m (suc j) l i x t e
operands_behind m j (Add a b ∷ l) i x t e = arrow_apart m i j a x cc
operands_behind m j (Sub a b ∷ l) i x t e = arrow_apart m i j a x cc
operands_behind m j (Mul a b ∷ l) i x t e = arrow_apart m i j a x cc
operands_behind m j (Neg a ∷ l) i x t e = arrow_apart m i j a x cc

-- the lines of records tell the labels, and what is behind them
labels_same : (m i : ℕ) (l k : List NodeKind) (s t : List (List ℕ)) → Behind m s → Behind m t → each (record_lines m) i l ++ s ≡ each (record_lines m) i k ++ t
    → (map (label m) l ≡ map (label m) k) × (s ≡ t)
unfolding each
labels_same m i [] [] s t f g e = (refl, e)
labels_same m i (x ∷ l) [] s t f g e = absurd (g i x _ (sym e))
labels_same m i [] (y ∷ k) s t f g e = absurd (f i y _ e)
labels_same m i (x ∷ l) (y ∷ k) s t f g e =
    let rest = labels_same m (suc i) l k s t f g cc in
    (ap₂ ◌∷◌ (label_same m i x y cc) rest.0, rest.1)

module _ (m : ℕ) where
  -- a label and the operands tell the record
  record_same : (i : ℕ) (x y : NodeKind) (s t : List (List ℕ)) → LowConstant m x → LowConstant m y
      → label m x ≡ label m y → operand_lines i x ++ s ≡ operand_lines i y ++ t → (x ≡ y) × (s ≡ t)
  unfolding label numbers coordinate kind ascii operands
  record_same i (Input k) (Input h) s t f g e p = (ap Input (decimal_same k h cc), p)
  record_same i (Constant c) (Constant d) s t f g e p =
      let both = parted 32 _ _ _ _ (integer_above 32 (signed m c.c0) (omega arith)) (integer_above 32 (signed m d.c0) (omega arith)) cc in
      let first = signed_same m c.c0 d.c0 f.0 g.0 (integer_same _ _ both.0) in
      let second = signed_same m c.c1 d.c1 f.1 g.1 (integer_same _ _ both.1) in
      (ap₂ (λ a b. Constant (record { c0 = a; c1 = b })) first second, p)
  record_same i (Add a b) (Add c d) s t f g e p = (ap₂ Add (operand_same i a c cc) (operand_same i b d cc), cc)
  record_same i (Sub a b) (Sub c d) s t f g e p = (ap₂ Sub (operand_same i a c cc) (operand_same i b d cc), cc)
  record_same i (Mul a b) (Mul c d) s t f g e p = (ap₂ Mul (operand_same i a c cc) (operand_same i b d cc), cc)
  record_same i (Neg a) (Neg c) s t f g e p = (ap Neg (operand_same i a c cc), cc)
  record_same i x y s t f g e p = let first = ap (λ t. get_or t 0 0) e in absurd (omega arith)

  list_same : (i : ℕ) (l k : List NodeKind) (s t : List (List ℕ)) → CoordinatesBelow m l → CoordinatesBelow m k → map (label m) l ≡ map (label m) k
      → each operand_lines i l ++ s ≡ each operand_lines i k ++ t → l ≡ k
  unfolding each CoordinatesBelow at
  list_same i [] [] s t f g e h = refl
  list_same i (x ∷ l) [] s t f g e h = let count = ap length e in absurd (omega arith)
  list_same i [] (y ∷ k) s t f g e h = let count = ap length e in absurd (omega arith)
  list_same i (x ∷ l) (y ∷ k) s t f g e h =
      let same : (label m x ≡ label m y) × (map (label m) l ≡ map (label m) k) = (cc, cc) in
      let lines = sym (append_assoc (operand_lines i x) (each operand_lines (suc i) l) s) ∙ (h ∙ append_assoc (operand_lines i y) (each operand_lines (suc i) k) t) in
      let one = record_same i x y _ _ (f 0) (g 0) same.0 lines in
      ap₂ ◌∷◌ one.0 (list_same (suc i) l k s t (λ j. f (suc j)) (λ j. g (suc j)) same.1 one.1)

  pub legend_same : (l k : List NodeKind) → CoordinatesBelow m l → CoordinatesBelow m k → legend m l ≡ legend m k → l ≡ k
  unfolding legend
  legend_same l k f g e =
      let both = labels_same m 0 l k _ _ (operands_behind m 0 l) (operands_behind m 0 k) cc in
      list_same 0 l k _ _ f g both.0 both.1

-- the lists of both fields have such coordinates
pub coordinates_low : (prime : Prime) (l : List NodeKind) → WellFormed (Low (field_of prime)) l → CoordinatesBelow (modulus (field_of prime)) l
unfolding WellFormed CoordinatesBelow
coordinates_low prime l f i = low_constant prime i (at l i) (f i)

pub held : (prime : Prime) (s : View) (n : ℕ) (roots : List ℕ) → list_check (field_of prime).bounds s n roots ≡ Ok tt → WellFormed (Low (field_of prime)) (nodes s n)
held prime s n roots e = let b = (field_of prime).bounds in check_well_formed b s n (rooted b s n roots e).list.sound.good
