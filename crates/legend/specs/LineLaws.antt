-- What a drawing's lines are, and where each stands.
use Rattle.std.specs.Prelude.{ℕ, zero, suc, ◌+◌, ◌<◌, true, List, [], ◌∷◌, ◌++◌, ◌≡◌, refl, get_or, length, take, map}
use Rattle.std.proofs.Common.{sym, ◌∙◌, ap, arith, append_assoc, append-nil, zero-add, add-zero, length-append}
use Rattle.std.proofs.Math.Path.{ap₂}
use Rattle.std.proofs.Math.ListN.{get_or-append}
use Rattle.std.proofs.Math.Seq.{get_or-append_seam}
use Rattle.std.proofs.lemmas.List.{get_or-append-add, get_or-map, length-map, length-take-le}
use Rattle.dag.specs.Nodes.{at, operands}
use Rattle.dag.specs.declared.NodeKind.{NodeKind}
use Rattle.dag.specs.declared.NodeKind.TheVariants.{Input, Constant, Add, Sub, Mul, Neg}
use Rattle.text.specs.Text.{ascii, decimal, integer, ended, newline, pieces, rows}
use Rattle.wording.specs.Kinds.{kind}
use Rattle.signed.specs.Signed.{signed}
use Rattle.draw.specs.Drawing.{label, numbers, coordinate, node_text, edge_text, node_line, edge_line, edges, closing, drawing}
use Rattle.legend.specs.Lines.{grow, cut, lines_of, record_lines, operand_lines, each, legend, operand_count}
use Rattle.legend.specs.ReadLaws.{above, above_both, cut_piece, decimal_above, integer_above}

label_plain : (m : ℕ) (x : NodeKind) → above newline (label m x) ≡ true
unfolding label numbers coordinate kind ascii
label_plain m (Input k) = decimal_above newline k (omega arith)
label_plain m (Constant c) =
    above_both newline (integer (signed m c.c0)) (32 ∷ integer (signed m c.c1)) (integer_above newline _ (omega arith)) (integer_above newline _ (omega arith))
label_plain m (Add a b) = refl
label_plain m (Sub a b) = refl
label_plain m (Mul a b) = refl
label_plain m (Neg a) = refl

-- a line cut off a text
line_cut : (w s : List ℕ) → above newline w ≡ true → lines_of (ended w newline ++ s) ≡ w ∷ lines_of s
unfolding ended
line_cut w s h = ap lines_of (append_assoc w (newline ∷ []) s) ∙ cut_piece newline w s h

cut_record : (m i : ℕ) (x : NodeKind) (s : List ℕ) → lines_of (node_line m i x ++ s) ≡ record_lines m i x ++ lines_of s
unfolding node_line node_text ascii
cut_record m i x s = line_cut (node_text m i x) s (above_both newline (decimal i) _ (decimal_above newline i (omega arith)) (above_both newline (label m x) _ (label_plain m x) refl))

cut_operand : (i a : ℕ) (s : List ℕ) → lines_of (edge_line i a ++ s) ≡ edge_text i a ∷ lines_of s
unfolding edge_line edge_text ascii
cut_operand i a s = line_cut (edge_text i a) s (above_both newline (decimal i) _ (decimal_above newline i (omega arith)) (above_both newline (decimal a) _ (decimal_above newline a (omega arith)) refl))

cut_operands : (i : ℕ) (ops s : List ℕ) → lines_of (edges i ops ++ s) ≡ map (edge_text i) ops ++ lines_of s
unfolding pieces
cut_operands i [] s = refl
cut_operands i (a ∷ ops) s =
    ap lines_of (append_assoc (edge_line i a) (edges i ops) s) ∙ (cut_operand i a (edges i ops ++ s) ∙ ap (λ t. edge_text i a ∷ t) (cut_operands i ops s))

-- rows, from the first on
rows_first : (row : ℕ → List ℕ) (n : ℕ) → rows row (suc n) ≡ row 0 ++ rows (λ i. row (suc i)) n
unfolding rows
rows_first row zero = sym (append-nil (row 0))
rows_first row (suc n) = ap (λ t. t ++ row (suc n)) (rows_first row n) ∙ append_assoc (row 0) (rows (λ i. row (suc i)) n) (row (suc n))

module _ (f : ℕ → NodeKind → List (List ℕ)) where
  cut_rows : (i : ℕ) (l : List NodeKind) (row : ℕ → List ℕ) (s : List ℕ) → ((n : ℕ) (s : List ℕ) → lines_of (row n ++ s) ≡ f (i + n) (at l n) ++ lines_of s)
      → lines_of (rows row (length l) ++ s) ≡ each f i l ++ lines_of s
  unfolding rows each at
  cut_rows i [] row s h = refl
  cut_rows i (x ∷ l) row s h =
      let behind = rows (λ n. row (suc n)) (length l) in
      let rest = cut_rows (suc i) l (λ n. row (suc n)) s (λ n s. let e : i + suc n ≡ suc i + n = omega arith in rw (← e) (h (suc n) s)) in
      ap lines_of (ap (λ t. t ++ s) (rows_first row (length l)) ∙ append_assoc (row 0) behind s)
      ∙ (h 0 (behind ++ s) ∙ (ap₂ (λ k t. f k x ++ t) (add-zero i) rest ∙ sym (append_assoc (f i x) (each f (suc i) l) (lines_of s))))

  -- where the lines of one record stand
  placed : (i : ℕ) (l : List NodeKind) (n j : ℕ) (s : List (List ℕ)) → n < length l → j < length (f (i + n) (at l n)) → get_or (each f i l ++ s) (length (each f i (take n l)) + j) [] ≡ get_or (f (i + n) (at l n)) j []
  unfolding each at
  placed i [] n j s h k = absurd (omega arith)
  placed i (x ∷ l) zero j s h k =
      rw (zero-add j, append_assoc (f i x) (each f (suc i) l) s, add-zero i) (get_or-append (f i x) (each f (suc i) l ++ s) [] j (rw (add-zero i) at k))
  placed i (x ∷ l) (suc n) j s h k =
      let e : i + suc n ≡ suc i + n = omega arith in
      let before = each f (suc i) (take n l) in
      let index : length (f i x ++ before) + j ≡ length (f i x) + (length before + j) = omega (arith, length-append (f i x) before) in
      rw (e, index, append_assoc (f i x) (each f (suc i) l) s) (get_or-append-add (f i x) (each f (suc i) l ++ s) (length before + j) [] ∙ placed (suc i) l n j s (omega arith) (rw e at k))

-- how many lines there are
count_records : (m i : ℕ) (l : List NodeKind) → length (each (record_lines m) i l) ≡ length l
unfolding each
count_records m i [] = refl
count_records m i (x ∷ l) = ap suc (count_records m (suc i) l)

count_operands : (i : ℕ) (l : List NodeKind) → length (each operand_lines i l) ≡ operand_count l
unfolding each operand_count
count_operands i [] = refl
count_operands i (x ∷ l) = omega (arith, length-append (operand_lines i x) (each operand_lines (suc i) l), length-map (operands x) (edge_text i), count_operands (suc i) l)

module _ (m : ℕ) (l : List NodeKind) where
  pub legend_is : lines_of (drawing m l) ≡ legend m l
  unfolding drawing legend cut grow ascii
  legend_is =
      let both = rows (λ i. edges i (operands (at l i))) (length l) ++ closing in
      ap (λ t. ascii "digraph g {" ∷ t)
      (cut_rows (record_lines m) 0 l _ both (λ n s. rw (zero-add n) (cut_record m n (at l n) s))
      ∙ ap (λ t. each (record_lines m) 0 l ++ t) (cut_rows operand_lines 0 l _ closing (λ n s. rw (zero-add n) (cut_operands n (operands (at l n)) s))))

  pub length_legend : length (legend m l) ≡ 1 + length l + operand_count l + 1
  unfolding legend
  length_legend =
      let arrows = each operand_lines 0 l in
      omega (arith, length-append (each (record_lines m) 0 l) (arrows ++ (ascii "}" ∷ [])), length-append arrows (ascii "}" ∷ []), count_records m 0 l, count_operands 0 l)

  -- where each line stands
  pub record_at : (i : ℕ) → i < length l → get_or (legend m l) (i + 1) [] ≡ node_text m i (at l i)
  unfolding legend
  record_at i h =
      let index : i + 1 ≡ suc (length (each (record_lines m) 0 (take i l)) + 0) = omega (arith, count_records m 0 (take i l), length-take-le i l (omega arith)) in
      rw index (placed (record_lines m) 0 l i 0 (each operand_lines 0 l ++ (ascii "}" ∷ [])) h (omega arith) ∙ ap (λ k. node_text m k (at l i)) (zero-add i))

  behind_records : (k : ℕ) → get_or (legend m l) (1 + length l + k) [] ≡ get_or (each operand_lines 0 l ++ (ascii "}" ∷ [])) k []
  unfolding legend
  behind_records k =
      let index : 1 + length l + k ≡ suc (length (each (record_lines m) 0 l) + k) = omega (arith, count_records m 0 l) in
      rw index (get_or-append-add (each (record_lines m) 0 l) (each operand_lines 0 l ++ (ascii "}" ∷ [])) k [])

  pub operand_at : (i j : ℕ) → i < length l → j < length (operands (at l i))
      → get_or (legend m l) (1 + length l + (operand_count (take i l) + j)) [] ≡ edge_text i (get_or (operands (at l i)) j 0)
  operand_at i j h k =
      let here = placed operand_lines 0 l i j (ascii "}" ∷ []) h (omega (arith, length-map (operands (at l i)) (edge_text (0 + i)))) in
      rw (behind_records (operand_count (take i l) + j), ← (count_operands 0 (take i l)), here, zero-add i) (get_or-map (edge_text i) (operands (at l i)) j 0 [] k)

  pub closed : get_or (legend m l) (1 + length l + operand_count l) [] ≡ ascii "}"
  closed = behind_records (operand_count l) ∙ rw (← (count_operands 0 l)) (get_or-append_seam (each operand_lines 0 l) (ascii "}") [] [])
