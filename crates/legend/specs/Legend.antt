-- What a drawing says: every record once and in order, then every operand, and nothing else; and no two lists have the same.
use Rattle.std.specs.Prelude.{ℕ, ◌+◌, ◌<◌, List, [], ◌≡◌, get_or, refl, length, take, Ok}
use Rattle.std.proofs.Common.{sym, ◌∙◌, ap}
use Rattle.field.specs.Fields.{Low, modulus, field_of}
use Rattle.field.specs.declared.Prime.{Prime}
use Rattle.dag.specs.View.{View}
use Rattle.dag.specs.Nodes.{nodes, at, operands}
use Rattle.dag.specs.NodeLaws.{length_nodes}
use Rattle.dag.specs.Check.{list_check}
use Rattle.dag.specs.WellFormed.{WellFormed}
use Rattle.dag.specs.declared.NodeKind.{NodeKind}
use Rattle.text.specs.Text.{ascii}
use Rattle.draw.specs.Drawing.{node_text, edge_text, drawing}
use Rattle.draw.specs.Calls.{drawn}
use Rattle.legend.specs.Lines.{lines_of, legend, operand_count, CoordinatesBelow}
use Rattle.legend.specs.LineLaws.{legend_is, record_at, operand_at, closed, length_legend}
use Rattle.legend.specs.SameLaws.{legend_same, coordinates_low, held}

module _ (m : ℕ) (l : List NodeKind) where
  -- the drawing's lines
  pub lines : lines_of (drawing m l) ≡ legend m l
  lines = legend_is m l

  -- line i + 1 is the line of the record at place i
  pub names_every_record : (i : ℕ) → i < length l → get_or (lines_of (drawing m l)) (i + 1) [] ≡ node_text m i (at l i)
  names_every_record i h = rw lines (record_at m l i h)

  -- behind them stand the lines of the operands, record by record, first before second
  pub names_every_operand : (i j : ℕ) → i < length l → j < length (operands (at l i))
      → get_or (lines_of (drawing m l)) (1 + length l + (operand_count (take i l) + j)) [] ≡ edge_text i (get_or (operands (at l i)) j 0)
  names_every_operand i j h k = rw lines (operand_at m l i j h k)

  -- one line is before them and one behind, and there is no other
  pub nothing_else : (get_or (lines_of (drawing m l)) 0 [] ≡ ascii "digraph g {")
      × (get_or (lines_of (drawing m l)) (1 + length l + operand_count l) [] ≡ ascii "}")
      × (length (lines_of (drawing m l)) ≡ 1 + length l + operand_count l + 1)
  unfolding legend
  nothing_else = rw lines (refl, closed m l, length_legend m l)

-- a drawing tells the list, where all coordinates are below the modulus
pub tells : (m : ℕ) (l k : List NodeKind) → CoordinatesBelow m l → CoordinatesBelow m k → drawing m l ≡ drawing m k → l ≡ k
tells m l k f g e = legend_same m l k f g (sym (lines m l) ∙ (ap lines_of e ∙ lines m k))

module _ (prime : Prime) where
  -- lists that are well-formed for one field and have the same drawing are the same
  pub same_drawing : (l k : List NodeKind) → WellFormed (Low (field_of prime)) l → WellFormed (Low (field_of prime)) k
      → drawing (modulus (field_of prime)) l ≡ drawing (modulus (field_of prime)) k → l ≡ k
  same_drawing l k f g e = tells (modulus (field_of prime)) l k (coordinates_low prime l f) (coordinates_low prime k g) e

  -- two stores that pass the list check of one field and have the same drawing hold the same list
  pub same_list : (s t : View) (n k : ℕ) (roots tops : List ℕ) → list_check (field_of prime).bounds s n roots ≡ Ok tt → list_check (field_of prime).bounds t k tops ≡ Ok tt
      → drawn (field_of prime) s n ≡ drawn (field_of prime) t k → (n ≡ k) × (nodes s n ≡ nodes t k)
  unfolding drawn
  same_list s t n k roots tops f g e =
      let same = same_drawing (nodes s n) (nodes t k) (held prime s n roots f) (held prime t k tops g) e in
      (sym (length_nodes s n) ∙ (ap length same ∙ length_nodes t k), same)
