-- How long a listing is at most: 53 bytes a record and 68 besides.
use Prim.Native.Nat.{ℕ, ◌*◌, ◌^◌, ◌≤◌, ◌<◌}
use Rattle.std.specs.Prelude.{List, length}
use native.Mathlib.Omega.{arith}
use Rattle.std.proofs.Common.{length-append}
use Rattle.field.specs.Fields.{Within, goldilocks, element_laws}
use Rattle.dag.specs.View.{View}
use Rattle.dag.specs.Nodes.{nodes, at, first, second}
use Rattle.dag.specs.NodeLaws.{length_nodes}
use Rattle.dag.specs.CheckLaws.{then_good}
use Rattle.dag.specs.PassLaws.{Rooted, rooted}
use Rattle.dag.specs.Roots.{most_roots}
use Rattle.dag.specs.RootLaws.{root_count}
use Rattle.dag.specs.WellFormed.{Fine, WellFormed}
use Rattle.dag.specs.declared.NodeKind.{NodeKind}
use Rattle.dag.specs.declared.NodeKind.TheVariants.{Input, Constant, Add, Sub, Mul, Neg}
use Rattle.builder.specs.OutcomeLaws.{list_fine}
use Rattle.compact.specs.OperandLaws.{roots_below}
use Rattle.compact.specs.Promises.{AllBelow}
use Rattle.normalize.specs.Demand3.{as_many_roots, answer_well_formed, never_more, rounds_at_most_lost}
use Rattle.normalize.specs.Rounds.{normalize}
use Rattle.normalize.specs.Calls.{normalized}
use Rattle.text.specs.Text.{ascii, ended}
use Rattle.text.specs.DecimalLaws.{number_short, word_short, named_short}
use Rattle.house_file.specs.File.{most_filed, file_count, file_roots, file_view, form_check, held_check, file_check}
use Rattle.house_file.specs.FileLaws as FileLaws
use Rattle.dag.specs.KeyLaws.{key_word}
use Rattle.wording.specs.KindLaws.{kind_short}
use Rattle.wording.specs.Refused.{refused_line}
use Rattle.wording.specs.RefusedLaws.{refused_most}
use Rattle.house_file.specs.NearLaws.{made_most}
use Rattle.text.specs.PieceLaws.{rows_most}
use Rattle.listing.specs.LineLaws.{spaced_short, length_record, length_first}
use Rattle.listing.specs.Listing.{first_line, record_line, record_lines, listed, held_listing, listing, most_bytes}

-- the words of a record that may stand at a place
module _ (i : ℕ) (h : i < 10000) where
  first_word_lem : (x : NodeKind) → Fine (Within goldilocks.bounds) i x → first x < 2 ^ 64
  unfolding Fine
  first_word_lem (Input k) f = key_word k f
  first_word_lem (Constant c) f = omega (arith, f.0)
  first_word_lem (Add a b) f = omega (arith, f.0)
  first_word_lem (Sub a b) f = omega (arith, f.0)
  first_word_lem (Mul a b) f = omega (arith, f.0)
  first_word_lem (Neg a) f = omega (arith, f)

  second_word_lem : (x : NodeKind) → Fine (Within goldilocks.bounds) i x → second x < 2 ^ 64
  unfolding Fine
  second_word_lem (Input k) f = omega arith
  second_word_lem (Constant c) f = omega (arith, f.1)
  second_word_lem (Add a b) f = omega (arith, f.1)
  second_word_lem (Sub a b) f = omega (arith, f.1)
  second_word_lem (Mul a b) f = omega (arith, f.1)
  second_word_lem (Neg a) f = omega arith

  record_most : (x : NodeKind) → Fine (Within goldilocks.bounds) i x → length (record_line i x) ≤ 53
  record_most x f =
      omega (arith, length_record i x, number_short 3 i 32 h, kind_short x, word_short (first x) 32 (first_word_lem x f), word_short (second x) 10 (second_word_lem x f))

first_most : (count : ℕ) (roots : List ℕ) (rounds : ℕ) → count < 10000 → AllBelow count roots → length roots ≤ most_roots → rounds < 10000 → length (first_line count roots rounds) ≤ 68
unfolding ascii ended
first_most count roots rounds c low few k =
    omega (arith, length_first count roots rounds, named_short (ascii "nodes") count 32 c, spaced_short count (omega arith) roots low, named_short (ascii "rounds") rounds 10 k)

lines_most : (l : List NodeKind) → WellFormed (Within goldilocks.bounds) l → (n : ℕ) → n ≤ 10000 → length (record_lines l n) ≤ 53 * n
unfolding WellFormed
lines_most l w n h = rows_most (λ i. record_line i (at l i)) 53 n (λ i k. record_most i (omega arith) (at l i) (w i))

-- the listing of what Normalise answers
listed_most : (s : View) (n : ℕ) (roots : List ℕ) → Rooted goldilocks.bounds s n roots → length (listed (normalized goldilocks s n roots)) ≤ most_bytes n
unfolding listed normalized
listed_most s n roots h =
    let l = nodes s n in
    let few = h.list.most in
    let fine = list_fine goldilocks s n h.list.sound in
    let inside : AllBelow (length l) roots = rw (length_nodes s n) (roots_below n roots h.inside) in
    let a = normalize goldilocks.elements l roots in
    let w = answer_well_formed goldilocks.elements (element_laws goldilocks) l fine roots inside in
    let many = as_many_roots goldilocks.elements (element_laws goldilocks) l fine roots inside in
    let some = (root_count _ _ h.inside).1 in
    let fewer = never_more goldilocks.elements l roots in
    let lost = rounds_at_most_lost goldilocks.elements l roots in
    let len = length_nodes s n in
    let line = first_most (length a.list) a.roots a.rounds (omega arith) w.inside (omega arith) (omega arith) in
    let lines = lines_most a.list w.well_formed (length a.list) (omega arith) in
    omega (arith, length-append (first_line (length a.list) a.roots a.rounds) (record_lines a.list (length a.list)))

-- no listing of a house file is longer
pub listing_most : (file : List ℕ) → length (listing file) ≤ most_bytes most_filed
unfolding listing file_check held_check
listing_most =
    made_most refused_line held_listing (most_bytes most_filed) (λ r h k. omega (arith, refused_most r (omega arith) (omega arith)))
    (λ file e.
    let both = then_good (form_check file) (held_check file) e in
    let few = (FileLaws.formed file both.0).head.most in
    omega (arith, listed_most (file_view file) (file_count file) (file_roots file) (rooted goldilocks.bounds (file_view file) (file_count file) (file_roots file) both.1)))
