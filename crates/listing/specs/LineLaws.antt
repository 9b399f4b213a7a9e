-- The lines of a listing, piece after piece, and how long they are.
use Rattle.std.specs.Prelude.{ℕ, ◌+◌, ◌*◌, ◌≤◌, List, [], ◌∷◌, ◌++◌, ◌≡◌, refl, map, length}
use Rattle.std.proofs.Common.{append_assoc, sym, ◌∙◌, ap, arith, length-append}
use Rattle.dag.specs.View.{View}
use Rattle.dag.specs.Nodes.{nodes, first, second}
use Rattle.dag.specs.NodeLaws.{length_nodes}
use Rattle.dag.specs.Roots.{roots_of}
use Rattle.dag.specs.declared.NodeKind.{NodeKind}
use Rattle.compact.specs.Promises.{AllBelow}
use Rattle.compact.specs.Reach.{here, there}
use Rattle.normalize.specs.declared.NormalEnd.{NormalEnd}
use Rattle.text.specs.Text.{ascii, decimal, ended, named, pieces, line, space, newline}
use Rattle.text.specs.DecimalLaws.{number_short}
use Rattle.listing.specs.Promises.{spaced, answer_text}
use Rattle.wording.specs.Kinds.{kind}
use Rattle.listing.specs.Listing.{first_line, record_line, record_lines, listed}

-- numbers of at most four digits
pub spaced_short : (n : ℕ) → n ≤ 10000 → (ns : List ℕ) → AllBelow n ns → length (spaced ns) ≤ 5 * length ns
unfolding pieces
spaced_short n h [] b = omega arith
spaced_short n h (k ∷ ns) b =
    let low = b k here in
    let more = spaced_short n h ns (λ i p. b i (there p)) in
    omega (arith, length-append (ended (decimal k) space) (spaced ns), number_short 3 k space (omega arith))

-- numbers within a line
line_spaced : (v : List ℕ) (ns w : List ℕ) (ws : List (List ℕ)) → line (v ∷ (map decimal ns ++ (w ∷ ws))) ≡ ended v space ++ (spaced ns ++ line (w ∷ ws))
unfolding pieces line
line_spaced v [] w ws = refl
line_spaced v (n ∷ ns) w ws = ap (λ t. ended v space ++ t) (line_spaced (decimal n) ns w ws ∙ sym (append_assoc (ended (decimal n) space) (spaced ns) (line (w ∷ ws))))

pub first_is : (count : ℕ) (roots : List ℕ) (rounds : ℕ)
    → named (ascii "nodes") count space ++ (ended (ascii "root") space ++ (spaced roots ++ named (ascii "rounds") rounds newline)) ≡ first_line count roots rounds
unfolding named first_line line
first_is count roots rounds = rw (line_spaced (ascii "root") roots (ascii "rounds") (decimal rounds ∷ [])) (simp append_assoc)

-- the lengths of lines by their pieces
pub length_record : (i : ℕ) (x : NodeKind)
    → length (record_line i x) ≡ length (ended (decimal i) space) + (length (ended (kind x) space) + (length (ended (decimal (first x)) space) + length (ended (decimal (second x)) newline)))
unfolding record_line line
length_record i x = simp length-append

pub length_first : (count : ℕ) (roots : List ℕ) (rounds : ℕ)
    → length (first_line count roots rounds) ≡ length (named (ascii "nodes") count space) + (length (ended (ascii "root") space) + (length (spaced roots) + length (named (ascii "rounds") rounds newline)))
length_first count roots rounds = sym (ap length (first_is count roots rounds)) ∙ simp length-append

pub answer_is : (s : View) (e : NormalEnd) → first_line e.dag.count (roots_of e.dag.roots) e.rounds ++ record_lines (nodes s e.dag.count) e.dag.count ≡ answer_text s e
unfolding answer_text listed
answer_is s e = rw (length_nodes s e.dag.count)

pub length_answer : (s : View) (e : NormalEnd) → length (answer_text s e) ≡ length (first_line e.dag.count (roots_of e.dag.roots) e.rounds) + length (record_lines (nodes s e.dag.count) e.dag.count)
length_answer s e = sym (ap length (answer_is s e)) ∙ simp length-append
