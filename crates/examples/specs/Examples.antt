-- Examples A to L, I and J in both fields, M of several roots, N of drawings and O of operations: each is an answer of a definition and the answer that is stated.
use Rattle.std.specs.Prelude.{ℕ, zero, suc, ◌*◌, ◌-◌, List, [], ◌∷◌, ◌++◌, map, ◌≡◌, refl, length, replicate, Err, Result, Ok}
use Rattle.field.specs.Fields.{field_of, goldilocks}
use Rattle.dag.specs.declared.Refusal.{Refusal}
use Rattle.dag.specs.Refusals.{first_refused, Checked}
use Rattle.dag.specs.declared.Refusal.TheVariants.{Malformed, RootNotLast}
use Rattle.field.specs.Field.{p, q, felt, elements, same, new}
use Rattle.field.specs.declared.Prime.TheVariants.{Goldilocks, BabyBear}
use Rattle.field.specs.declared.QuadFelt.{QuadFelt}
use Rattle.dag.specs.declared.NodeKind.{NodeKind}
use Rattle.dag.specs.declared.NodeKind.TheVariants.{Input, Constant, Add, Sub, Mul, Neg}
use Rattle.dag.specs.View.{interleaved}
use Rattle.dag.specs.Nodes.{blank, most_records, record_words, at, same_node, operands, rename, record_at, nodes, decode, words, words_of, filled}
use Rattle.dag.specs.Store.{stored}
use Rattle.dag.specs.Lookup.{greatest}
use Rattle.builder.specs.Steps.{is_constant, is_add, is_sub, is_mul, is_neg, element, is_the, low_first, add_rule, sub_rule, mul_outcome, neg_outcome, follow, add_within, sub_within, add_outcome, sub_outcome, outcome, interned, intern, enter, step, Built, place_of, recorded}
use Rattle.compact.specs.Reach.{marked, sweep, marks}
use Rattle.compact.specs.Compact.{rank, kept, compact, Rooted}
use Rattle.plan.specs.Plan.{count, mentions, fanout, shared_factor, common_factor, or_else, onto_before, existing_rotation, either_rotation, plan_of}
use Rattle.normalize.specs.Rounds.{planned, round, fired, rounded, is_kept, rounds_from, normalize, Normal}
use Rattle.columns.specs.Columns.{log_within, log_length, count as occurrences, is_sparse, standalone, places_from, with_new, values_from, values, weight, heaviest, dominant, is_scaled}
use Rattle.columns.specs.Columns.{scalings, combination_cost, offset, equal_entries, gain, same_entries, is_among, saving, savings, threshold, goes_over, form, form_number}
use Rattle.columns.specs.Prepare.{total, columns, prepare_check}
use Rattle.dag.specs.Arrays.{up_to, padded}
use Rattle.dag.specs.Keys.{is_key}
use Rattle.dag.specs.Check.{formed, earlier, record_check, check_at, room_check, rootless_check, roots_check, list_check}
use Rattle.periodic.specs.Builder.{turns, done}
use Rattle.periodic.specs.Periodic.{build_periodic_nodes}
use Rattle.lower.specs.Lower.{lower_room, lower_stores, period_good, lower_check, lowered, whole_check, lower_answer, lower_result}
use Rattle.normalize.specs.Calls.{normalized}
use Rattle.text.specs.Text.{ascii, digits, decimal, integer, ended, line, pieces, rows}
use Rattle.house_file.specs.File.{number, words_at, file_view, is_version, root_count, roots_place, file_root, is_count, head_check, form_check, held_check, file_check}
use Rattle.wording.specs.Kinds.{kind}
use Rattle.wording.specs.Refused.{refused_line}
use Rattle.listing.specs.Listing.{first_line, record_line, listed, listing}
use Rattle.signed.specs.Signed.{signed}
use Rattle.draw.specs.Drawing.{coordinate, numbers, label, node_text, edge_text, node_line, edge_line, drawing}
use Rattle.entries.specs.Entries.{entry_check, entries_check, entry_of, inputs_check}
use Rattle.circuit.specs.Circuit.{is_operation, operation_count, constants, constants_of, constant_node, node, operation_of, operations}
use Rattle.encode.specs.declared.EncodedCircuit.{EncodedCircuit}
use Rattle.encode.specs.Encode.{next_multiple_of, from_counts, num_nodes, node_id, encode_operation, encode_operations, square, padded_operations, constant_words, instructions}
use Rattle.encode.specs.Calls.{input_number, circuit_constants, circuit_operations, geometry, emitted, root_is_last, circuit_check, emit_check, encoded, emit_answer, emit_result}

-- the two sides of an example
pub record Example : Type 1 where
  pub Answer : Type 0
  pub computed : Answer
  pub stated : Answer

-- every example of a list comes out as stated
abbrev pub All : List Example → Type 0
All [] = Unit {0}
All (e ∷ es) = (e.computed ≡ e.stated) × All es

abbrev normal : List NodeKind → ℕ → ℕ → Normal
normal l root rounds = record { list = l; roots = root ∷ []; rounds = rounds }

abbrev built : List NodeKind → ℕ → Built
built l place = record { list = l; place = place }

-- the 17 bytes of a record with words below 256
abbrev filed : ℕ → ℕ → ℕ → List ℕ
filed t a b = t ∷ 0 ∷ 0 ∷ 0 ∷ 0 ∷ 0 ∷ 0 ∷ 0 ∷ a ∷ 0 ∷ 0 ∷ 0 ∷ 0 ∷ 0 ∷ 0 ∷ 0 ∷ b ∷ []

-- inputs 0, 1, 2, mul 0 1, mul 0 2, add 3 4, root 5: the listing, byte for byte
abbrev A : Example
A = record {
  Answer = List ℕ;
  computed = listing ((1 ∷ 0 ∷ 0 ∷ 0 ∷ 6 ∷ 0 ∷ 0 ∷ 0 ∷ 5 ∷ []) ++ filed 0 0 0 ++ filed 0 1 0 ++ filed 0 2 0 ++ filed 4 0 1 ++ filed 4 0 2 ++ filed 2 3 4);
  stated = ascii "nodes 5 root 4 rounds 1\n0 in 0 0\n1 in 1 0\n2 in 2 0\n3 add 1 2\n4 mul 0 3\n";
}

-- an operand that isn't earlier: the refused line
abbrev A-refused : Example
A-refused = record {
  Answer = List ℕ;
  computed = listing ((1 ∷ 0 ∷ 0 ∷ 0 ∷ 2 ∷ 0 ∷ 0 ∷ 0 ∷ 0 ∷ []) ++ filed 0 0 0 ++ filed 5 1 0);
  stated = ascii "refused 5 1\n";
}

abbrev B : Example
B = record {
  Answer = Normal;
  computed = normalize (elements Goldilocks) (Input 0 ∷ Input 1 ∷ Input 2 ∷ Add 0 2 ∷ Add 0 1 ∷ Add 2 4 ∷ Mul 3 5 ∷ []) (6 ∷ []);
  stated = normal (Input 0 ∷ Input 1 ∷ Input 2 ∷ Add 0 2 ∷ Add 1 3 ∷ Mul 3 4 ∷ []) 5 1;
}

-- two inputs with root 0: normalising returns both
abbrev C-normalized : Example
C-normalized = record {
  Answer = Normal;
  computed = normalize (elements Goldilocks) (Input 0 ∷ Input 1 ∷ []) (0 ∷ []);
  stated = normal (Input 0 ∷ Input 1 ∷ []) 0 0;
}

-- and compacting one
abbrev C-compacted : Example
C-compacted = record {
  Answer = Rooted;
  computed = compact (Input 0 ∷ Input 1 ∷ []) (0 ∷ []);
  stated = record { list = Input 0 ∷ []; roots = 0 ∷ [] };
}

-- sub(x, x) is the constant 0
abbrev D : Example
D = record {
  Answer = Built;
  computed = step (elements Goldilocks) (Input 0 ∷ []) (Sub 0 0);
  stated = built (Input 0 ∷ Constant (new 0 0) ∷ []) 1;
}

-- sub(0, x) stays
abbrev E : Example
E = record {
  Answer = Built;
  computed = step (elements Goldilocks) (Constant (new 0 0) ∷ Input 0 ∷ []) (Sub 0 1);
  stated = built (Constant (new 0 0) ∷ Input 0 ∷ Sub 0 1 ∷ []) 2;
}

-- neg(neg x) stays two Negs
abbrev F : Example
F = record {
  Answer = Built;
  computed = step (elements Goldilocks) (Input 0 ∷ Neg 0 ∷ []) (Neg 1);
  stated = built (Input 0 ∷ Neg 0 ∷ Neg 1 ∷ []) 2;
}

-- Neg plus Neg stays Add
abbrev G : Example
G = record {
  Answer = Built;
  computed = step (elements Goldilocks) (Input 0 ∷ Input 1 ∷ Neg 0 ∷ Neg 1 ∷ []) (Add 2 3);
  stated = built (Input 0 ∷ Input 1 ∷ Neg 0 ∷ Neg 1 ∷ Add 2 3 ∷ []) 4;
}

-- of two equal inputs the one at place 1 is answered
abbrev H : Example
H = record {
  Answer = Built;
  computed = step (elements Goldilocks) (Input 0 ∷ Input 0 ∷ []) (Input 0);
  stated = built (Input 0 ∷ Input 0 ∷ []) 1;
}

-- u × u = 7
abbrev I : Example
I = record { Answer = QuadFelt; computed = (elements Goldilocks).mul (new 0 1) (new 0 1); stated = new 7 0 }

-- in field 2 there is no u: a constant with c1 = 1 is refused with 4, and the like of u × u is (q − 1) × (q − 1) = 1
abbrev I-refused : Example
I-refused = record { Answer = Checked; computed = record_check (field_of BabyBear).bounds 1 0 1 0; stated = Err (Malformed 0) }

abbrev I-second : Example
I-second = record { Answer = QuadFelt; computed = (elements BabyBear).mul (new (q - 1) 0) (new (q - 1) 0); stated = new 1 0 }

-- (p − 1) + (p − 1) = p − 2
abbrev J : Example
J = record { Answer = ℕ; computed = (felt Goldilocks).add (p - 1) (p - 1); stated = p - 2 }

-- (q − 1) + (q − 1) = q − 2
abbrev J-second : Example
J-second = record { Answer = ℕ; computed = (felt BabyBear).add (q - 1) (q - 1); stated = q - 2 }

-- a column of 8 entries, 1 at place j and 0 elsewhere
unfoldable unit : ℕ → List ℕ
unit j = replicate j 0 ++ (1 ∷ replicate (7 - j) 0)

-- every choice of k places below n
unfoldable choices : ℕ → ℕ → List (List ℕ)
choices zero n = [] ∷ []
choices (suc k) zero = []
choices (suc k) (suc n) = choices (suc k) n ++ map (λ js. n ∷ js) (choices k n)

-- the savings of period 8, what they must exceed, and the columns' forms
abbrev savings_and_forms : List (List ℕ) → List ℕ
savings_and_forms cs = savings p cs 8 (length cs) ∷ threshold 8 ∷ up_to (λ j. form_number (form p cs j)) (length cs)

-- any three distinct unit columns of period 8 stay sparse: 51 against 7 · 8 + 2 = 58
abbrev K-three : Example
K-three = record {
  Answer = List (List ℕ);
  computed = map (λ js. savings_and_forms (map unit js)) (choices 3 8);
  stated = replicate 56 (51 ∷ 58 ∷ 0 ∷ 0 ∷ 0 ∷ []);
}

-- any four go to basis: those without place 7, and those with it
abbrev K-four-below : Example
K-four-below = record {
  Answer = List (List ℕ);
  computed = map (λ js. savings_and_forms (map unit js)) (choices 4 7);
  stated = replicate 35 (68 ∷ 58 ∷ 2 ∷ 2 ∷ 2 ∷ 2 ∷ []);
}

abbrev K-four-with : Example
K-four-with = record {
  Answer = List (List ℕ);
  computed = map (λ js. savings_and_forms (map unit (7 ∷ js))) (choices 3 7);
  stated = replicate 35 (68 ∷ 58 ∷ 2 ∷ 2 ∷ 2 ∷ 2 ∷ []);
}

-- four copies of any one stay sparse
abbrev K-copies : Example
K-copies = record {
  Answer = List (List ℕ);
  computed = map (λ js. savings_and_forms (map unit (js ++ js ++ js ++ js))) (choices 1 8);
  stated = replicate 8 (17 ∷ 58 ∷ 0 ∷ 0 ∷ 0 ∷ 0 ∷ []);
}

-- without columns the shared period 3 isn't read: Lower accepts, and copies the list
abbrev L : Example
L = record {
  Answer = Result ℕ Refusal;
  computed = lower_answer goldilocks (interleaved (0 ∷ 0 ∷ 0 ∷ [])) 1 [] [] 3 (7 ∷ 7 ∷ 7 ∷ 7 ∷ []) (replicate (record_words * most_records) 7) [];
  stated = Ok 1;
}

abbrev L-copied : Example
L-copied = record {
  Answer = List ℕ;
  computed = lower_result goldilocks (interleaved (0 ∷ 0 ∷ 0 ∷ [])) 1 [] [] 3 (7 ∷ 7 ∷ 7 ∷ 7 ∷ []) (replicate (record_words * most_records) 7) [];
  stated = 0 ∷ 0 ∷ 0 ∷ blank ∷ [];
}

-- inputs 0, 1, 2, mul 0 1, mul 0 2, add 3 4
abbrev products : List NodeKind
products = Input 0 ∷ Input 1 ∷ Input 2 ∷ Mul 0 1 ∷ Mul 0 2 ∷ Add 3 4 ∷ []

-- a version 2 file whose roots 5 and 7 meet: a round brings mul 0 1 plus mul 0 2 onto mul 0 6, where 6 is add 1 2
abbrev M : Example
M = record {
  Answer = List ℕ;
  computed =
      listing
      ((2 ∷ 0 ∷ 0 ∷ 0 ∷ 8 ∷ 2 ∷ 0 ∷ 0 ∷ 0 ∷ 5 ∷ 0 ∷ 0 ∷ 0 ∷ 7 ∷ []) ++ filed 0 0 0 ++ filed 0 1 0 ++ filed 0 2 0 ++ filed 4 0 1 ++ filed 4 0 2 ++ filed 2 3 4
      ++ filed 2 1 2 ++ filed 4 0 6);
  stated = ascii "nodes 5 root 4 4 rounds 1\n0 in 0 0\n1 in 1 0\n2 in 2 0\n3 add 1 2\n4 mul 0 3\n";
}

-- a version 2 file with roots 5 and 0: both are named, in their order
abbrev M-order : Example
M-order = record {
  Answer = List ℕ;
  computed = listing ((2 ∷ 0 ∷ 0 ∷ 0 ∷ 6 ∷ 2 ∷ 0 ∷ 0 ∷ 0 ∷ 5 ∷ 0 ∷ 0 ∷ 0 ∷ 0 ∷ []) ++ filed 0 0 0 ++ filed 0 1 0 ++ filed 0 2 0 ++ filed 4 0 1 ++ filed 4 0 2 ++ filed 2 3 4);
  stated = ascii "nodes 5 root 4 0 rounds 1\n0 in 0 0\n1 in 1 0\n2 in 2 0\n3 add 1 2\n4 mul 0 3\n";
}

-- a file that names no root
abbrev M-refused : Example
M-refused = record {
  Answer = List ℕ;
  computed = listing ((2 ∷ 0 ∷ 0 ∷ 0 ∷ 1 ∷ 0 ∷ []) ++ filed 0 0 0);
  stated = ascii "refused 46 0\n";
}

-- a second root at place 3 is one mention more: nothing fires
abbrev M-second : Example
M-second = record {
  Answer = Normal;
  computed = normalize (elements Goldilocks) products (5 ∷ 3 ∷ []);
  stated = record { list = products; roots = 5 ∷ 3 ∷ []; rounds = 0 };
}

-- a place that is named twice is mentioned twice more
abbrev M-twice : Example
M-twice = record { Answer = ℕ; computed = fanout products (3 ∷ 3 ∷ []) 3; stated = 3 }

-- compacting keeps what any of two roots reaches
abbrev M-union : Example
M-union = record {
  Answer = Rooted;
  computed = compact products (4 ∷ 1 ∷ []);
  stated = record { list = Input 0 ∷ Input 1 ∷ Input 2 ∷ Mul 0 2 ∷ []; roots = 3 ∷ 1 ∷ [] };
}

-- a list of every kind, and −1 in both fields
abbrev every_kind : ℕ → List NodeKind
every_kind m = Input 5 ∷ Constant (new (m - 1) 0) ∷ Add 0 1 ∷ Sub 2 0 ∷ Mul 3 3 ∷ Neg 4 ∷ []

abbrev drawn_kinds : List ℕ
drawn_kinds =
    ascii "digraph g {\nn0 [label=\"in 5\"];\nn1 [label=\"const -1 0\"];\nn2 [label=\"add\"];\nn3 [label=\"sub\"];\nn4 [label=\"mul\"];\nn5 [label=\"neg\"];\n"
    ++ ascii "n2 -> n0;\nn2 -> n1;\nn3 -> n2;\nn3 -> n0;\nn4 -> n3;\nn4 -> n3;\nn5 -> n4;\n}\n"

-- their drawing, byte for byte
abbrev N : Example
N = record { Answer = List ℕ; computed = drawing p (every_kind p); stated = drawn_kinds }

abbrev N-second : Example
N-second = record { Answer = List ℕ; computed = drawing q (every_kind q); stated = drawn_kinds }

-- a constant at both ends of the range
abbrev N-ends : Example
N-ends = record {
  Answer = List ℕ;
  computed = label p (Constant (new 9223372034707292160 9223372034707292161));
  stated = ascii "const 9223372034707292160 -9223372034707292160";
}

-- inputs 5 and 7, constants 4, 4 and 6, sub 0 2, neg 1, mul 5 3, add 6 4, mul 7 8
abbrev operated : List ℕ
operated = words_of (Input 5 ∷ Input 7 ∷ Constant (new 4 0) ∷ Constant (new 4 0) ∷ Constant (new 6 0) ∷ Sub 0 2 ∷ Neg 1 ∷ Mul 5 3 ∷ Add 6 4 ∷ Mul 7 8 ∷ [])

-- a layout with key 5 at places 0 and 3, whose last place is its input's number
abbrev keyed : List ℕ
keyed = 5 ∷ 7 ∷ 9 ∷ 5 ∷ []

-- 16 nodes: inputs 15 to 12, constants 11 to 8, operations 7 to 3, their pads 2 to 0
abbrev O : Example
O = record {
  Answer = Result EncodedCircuit Refusal;
  computed = emit_answer goldilocks (interleaved operated) 10 (9 ∷ []) keyed 4 34;
  stated = Ok (record { num_vars = 8; num_ops = 8 });
}

-- constants 4, 6, the zero of the Neg and a zero to an even count; the operations; three pads, each squaring the one before; blanks behind
abbrev O-words : Example
O-words = record {
  Answer = List ℕ;
  computed = emit_result goldilocks (interleaved operated) 10 (9 ∷ []) keyed 4 (replicate 34 7);
  stated =
      (4 ∷ 0 ∷ 6 ∷ 0 ∷ 0 ∷ 0 ∷ 0 ∷ 0 ∷ [])
      ++ (0 ∷ 12 ∷ 11 ∷ 0 ∷ 9 ∷ 14 ∷ 1 ∷ 7 ∷ 11 ∷ 2 ∷ 6 ∷ 10 ∷ 1 ∷ 5 ∷ 4 ∷ [])
      ++ (1 ∷ 3 ∷ 3 ∷ 1 ∷ 2 ∷ 2 ∷ 1 ∷ 1 ∷ 1 ∷ [])
      ++ (blank ∷ blank ∷ []);
}

-- a root before the last operation is refused, though the layout is odd too
abbrev O-refused : Example
O-refused = record {
  Answer = Result EncodedCircuit Refusal;
  computed = emit_answer goldilocks (interleaved operated) 10 (8 ∷ []) keyed 3 34;
  stated = Err RootNotLast;
}

-- a store of one word less than is written: it keeps what it held
abbrev O-short : Example
O-short = record {
  Answer = List ℕ;
  computed = emit_result goldilocks (interleaved operated) 10 (9 ∷ []) keyed 4 (replicate 31 7);
  stated = replicate 31 7;
}

-- in field 2 the list of examples/c/emit.c: inputs 5 and 7, constant 4, sub 0 2, neg 1, mul 3 4 over the keys 7, 5
abbrev O-second : Example
O-second = record {
  Answer = List ℕ;
  computed = emit_result (field_of BabyBear) (interleaved (words_of (Input 5 ∷ Input 7 ∷ Constant (new 4 0) ∷ Sub 0 2 ∷ Neg 1 ∷ Mul 3 4 ∷ []))) 6 (5 ∷ []) (7 ∷ 5 ∷ []) 2 (replicate 16 7);
  stated = 4 ∷ 0 ∷ 0 ∷ 0 ∷ 0 ∷ 6 ∷ 5 ∷ 0 ∷ 4 ∷ 7 ∷ 1 ∷ 3 ∷ 2 ∷ 1 ∷ 1 ∷ 1 ∷ [];
}

three_sparse : K-three.computed ≡ K-three.stated
unfolding unit choices log_within log_length occurrences is_sparse standalone places_from with_new values_from values weight heaviest dominant is_scaled scalings combination_cost offset equal_entries gain same_entries is_among saving savings goes_over form up_to
three_sparse = refl

four_below : K-four-below.computed ≡ K-four-below.stated
unfolding unit choices log_within log_length occurrences is_sparse standalone places_from with_new values_from values weight heaviest dominant is_scaled scalings combination_cost offset equal_entries gain same_entries is_among saving savings goes_over form up_to
four_below = refl

four_with : K-four-with.computed ≡ K-four-with.stated
unfolding unit choices log_within log_length occurrences is_sparse standalone places_from with_new values_from values weight heaviest dominant is_scaled scalings combination_cost offset equal_entries gain same_entries is_among saving savings goes_over form up_to
four_with = refl

copies_sparse : K-copies.computed ≡ K-copies.stated
unfolding unit choices log_within log_length occurrences is_sparse standalone places_from with_new values_from values weight heaviest dominant is_scaled scalings combination_cost offset equal_entries gain same_entries is_among saving savings goes_over form up_to
copies_sparse = refl

all_emitted : All (O ∷ O-words ∷ O-refused ∷ O-short ∷ O-second ∷ [])
unfolding
    elements at same_node interned intern first_refused greatest up_to padded is_key formed earlier record_check check_at room_check rootless_check roots_check list_check
    interleaved record_at nodes decode words words_of filled
    entry_check entries_check entry_of inputs_check is_operation operation_count constants constants_of constant_node node operation_of operations
    next_multiple_of from_counts num_nodes node_id encode_operation encode_operations square padded_operations constant_words instructions
    input_number circuit_constants circuit_operations geometry emitted root_is_last circuit_check emit_check encoded emit_answer emit_result
all_emitted = (refl, (refl, (refl, (refl, (refl, tt)))))

pub examples : List Example
examples =
    A ∷ A-refused ∷ B ∷ C-normalized ∷ C-compacted ∷ D ∷ E ∷ F ∷ G ∷ H ∷ I ∷ I-refused ∷ I-second ∷ J ∷ J-second ∷ K-three ∷ K-four-below ∷ K-four-with ∷ K-copies
    ∷ L ∷ L-copied ∷ M ∷ M-order ∷ M-refused ∷ M-second ∷ M-twice ∷ M-union ∷ N ∷ N-second ∷ N-ends ∷ O ∷ O-words ∷ O-refused ∷ O-short ∷ O-second ∷ []

pub all_examples : All examples
unfolding
    examples felt elements same at same_node operands rename is_constant is_add is_sub is_mul is_neg element is_the low_first add_rule sub_rule
    mul_outcome neg_outcome follow add_within sub_within add_outcome sub_outcome outcome interned intern enter step place_of recorded marked
    sweep marks rank kept compact count mentions fanout shared_factor common_factor or_else onto_before existing_rotation either_rotation
    plan_of planned round fired rounded is_kept rounds_from normalize unit log_within log_length occurrences is_sparse standalone places_from
    with_new values_from values weight heaviest dominant is_scaled scalings combination_cost offset equal_entries gain same_entries is_among
    saving savings goes_over form up_to lower_check lower_stores lower_room interleaved stored rootless_check check_at record_check formed
    earlier is_key prepare_check first_refused total columns period_good lowered build_periodic_nodes turns done record_at nodes decode words
    words_of filled choices list_check roots_check room_check whole_check lower_answer lower_result normalized ascii digits decimal ended line number
    words_at file_view is_version root_count roots_place file_root is_count head_check form_check held_check file_check kind first_line record_line listed refused_line listing
    greatest integer pieces rows signed coordinate numbers label node_text edge_text node_line edge_line drawing
all_examples = (refl, (refl, (refl, (refl, (refl, (refl, (refl, (refl, (refl, (refl, (refl, (refl, (refl, (refl, (refl, (three_sparse, (four_below, (four_with, (copies_sparse, (refl, (refl, (refl, (refl, (refl, (refl, (refl, (refl, (refl, (refl, (refl, all_emitted))))))))))))))))))))))))))))))
