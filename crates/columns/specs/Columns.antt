-- Costs and forms of columns (`from_periodic_columns` of ir.rs). A column is the list of its entries; m is the modulus.
use Rattle.std.specs.Prelude.{ℕ, zero, suc, ◌+◌, ◌*◌, ◌-◌, ◌^◌, Bool, true, false, cond, not, ◌&&◌, ◌||◌, List, [], ◌∷◌, ◌++◌, leb, ltb, eqb, get_or, length}
use Rattle.ring.specs.Residue.{sub}
use Rattle.columns.specs.declared.Form.{Form}
use Rattle.columns.specs.declared.Form.TheVariants.{Sparse, Dense, Basis}

-- the greatest k up to `most` with 2^k at most n, else 0
unfoldable pub log_within : ℕ → ℕ → ℕ
log_within zero n = 0
log_within (suc k) n = cond (leb (2 ^ suc k) n) (suc k) (log_within k n)

-- n is 2^0, 2^1, .. or 2^most
unfoldable pub is_power : ℕ → ℕ → Bool
is_power most n = eqb n (2 ^ log_within most n)

-- L, of a column of 2^L entries; the longest has 2^7
unfoldable pub log_length : List ℕ → ℕ
log_length c = log_within 7 (length c)

-- how often v stands in a list
unfoldable pub count : ℕ → List ℕ → ℕ
count v [] = 0
count v (x ∷ c) = cond (eqb x v) (suc (count v c)) (count v c)

-- how many entries are other than d
abbrev pub others : List ℕ → ℕ → ℕ
others c d = length c - count d c

-- t, the nonzero entries
abbrev pub nonzero : List ℕ → ℕ
nonzero c = others c 0

-- the operations of t terms over 2^L rows, and of P coefficients
abbrev pub sparse_ops : ℕ → ℕ → ℕ
sparse_ops t L = 3 * (t * L) + (t - 1)

abbrev pub dense_ops : ℕ → ℕ
dense_ops P = 2 * (P - 1)

unfoldable pub is_sparse : List ℕ → Bool
is_sparse c = eqb (nonzero c) 0 || ltb (sparse_ops (nonzero c) (log_length c)) (dense_ops (length c))

-- a column's cost by itself: operations and constants
unfoldable pub standalone : List ℕ → ℕ
standalone c =
    cond (is_sparse c)
    (sparse_ops (nonzero c) (log_length c) + 2 * (nonzero c + log_length c))
    (dense_ops (length c) + 2 * length c)

-- the places of the entries that pass a test, counted from i
unfoldable pub places_from : (ℕ → Bool) → ℕ → List ℕ → List ℕ
places_from f i [] = []
places_from f i (v ∷ c) = cond (f v) (i ∷ places_from f (suc i) c) (places_from f (suc i) c)

-- the places of the nonzero entries, and those of a value
abbrev pub support : List ℕ → List ℕ
support c = places_from (λ v. not (eqb v 0)) 0 c

abbrev pub places : List ℕ → ℕ → List ℕ
places c d = places_from (λ v. eqb v d) 0 c

-- a list's values, each once, in order of their first places: the classes of a column
unfoldable pub with_new : List ℕ → ℕ → List ℕ
with_new vs v = cond (eqb (count v vs) 0) (vs ++ (v ∷ [])) vs

unfoldable pub values_from : List ℕ → List ℕ → List ℕ
values_from vs [] = vs
values_from vs (v ∷ c) = values_from (with_new vs v) c

unfoldable pub values : List ℕ → List ℕ
values c = values_from [] c

-- a value's weight: how often it stands in a column; 0 weighs nothing
unfoldable pub weight : List ℕ → ℕ → ℕ
weight c v = cond (eqb v 0) 0 (count v c)

-- the heaviest of d and vs, on a tie the last
unfoldable pub heaviest : List ℕ → ℕ → List ℕ → ℕ
heaviest c d [] = d
heaviest c d (v ∷ vs) = heaviest c (cond (leb (weight c d) (weight c v)) v d) vs

-- the dominant value; 0 in a column of zeros
unfoldable pub dominant : List ℕ → ℕ
dominant c = heaviest c 0 (values c)

-- the class of value v has a coefficient v − d other than 0, 1 and −1, with offset d
unfoldable pub is_scaled : ℕ → ℕ → ℕ → Bool
is_scaled m d v = not (eqb v d) && not (eqb (sub m v d) 1) && not (eqb (sub m v d) (m - 1))

-- these coefficients, of the classes vs
unfoldable pub scalings : ℕ → ℕ → List ℕ → List ℕ
scalings m d [] = []
scalings m d (v ∷ vs) = cond (is_scaled m d v) (sub m v d ∷ scalings m d vs) (scalings m d vs)

-- combination_cost, of a column with offset d
unfoldable pub combination_cost : ℕ → List ℕ → ℕ → ℕ
combination_cost m c d =
    let ks = scalings m d (values c) in
    (others c d - 1) + length ks + 2 * length (values ks) + cond (eqb d 0) 0 3

-- basis_combination's offset: the dominant value where that is cheaper than 0
unfoldable pub offset : ℕ → List ℕ → ℕ
offset m c = cond (ltb (combination_cost m c (dominant c)) (combination_cost m c 0)) (dominant c) 0

unfoldable pub equal_entries : List ℕ → Bool
equal_entries c = eqb (others c (get_or c 0 0)) 0

-- what a column saves in basis; nothing where its entries are equal
unfoldable pub gain : ℕ → List ℕ → ℕ
gain m c = cond (equal_entries c) 0 (standalone c - combination_cost m c (offset m c))

-- column j
abbrev pub column : List (List ℕ) → ℕ → List ℕ
column cs j = get_or cs j []

unfoldable pub same_entries : List ℕ → List ℕ → Bool
same_entries [] [] = true
same_entries [] (w ∷ d) = false
same_entries (v ∷ c) [] = false
same_entries (v ∷ c) (w ∷ d) = eqb v w && same_entries c d

-- one of the first k columns equals column j
unfoldable pub is_among : List (List ℕ) → ℕ → ℕ → Bool
is_among cs j zero = false
is_among cs j (suc k) = same_entries (column cs k) (column cs j) || is_among cs j k

-- what column j adds to its period's savings: a repeated column counts once
unfoldable pub saving : ℕ → List (List ℕ) → ℕ → ℕ
saving m cs j = cond (is_among cs j j) 0 (gain m (column cs j))

-- the savings of period P in the first n columns
unfoldable pub savings : ℕ → List (List ℕ) → ℕ → ℕ → ℕ
savings m cs P zero = 0
savings m cs P (suc n) = savings m cs P n + cond (eqb (length (column cs n)) P) (saving m cs n) 0

-- what the savings of period P must exceed
abbrev pub threshold : ℕ → ℕ
threshold P = 7 * P + 2

-- period P goes over to the basis
unfoldable pub goes_over : ℕ → List (List ℕ) → ℕ → Bool
goes_over m cs P = leb 2 P && ltb (threshold P) (savings m cs P (length cs))

unfoldable pub form : ℕ → List (List ℕ) → ℕ → Form
form m cs j =
    cond (goes_over m cs (length (column cs j)) && ltb 0 (gain m (column cs j))) Basis
    (cond (is_sparse (column cs j)) Sparse Dense)

-- a form's number in an answer
abbrev pub form_number : Form → ℕ
form_number Sparse = 0
form_number Dense = 1
form_number Basis = 2
