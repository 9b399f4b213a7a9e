-- Columns that are handed over one after the other, and columns compared.
use Rattle.std.specs.Prelude.{ℕ, zero, suc, ◌+◌, ◌-◌, ◌≤◌, ◌<◌, Bool, ◌||◌, List, [], ◌∷◌, ◌++◌, ◌≡◌, refl, eqb, get_or, length, take, drop, map}
use Rattle.std.specs.List.{list_any, range_with_len}
use Rattle.std.specs.Cmp.Lexicographic.{pointwise}
use Rattle.std.proofs.Common.{sym, ◌∙◌, ap, add-one, arith, length-drop, drop-drop, length-take-le}
use Rattle.std.proofs.Math.Bool.{or_comm, or-false}
use Rattle.std.proofs.lemmas.List.{map-id}
use Rattle.std.proofs.lemmas.List.Folds.{list_any-append}
use Rattle.std.proofs.lemmas.List.FromFn.{map-range_with_len_more}
use Rattle.columns.specs.Columns.{column, same_entries, is_among}
use Rattle.columns.specs.Prepare.{total, columns}

pub length_columns : (ls es : List ℕ) → length (columns ls es) ≡ length ls
unfolding columns
length_columns [] es = refl
length_columns (n ∷ ls) es = ap suc (length_columns ls (drop n es))

total_next : (ls : List ℕ) (j : ℕ) → j < length ls → total (take (suc j) ls) ≡ total (take j ls) + get_or ls j 0
unfolding total
total_next [] j h = absurd (omega arith)
total_next (n ∷ ls) zero h = omega arith
total_next (n ∷ ls) (suc j) h = omega (arith, total_next ls j (omega arith))

total_le : (ls : List ℕ) (j : ℕ) → total (take j ls) ≤ total ls
unfolding total
total_le [] zero = omega arith
total_le [] (suc j) = omega arith
total_le (n ∷ ls) zero = omega arith
total_le (n ∷ ls) (suc j) = omega (arith, total_le ls j)

-- what stands before column j, and with it
pub ends : (ls : List ℕ) (j : ℕ) → j < length ls → total (take j ls) + get_or ls j 0 ≤ total ls
ends ls j h = rw (sym (total_next ls j h)) (total_le ls (suc j))

column_at : (ls es : List ℕ) (j : ℕ) → j < length ls → column (columns ls es) j ≡ take (get_or ls j 0) (drop (total (take j ls)) es)
unfolding columns total
column_at [] es j h = absurd (omega arith)
column_at (n ∷ ls) es zero h = refl
column_at (n ∷ ls) es (suc j) h = column_at ls (drop n es) j (omega arith) ∙ ap (take (get_or ls j 0)) (drop-drop (total (take j ls)) n es)

pub column_part : (ls es : List ℕ) (j a : ℕ) → j < length ls → a ≡ total (take j ls) → take (a + get_or ls j 0 - a) (drop a es) ≡ column (columns ls es) j
column_part ls es j a h e = rw (column_at ls es j h, ← e, cancel a (get_or ls j 0))
  where
    cancel : (x y : ℕ) → x + y - x ≡ y
    cancel x y = omega arith

pub column_length : (ls es : List ℕ) (j : ℕ) → total ls ≤ length es → j < length ls → length (column (columns ls es) j) ≡ get_or ls j 0
column_length ls es j enough h =
    rw (column_at ls es j h)
    (length-take-le (get_or ls j 0) (drop (total (take j ls)) es) (rw (length-drop (total (take j ls)) es) (omega (arith, ends ls j h))))

-- two columns compared, and a column among those before it, in std's words
pub same_is : (a b : List ℕ) → same_entries a b ≡ pointwise eqb a b
unfolding same_entries
same_is [] [] = refl
same_is [] (w ∷ b) = refl
same_is (v ∷ a) [] = refl
same_is (v ∷ a) (w ∷ b) = rw (same_is a b) refl

range_more : (k : ℕ) → range_with_len 0 (suc k) ≡ range_with_len 0 k ++ (k ∷ [])
range_more k =
    sym (map-id (range_with_len 0 (suc k)))
    ∙ (ap (λ n. map (λ (x : ℕ). x) (range_with_len 0 n)) (sym (add-one k))
    ∙ (map-range_with_len_more (λ (x : ℕ). x) 0 k k (omega arith)
    ∙ ap (λ l. l ++ (k ∷ [])) (map-id (range_with_len 0 k))))

any_more : (test : ℕ → Bool) (k : ℕ) → list_any test (range_with_len 0 (suc k)) ≡ (test k || list_any test (range_with_len 0 k))
any_more test k =
    ap (list_any test) (range_more k)
    ∙ (list_any-append test (range_with_len 0 k) (k ∷ [])
    ∙ (ap (λ b. list_any test (range_with_len 0 k) || b) (or-false (test k))
    ∙ or_comm (list_any test (range_with_len 0 k)) (test k)))

pub among_is : (cs : List (List ℕ)) (j k : ℕ) → is_among cs j k ≡ list_any (λ i. same_entries (column cs i) (column cs j)) (range_with_len 0 k)
unfolding is_among
among_is cs j zero = refl
among_is cs j (suc k) = rw (among_is cs j k) (sym (any_more (λ i. same_entries (column cs i) (column cs j)) k))

-- where a column stands
pub ruleset places = (ends, column_part)
