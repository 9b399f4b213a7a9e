-- How often a value stands in a list, and a list's sum, in std's words.
use Prim.Native.Nat.{ℕ, suc, ◌+◌, ◌<◌, ◌≤◌}
use Rattle.std.specs.Prelude.{cond, List, [], ◌∷◌, ◌≡◌, refl, eqb, ltb, sum, take, get_or, length}
use Rattle.std.specs.List.{count_by, list_all}
use Rattle.std.proofs.Common.{ap, arith}
use Rattle.std.proofs.lemmas.List.Recursion.{is_count_by, is_sum_by}
use Rattle.std.proofs.lemmas.List.Sums.{sum_by_more, count_by-le-length}
use Rattle.std.proofs.lemmas.List.{take_all}
use Rattle.columns.specs.Columns.{count}
use Rattle.columns.specs.Prepare.{total, all_below}

pub one_more : (n : ℕ) → suc n ≡ 1 + n
one_more n = omega arith

pub count_is : (v : ℕ) (c : List ℕ) → count v c ≡ count_by (λ x. eqb x v) c
unfolding count
count_is v c = is_count_by (count v) (λ x. eqb x v) refl (λ x xs. ap (λ n. cond (eqb x v) n (count v xs)) (one_more (count v xs))) c

-- counted along a list
pub count_more : (v : ℕ) (c : List ℕ) (i : ℕ) → i < length c → count v (take (i + 1) c) ≡ count v (take i c) + cond (eqb (get_or c i 0) v) 1 0
count_more v c i h = rw (count_is v (take (i + 1) c), count_is v (take i c)) (sum_by_more (λ x. cond (eqb x v) 1 0) c i 0 h)

pub count_le : (v : ℕ) (c : List ℕ) → count v c ≤ length c
count_le v c = rw (count_is v c) (count_by-le-length (λ x. eqb x v) c)

pub count_all : (v : ℕ) (c : List ℕ) (i : ℕ) → length c ≤ i → count v (take i c) ≡ count v c
count_all v c i h = ap (count v) (take_all i c h)

pub total_is : (ls : List ℕ) → total ls ≡ sum ls
unfolding total
total_is ls = is_sum_by total (λ x. x) refl (λ x xs. refl) ls

pub below_is : (m : ℕ) (c : List ℕ) → all_below m c ≡ list_all (λ v. ltb v m) c
unfolding all_below
below_is m [] = refl
below_is m (v ∷ c) = rw (below_is m c) refl
