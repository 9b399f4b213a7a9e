-- Links kept as places are noted.
use Rattle.std.specs.Prelude.{ℕ, zero, suc, ◌+◌, ◌<◌, ◌≤◌, Bool, List, ◌≡◌, refl, length, set}
use Rattle.std.proofs.Math.Bool.{true, false, cond}
use Rattle.std.proofs.Math.Path.{sym}
use Rattle.std.proofs.Common.{◌∙◌, ap, arith}
use Rattle.std.proofs.Math.Numerals.{add-one}
use borrow.Author.Tests.{eqb-true, eqb-false}
use Rattle.std.proofs.Math.Dec.{eqb}
use Rattle.std.proofs.Math.ListN.{get_or, length-set}
use Rattle.std.proofs.Math.Seq.{get_or-set_same, get_or-set_other}
use Rattle.dag.specs.CaseLaws.{below_suc_elim, cond_elim}
use Rattle.index.specs.Index.{latest, half, Indexed, noted}

pub latest_le : (bucket : ℕ → ℕ) (n k : ℕ) → latest bucket n k ≤ n
unfolding latest
latest_le bucket zero k = omega arith
latest_le bucket (suc n) k =
    let h = latest_le bucket n k in
    cond_elim (λ j. j ≤ suc n) (eqb (bucket n) k) (suc n) (latest bucket n k) (λ _. omega arith) (λ _. omega arith)

-- the link's place is in the bucket
pub latest_in : (bucket : ℕ → ℕ) (n k i : ℕ) → latest bucket n k ≡ suc i → bucket i ≡ k
unfolding latest
latest_in bucket zero k i e = absurd (omega arith)
latest_in bucket (suc n) k i e = go (eqb (bucket n) k) refl (latest_in bucket n k i) e
  where
    go : (t : Bool) → eqb (bucket n) k ≡ t → (latest bucket n k ≡ suc i → bucket i ≡ k) → cond t (suc n) (latest bucket n k) ≡ suc i → bucket i ≡ k
    go true q before f = let g : n ≡ i = omega arith in rw (← g) (eqb-true (bucket n) k q)
    go false q before f = before f

-- buckets that agree below n have the same links there
pub latest_agree : (f g : ℕ → ℕ) (n k : ℕ) → ((i : ℕ) → i < n → f i ≡ g i) → latest f n k ≡ latest g n k
unfolding latest
latest_agree f g zero k h = refl
latest_agree f g (suc n) k h = rw (h n (omega arith), latest_agree f g n k (λ i j. h i (omega arith)))

pub indexed_agree : (b : ℕ) (f g : ℕ → ℕ) (n : ℕ) (links : List ℕ) → ((i : ℕ) → i < n → f i ≡ g i) → Indexed b f n links → Indexed b g n links
indexed_agree b f g n links h d =
    record {
      heads = λ k j. d.heads k j ∙ latest_agree f g n k h;
      nexts = λ i j. d.nexts i j ∙ (latest_agree f g i (f i) (λ m q. h m (omega arith)) ∙ ap (latest g i) (h i j));
    }

-- no place yet
pub indexed_none : (b : ℕ) (bucket : ℕ → ℕ) (links : List ℕ) → ((k : ℕ) → get_or links k 0 ≡ 0) → Indexed b bucket 0 links
unfolding latest
indexed_none b bucket links h = record { heads = λ k _. h k; nexts = λ i j. absurd (omega arith) }

pub length_noted : (links : List ℕ) (n k : ℕ) → length (noted links n k) ≡ length links
unfolding noted
length_noted links n k = simp length-set

-- one place more
module _ (links : List ℕ) (bucket : ℕ → ℕ) (n k : ℕ) (room : n < half links) (inside : k < half links) (is : bucket n ≡ k) where
  at_head : get_or (noted links n k) k 0 ≡ suc n
  unfolding noted
  at_head = get_or-set_same (set links (half links + n) (get_or links k 0)) k (n + 1) 0 (simp length-set (omega arith)) ∙ add-one n

  at_next : get_or (noted links n k) (half links + n) 0 ≡ get_or links k 0
  unfolding noted
  at_next =
      get_or-set_other (set links (half links + n) (get_or links k 0)) k (half links + n) (n + 1) 0 (omega arith)
      ∙ get_or-set_same links (half links + n) (get_or links k 0) 0 (omega arith)

  elsewhere : (j : ℕ) → (j ≡ k → ⊥) → (j ≡ half links + n → ⊥) → get_or (noted links n k) j 0 ≡ get_or links j 0
  unfolding noted
  elsewhere j a b =
      get_or-set_other (set links (half links + n) (get_or links k 0)) k j (n + 1) 0 a
      ∙ get_or-set_other links (half links + n) j (get_or links k 0) 0 b

  pub indexed_noted : Indexed (half links) bucket n links → Indexed (half links) bucket (suc n) (noted links n k)
  unfolding latest
  indexed_noted d = record { heads = heads; nexts = below_suc_elim (λ i. get_or (noted links n k) (half links + i) 0 ≡ latest bucket i (bucket i)) n before last }
    where
      head : (j : ℕ) → j < half links → (t : Bool) → eqb (bucket n) j ≡ t → get_or (noted links n k) j 0 ≡ cond t (suc n) (latest bucket n j)
      head j h true e = let q : j ≡ k = sym (eqb-true (bucket n) j e) ∙ is in rw q at_head
      head j h false e = elsewhere j (λ q. eqb-false (bucket n) j e (is ∙ sym q)) (omega arith) ∙ d.heads j h

      heads : (j : ℕ) → j < half links → get_or (noted links n k) j 0 ≡ cond (eqb (bucket n) j) (suc n) (latest bucket n j)
      heads j h = head j h (eqb (bucket n) j) refl

      before : (i : ℕ) → i < n → get_or (noted links n k) (half links + i) 0 ≡ latest bucket i (bucket i)
      before i h = elsewhere (half links + i) (omega arith) (omega arith) ∙ d.nexts i h

      last : get_or (noted links n k) (half links + n) 0 ≡ latest bucket n (bucket n)
      last = at_next ∙ (d.heads k inside ∙ ap (latest bucket n) (sym is))
