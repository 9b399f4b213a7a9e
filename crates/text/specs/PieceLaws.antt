-- Texts made of pieces: one more piece has room where all have, how they grow, and how long they are.
use Rattle.std.specs.Prelude.{ℕ, zero, suc, ◌+◌, ◌*◌, ◌≤◌, ◌<◌, List, [], ◌∷◌, ◌++◌, ◌≡◌, refl, get_or, length, take}
use Rattle.std.proofs.Common.{append_assoc, append-nil, take-suc, sym, ◌∙◌, ap, add-one, arith, length-append}
use Rattle.std.proofs.Math.Decide.{dec_le}
use Rattle.text.specs.Text.{pieces, rows}
use Rattle.text.specs.Promises.{Wrote}
use Rattle.text.specs.WritingLaws.{and_then, wrote_as}
use Rattle.text.specs.declared.Text.{Text}

module _ (f : ℕ → List ℕ) where
  rows_grow : (i n : ℕ) → i ≤ n → length (rows f i) ≤ length (rows f n)
  unfolding rows
  rows_grow i zero h = rw (let e : i ≡ 0 = omega arith in e) (omega arith)
  rows_grow i (suc n) h = go (dec_le i n) (rows_grow i n)
    where
      go : Dec (i ≤ n) → (i ≤ n → length (rows f i) ≤ length (rows f n)) → length (rows f i) ≤ length (rows f (suc n))
      go (yes k) before = let b = before k in omega (arith, length-append (rows f n) (f n))
      go (no k) before = rw (let e : i ≡ suc n = omega arith in e) (omega arith)

  pub rows_next : (i : ℕ) → length (rows f (i + 1)) ≡ length (rows f i) + length (f i)
  unfolding rows
  rows_next i = rw (add-one i) (length-append (rows f i) (f i))

  -- the next row has room where all have
  pub rows_fit : (n i : ℕ) → i < n → length (rows f i) + length (f i) ≤ length (rows f n)
  unfolding rows
  rows_fit n i h = let all = rows_grow (suc i) n (omega arith) in omega (arith, length-append (rows f i) (f i))

  -- the next row
  pub rows_more : (i : ℕ) {t u v : Text} → Wrote t (rows f i) u → Wrote u (f i) v → Wrote t (rows f (i + 1)) v
  unfolding rows
  rows_more i before w = rw (add-one i) (and_then before w)

  -- rows of at most k bytes each
  pub rows_most : (k n : ℕ) → ((i : ℕ) → i < n → length (f i) ≤ k) → length (rows f n) ≤ k * n
  unfolding rows
  rows_most k zero h = omega arith
  rows_most k (suc n) h =
      let before = rows_most k n (λ i p. h i (omega arith)) in
      let last = h n (omega arith) in
      omega (arith, length-append (rows f n) (f n))

  -- the next piece has room where all have
  pub pieces_fit : (ns : List ℕ) (j : ℕ) → j < length ns → length (pieces f (take j ns)) + length (f (get_or ns j 0)) ≤ length (pieces f ns)
  unfolding pieces
  pieces_fit [] j h = absurd (omega arith)
  pieces_fit (n ∷ ns) zero h = omega (arith, length-append (f n) (pieces f ns))
  pieces_fit (n ∷ ns) (suc j) h =
      let more = pieces_fit ns j (omega arith) in
      omega (arith, length-append (f n) (pieces f ns), length-append (f n) (pieces f (take j ns)))

  pieces_snoc : (ns : List ℕ) (n : ℕ) → pieces f (ns ++ (n ∷ [])) ≡ pieces f ns ++ f n
  unfolding pieces
  pieces_snoc [] n = append-nil (f n)
  pieces_snoc (k ∷ ns) n = ap (λ t. f k ++ t) (pieces_snoc ns n) ∙ sym (append_assoc (f k) (pieces f ns) (f n))

  -- the next piece
  pub pieces_more : (ns : List ℕ) (j : ℕ) {t u v : Text} → j < length ns → Wrote t (pieces f (take j ns)) u → Wrote u (f (get_or ns j 0)) v → Wrote t (pieces f (take (j + 1) ns)) v
  pieces_more ns j h before w = rw (add-one j, take-suc ns j 0 h) (wrote_as (sym (pieces_snoc (take j ns) (get_or ns j 0))) (and_then before w))

-- rows of two parts each
pub rows_parts : (f g : ℕ → List ℕ) (n : ℕ) → length (rows (λ i. f i ++ g i) n) ≡ length (rows f n) + length (rows g n)
unfolding rows
rows_parts f g zero = refl
rows_parts f g (suc n) =
    let before = rows_parts f g n in
    omega (
      arith,
      length-append (rows (λ i. f i ++ g i) n) (f n ++ g n),
      length-append (f n) (g n),
      length-append (rows f n) (f n),
      length-append (rows g n) (g n),
    )
