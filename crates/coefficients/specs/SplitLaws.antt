-- The laws of sums over every s-th entry.
use Prim.Native.Nat.{ℕ, zero, suc, ◌+◌, ◌*◌, ◌-◌, ◌/◌, ◌^◌, ◌≤◌, ◌<◌}
use Rattle.std.specs.Prelude.{Bool, true, false, cond, List, ◌⊎◌, ◌≡◌, eqb, ltb, set, replicate}
use Rattle.std.proofs.Common.{inl, inr, ◌∙◌, add_assoc, mul_comm, mul-le-mul_right, add-one, lt-ltb, le-ltb, ltb-true, eqb-true, get_or-set_same, get_or-set_other}
use Rattle.std.proofs.Math.Path.{refl, sym, ap, ap₂, subst}
use Rattle.std.proofs.Math.Nat.{two-pow-succ}
use native.Mathlib.Omega.{arith}
use Rattle.std.proofs.lemmas.Bool.{eqb-false}
use Rattle.std.proofs.Math.ListN.{get_or, length}
use Rattle.std.proofs.lemmas.List.{length-replicate, get_or_past}
use Rattle.field.specs.Fields.{Field, modulus, coordinate_laws}
use Rattle.ring.specs.Ring.{Ops, Laws}
use Rattle.ring.specs.Identities.{mul_one, left_comm}
use Rattle.ring.specs.Power.{pow, pow_zero, pow_add, pow_mul, low_pow, one_pow}
use Rattle.ring.specs.Sums.{sum, sum_zero, sum_suc, sum_cong, sum_scale}
use Rattle.dag.specs.CaseLaws.{le_or_lt, below_suc, cond_elim}
use Rattle.columns.specs.Columns.{log_length}
use Rattle.columns.specs.Promises.{Column}
use Rattle.columns.specs.LogLaws.{log_le, power_is}
use Rattle.dag.specs.Arrays.{up_to, padded}
use Rattle.dag.specs.ArrayLaws.{fill_next, get_or_up_to, get_or_filled, length_up_to, length_padded}
use Rattle.columns.specs.ClassLaws.{below_at}
use Rattle.coefficients.specs.Terms.{root, root_inverse, size_inverse, dense}
use Rattle.coefficients.specs.Arrays.{powers, copied}
use Rattle.coefficients.specs.Split.{part, Level, round, joined, Halved, LowTable, RowDone, Reached}

-- the even terms and the odd terms
module _ {o : Ops ℕ} (L : Laws o) where
  sum_double : (f : ℕ → ℕ) (n : ℕ) → sum o f (2 * n) ≡ o.add (sum o (λ i. f (2 * i)) n) (sum o (λ i. f (2 * i + 1)) n)
  unfolding sum
  sum_double f zero = sym (L.zero_add o.zero L.low_zero)
  sum_double f (suc n) =
      ap (sum o f) two
      ∙ (ap (λ x. o.add (o.add x (f (2 * n))) (f (suc (2 * n)))) (sum_double f n)
      ∙ (ap (λ k. o.add (o.add (o.add (sum o (λ i. f (2 * i)) n) (sum o (λ i. f (2 * i + 1)) n)) (f (2 * n))) (f k)) (sym (add-one (2 * n)))
      ∙ swap (sum o (λ i. f (2 * i)) n) (sum o (λ i. f (2 * i + 1)) n) (f (2 * n)) (f (2 * n + 1))))
    where
      two : 2 * suc n ≡ suc (suc (2 * n))
      two = omega arith

      swap : (a b c d : ℕ) → o.add (o.add (o.add a b) c) d ≡ o.add (o.add a c) (o.add b d)
      swap a b c d =
          L.add_assoc (o.add a b) c d
          ∙ (L.add_assoc a b (o.add c d)
          ∙ (ap (o.add a) (left_comm o.add L.add_comm L.add_assoc b c d) ∙ sym (L.add_assoc a c (o.add b d))))

  module _ (v : ℕ) (c : List ℕ) where
    -- a sum over twice n entries, of two sums over n
    pub part_halves : (s n r h : ℕ) → part o v c s (2 * n) r h ≡ o.add (part o v c (2 * s) n r (2 * h)) (o.mul (pow o v h) (part o v c (2 * s) n (s + r) (2 * h)))
    unfolding part
    part_halves s n r h =
        sum_double (λ i. o.mul (get_or c (s * i + r) 0) (pow o v (h * i))) n
        ∙ ap₂ o.add
        (sum_cong L _ (λ i. o.mul (get_or c (2 * s * i + r) 0) (pow o v (2 * h * i))) n (λ i _. even i))
        (sum_cong L _ (λ i. o.mul (pow o v h) (o.mul (get_or c (2 * s * i + (s + r)) 0) (pow o v (2 * h * i)))) n (λ i _. odd i)
        ∙ sum_scale L (pow o v h) (λ i. o.mul (get_or c (2 * s * i + (s + r)) 0) (pow o v (2 * h * i))) n)
      where
        even : (i : ℕ) → o.mul (get_or c (s * (2 * i) + r) 0) (pow o v (h * (2 * i))) ≡ o.mul (get_or c (2 * s * i + r) 0) (pow o v (2 * h * i))
        even i = ap₂ (λ a b. o.mul (get_or c a 0) (pow o v b)) (omega arith) (omega arith)

        odd : (i : ℕ) → o.mul (get_or c (s * (2 * i + 1) + r) 0) (pow o v (h * (2 * i + 1))) ≡ o.mul (pow o v h) (o.mul (get_or c (2 * s * i + (s + r)) 0) (pow o v (2 * h * i)))
        odd i =
            let place : s * (2 * i + 1) + r ≡ 2 * s * i + (s + r) = omega arith in
            let exponent : h * (2 * i + 1) ≡ h + 2 * h * i = omega arith in
            ap₂ (λ a b. o.mul (get_or c a 0) (pow o v b)) place exponent
            ∙ (ap (o.mul (get_or c (2 * s * i + (s + r)) 0)) (pow_add L v h (2 * h * i))
            ∙ left_comm o.mul L.mul_comm L.mul_assoc (get_or c (2 * s * i + (s + r)) 0) (pow o v h) (pow o v (2 * h * i)))

    -- past a whole turn the powers begin again
    pub part_turn : (P s n r h : ℕ) → pow o v P ≡ o.one → part o v c s n r (h + P) ≡ part o v c s n r h
    unfolding part
    part_turn P s n r h e = sum_cong L _ (λ i. o.mul (get_or c (s * i + r) 0) (pow o v (h * i))) n (λ i _. ap (o.mul (get_or c (s * i + r) 0)) (once i))
      where
        once : (i : ℕ) → pow o v ((h + P) * i) ≡ pow o v (h * i)
        once i =
            let exponent : (h + P) * i ≡ h * i + P * i = omega arith in
            ap (pow o v) exponent
            ∙ (pow_add L v (h * i) (P * i)
            ∙ (ap (o.mul (pow o v (h * i))) (pow_mul L v P i ∙ (ap (λ x. pow o x i) e ∙ one_pow L i)) ∙ mul_one L (pow o v (h * i)) (low_pow L v (h * i))))

    -- one row of all entries
    pub level_start : (s : ℕ) (t : List ℕ) → ((r : ℕ) → r < s → (get_or t r 0 ≡ get_or c r 0) × L.Low (get_or c r 0)) → Level o v c s 1 t
    unfolding part
    level_start s t is = record { at = at }
      where
        one : (r : ℕ) → r < s → sum o (λ i. o.mul (get_or c (s * i + r) 0) (pow o v (0 * s * i))) 1 ≡ get_or c r 0
        one r h =
            let place : s * 0 + r ≡ r = omega arith in
            let exponent : 0 * s * 0 ≡ 0 = omega arith in
            sum_suc L (λ i. o.mul (get_or c (s * i + r) 0) (pow o v (0 * s * i))) 0
            ∙ (ap (λ x. o.add x (o.mul (get_or c (s * 0 + r) 0) (pow o v (0 * s * 0)))) (sum_zero L (λ i. o.mul (get_or c (s * i + r) 0) (pow o v (0 * s * i))))
            ∙ (L.zero_add _ (L.low_mul _ _)
            ∙ (ap₂ (λ a b. o.mul (get_or c a 0) (pow o v b)) place exponent
            ∙ (ap (o.mul (get_or c r 0)) (pow_zero L v) ∙ mul_one L (get_or c r 0) (is r h).1))))

        at : (j r : ℕ) → j < 1 → r < s → get_or t (j * s + r) 0 ≡ sum o (λ i. o.mul (get_or c (s * i + r) 0) (pow o v (j * s * i))) 1
        at zero r h l = let place : 0 * s + r ≡ r = omega arith in ap (λ i. get_or t i 0) place ∙ ((is r l).0 ∙ sym (one r l))
        at (suc j) r h l = absurd (omega arith)

    -- rows of one word
    pub level_end : (n : ℕ) (t : List ℕ) → Level o v c 1 n t → (j : ℕ) → j < n → get_or t j 0 ≡ sum o (λ i. o.mul (get_or c i 0) (pow o v (j * i))) n
    unfolding part
    level_end n t d j h =
        let place : j ≡ j * 1 + 0 = omega arith in
        ap (λ i. get_or t i 0) place
        ∙ (d.at j 0 h (omega arith) ∙ sum_cong L _ (λ i. o.mul (get_or c i 0) (pow o v (j * i))) n (λ i _. ap₂ (λ a b. o.mul (get_or c a 0) (pow o v b)) (omega arith) (omega arith)))

    -- twice as many rows of half as many words
    module _ (s n : ℕ) (from factors t : List ℕ) (turn : pow o v (2 * s * n) ≡ o.one) (fs : (i : ℕ) → i < 2 * s * n → get_or factors i 0 ≡ pow o v i) where
      pub level_next : Level o v c (2 * s) n from → Halved o from factors s n t → Level o v c s (2 * n) t
      unfolding round
      level_next d e = record { at = λ j r h l. e.at j r h l ∙ (row j r h l ∙ sym (part_halves s n r (j * s))) }
        where
          past : (k : ℕ) → 2 * ((k + n) * s) ≡ k * (2 * s) + 2 * s * n
          past k = omega arith

          -- a word of row j, counted round
          word : (j r : ℕ) → j < 2 * n → r < 2 * s → get_or from (round n j * (2 * s) + r) 0 ≡ part o v c (2 * s) n r (2 * (j * s))
          word j r h l = go (le_or_lt n j)
            where
              go : (n ≤ j) ⊎ (j < n) → get_or from (cond (ltb j n) j (j - n) * (2 * s) + r) 0 ≡ part o v c (2 * s) n r (2 * (j * s))
              go (inl b) =
                  let back : j ≡ j - n + n = omega arith in
                  let turned : 2 * (j * s) ≡ (j - n) * (2 * s) + 2 * s * n = ap (λ k. 2 * (k * s)) back ∙ past (j - n) in
                  rw (le-ltb j n b) (d.at (j - n) r (omega arith) l ∙ (sym (part_turn (2 * s * n) (2 * s) n r ((j - n) * (2 * s)) turn) ∙ ap (part o v c (2 * s) n r) (sym turned)))
              go (inr b) =
                  let same : j * (2 * s) ≡ 2 * (j * s) = omega arith in
                  rw (lt-ltb j n b) (d.at j r b l ∙ ap (part o v c (2 * s) n r) same)

          row : (j r : ℕ) → j < 2 * n → r < s
              → joined o from s (get_or factors (j * s) 0) (round n j * (2 * s)) r ≡ o.add (part o v c (2 * s) n r (2 * (j * s))) (o.mul (pow o v (j * s)) (part o v c (2 * s) n (s + r) (2 * (j * s))))
          row j r h l =
              ap₂ o.add (word j r h (omega arith))
              (ap₂ o.mul (fs (j * s) (omega (arith, mul-le-mul_right s h)))
              (ap (λ i. get_or from i 0) (add_assoc (round n j * (2 * s)) s r) ∙ word j (s + r) h (omega arith)))

-- rows stay inside
pub row_fits : (s n j m : ℕ) → 2 * s * n ≤ m → j < 2 * n → j * s + s ≤ m
row_fits s n j m h l = omega (arith, mul-le-mul_right s l)

round_below : (n j : ℕ) → j < 2 * n → round n j < n
unfolding round
round_below n j h = cond_elim (λ k. k < n) (ltb j n) j (j - n) (λ e. ltb-true j n e) (λ e. omega arith)

pub round_fits : (s n j k : ℕ) → k ≡ round n j → 2 * s * n ≤ 128 → j < 2 * n → k * (2 * s) + 2 * s ≤ 128
round_fits s n j k e h l = let below : k < n = rw e (round_below n j l) in omega (arith, mul-le-mul_right (2 * s) below)

module _ (field : Field) where
  -- a word of a table is set
  pub low_set : (t : List ℕ) (k v : ℕ) → k < length t → LowTable field t → v < modulus field → LowTable field (set t k v)
  low_set t k v room d h = record { at = λ i. go i (eqb i k) refl }
    where
      go : (i : ℕ) (b : Bool) → eqb i k ≡ b → get_or (set t k v) i 0 < modulus field
      go i true e = rw (eqb-true i k e, get_or-set_same t k v 0 room) h
      go i false e = rw (get_or-set_other t k i v 0 (eqb-false i k e)) (d.at i)

  low_blank : (n : ℕ) → LowTable field (replicate n 0)
  low_blank n = record { at = at n }
    where
      at : (n i : ℕ) → get_or (replicate {A = ℕ} n 0) i 0 < modulus field
      at zero i = omega (arith, field.large)
      at (suc n) zero = omega (arith, field.large)
      at (suc n) (suc i) = at n i

  low_up_to : (f : ℕ → ℕ) (n : ℕ) → ((i : ℕ) → i < n → f i < modulus field) → LowTable field (up_to f n)
  low_up_to f n low = record { at = λ i. go i (le_or_lt n i) }
    where
      go : (i : ℕ) → (n ≤ i) ⊎ (i < n) → get_or (up_to f n) i 0 < modulus field
      go i (inl h) = rw (get_or_past (up_to f n) i 0 (rw (length_up_to f n) h)) (omega (arith, field.large))
      go i (inr h) = rw (get_or_up_to f 0 n i h) (low i h)

  -- a table filled from the front
  pub low_filled : (f : ℕ → ℕ) (n : ℕ) → n ≤ 128 → ((i : ℕ) → i < n → f i < modulus field) → LowTable field (padded 0 128 (up_to f n))
  unfolding padded up_to
  low_filled f zero short low = low_blank 128
  low_filled f (suc n) short low =
      subst (λ t. LowTable field t) (fill_next 0 128 f (padded 0 128 (up_to f n)) n (f n) short refl refl ∙ ap (λ k. padded 0 128 (up_to f k)) (add-one n))
      (low_set (padded 0 128 (up_to f n)) n (f n) (omega (arith, length_padded 0 128 (up_to f n) (omega (arith, length_up_to f n)))) (low_filled f n (omega arith) (λ i h. low i (omega arith))) (low n (omega arith)))

  -- the first m rows are made
  pub record Rows (from factors : List ℕ) (s n m : ℕ) (t : List ℕ) : Type 0 where
    pub at : (j r : ℕ) → j < m → r < s → get_or t (j * s + r) 0 ≡ joined field.coordinates from s (get_or factors (j * s) 0) (round n j * (2 * s)) r
    pub many : length t ≡ 128
    pub low : LowTable field t

  module _ (from factors : List ℕ) (s n : ℕ) where
    pub rows_none : Rows from factors s n 0 (replicate 128 0)
    rows_none = record { at = λ j r h l. absurd (omega arith); many = length-replicate {A = ℕ} 128 0; low = low_blank 128 }

    pub rows_next : (m : ℕ) (old t : List ℕ) (x a : ℕ) → Rows from factors s n m old → x ≡ get_or factors (m * s) 0 → a ≡ round n m * (2 * s) → RowDone field (joined field.coordinates from s x a) old (m * s) s t → Rows from factors s n (m + 1) t
    rows_next m old t x a d ex ea e = record { at = λ j r h l. go j r l (below_suc j m (omega arith)); many = e.many ∙ d.many; low = e.low }
      where
        go : (j r : ℕ) → r < s → (j < m) ⊎ (j ≡ m) → get_or t (j * s + r) 0 ≡ joined field.coordinates from s (get_or factors (j * s) 0) (round n j * (2 * s)) r
        go j r l (inl h) = e.kept (j * s + r) (omega (arith, mul-le-mul_right s h)) ∙ d.at j r h l
        go j r l (inr q) = rw (q, ← ex, ← ea) (e.filled r l)

  -- the column's powers are below p, and turn
  module _ (c : List ℕ) (col : Column (modulus field) c) where
    whole_turn : pow field.coordinates (root_inverse field c) (length c) ≡ field.coordinates.one
    unfolding root_inverse root log_length
    whole_turn =
        sym (pow_mul (coordinate_laws field) (field.generator (log_length c)) (length c - 1) (length c))
        ∙ (ap (pow field.coordinates (field.generator (log_length c))) (mul_comm (length c - 1) (length c))
        ∙ (pow_mul (coordinate_laws field) (field.generator (log_length c)) (length c) (length c - 1)
        ∙ (ap (λ x. pow field.coordinates x (length c - 1)) once ∙ one_pow (coordinate_laws field) (length c - 1))))
      where
        once : pow field.coordinates (field.generator (log_length c)) (length c) ≡ field.coordinates.one
        once =
            ap (pow field.coordinates (field.generator (log_length c))) (power_is 7 (length c) col.power)
            ∙ (field.generator_order (log_length c) (omega (arith, log_le 7 (length c), field.columns_fit)) ∙ sym field.one_is)

    pub reached_start : Reached field c (length c) 1 (copied c)
    unfolding copied log_length
    reached_start =
        record {
          even = (log_length c, power_is 7 (length c) col.power);
          whole = omega arith;
          level = level_start (coordinate_laws field) (root_inverse field c) c (length c) (copied c) (λ r h. (word r h, below_at (modulus field) c r col.low h));
          low = low_filled (λ i. get_or c i 0) (length c) col.short (λ i h. below_at (modulus field) c i col.low h);
        }
      where
        word : (r : ℕ) → r < length c → get_or (copied c) r 0 ≡ get_or c r 0
        word r h = get_or_filled 0 0 128 (λ i. get_or c i 0) (length c) r h

    pub reached_next : (s n : ℕ) (from factors t : List ℕ) (v : ℕ) → 1 < s → v ≡ root_inverse field c → factors ≡ powers field.coordinates v (length c) → Reached field c s n from
        → Halved field.coordinates from factors (s / 2) n t × LowTable field t → Reached field c (s / 2) (2 * n) t
    unfolding powers
    reached_next s n from factors t v h ev ef d q =
        record {
          even = (halving d.even.0 d.even.1).1;
          whole = omega (arith, whole);
          level = level_next (coordinate_laws field) (root_inverse field c) c (s / 2) n from factors t (ap (pow field.coordinates (root_inverse field c)) whole ∙ whole_turn) (λ i l. rw (ef, ev) (filled i l)) (rw (← halves) at d.level) q.0;
          low = q.1;
        }
      where
        halving : (k : ℕ) → s ≡ 2 ^ k → (s ≡ 2 * (s / 2)) × ((k : ℕ) × (s / 2 ≡ 2 ^ k))
        halving zero e = absurd (omega arith)
        halving (suc k) e = let f = two-pow-succ k in (omega arith, (k, omega arith))

        halves : 2 * (s / 2) ≡ s
        halves = sym (halving d.even.0 d.even.1).0

        whole : 2 * (s / 2) * n ≡ length c
        whole = ap (λ k. k * n) halves ∙ d.whole

        filled : (i : ℕ) → i < 2 * (s / 2) * n → get_or (powers field.coordinates (root_inverse field c) (length c)) i 0 ≡ pow field.coordinates (root_inverse field c) i
        filled i l = get_or_up_to (pow field.coordinates (root_inverse field c)) 0 (length c) i (rw whole at l)

    pub reached_fits : (s n v : ℕ) (t f : List ℕ) → f ≡ powers field.coordinates v (length c) → Reached field c s n t → (2 * (s / 2) * n ≤ length f) × (length f ≤ 128)
    unfolding powers
    reached_fits s n v t f e d =
        let most : 2 * (s / 2) ≤ s = omega arith in
        let long : length f ≡ length c = ap length e ∙ length_up_to (pow field.coordinates v) (length c) in
        (omega (arith, mul-le-mul_right n most, d.whole), omega (arith, col.short))

    pub low_powers : (f : List ℕ) (v : ℕ) → f ≡ powers field.coordinates v (length c) → LowTable field f
    unfolding powers
    low_powers f v e = rw e (low_up_to (pow field.coordinates v) (length c) (λ i _. low_pow (coordinate_laws field) v i))

    pub dense_told : (j h s r : ℕ) (t : List ℕ) → j < length c → Reached field c 1 (length c) t → h ≡ get_or t j 0 → s ≡ size_inverse field c → r ≡ field.coordinates.mul h s → r ≡ dense field c j
    unfolding dense
    dense_told j h s r t l d eh es er = er ∙ ap₂ field.coordinates.mul (eh ∙ level_end (coordinate_laws field) (root_inverse field c) c (length c) t d.level j l) es
