-- A column's classes: its values, the dominant one, and the coefficients that an offset leaves.
use Prim.Native.Nat.{ℕ, zero, suc, ◌+◌, ◌*◌, ◌-◌, ◌≤◌, ◌<◌}
use Rattle.std.specs.Prelude.{Bool, ◌≡◌, leb, ltb, eqb, get_or, drop}
use Rattle.std.proofs.Math.Bool.{true, false, cond}
use mathlib.Core.List.{List, [], ◌∷◌, ◌++◌, append-nil, append_assoc}
use Rattle.std.proofs.Math.Path.{refl, ap}
use Rattle.std.proofs.Common.{sym, ◌∙◌, arith, drop_of_length-le, drop-cons}
use Rattle.std.proofs.Math.Numerals.{add-one}
use borrow.Author.Tests.{eq-eqb, ne_eqb, eqb-true, eqb-false, ltb-true, lt-ltb, le-ltb, le-leb}
use Rattle.std.proofs.Math.ListN.{length}
use Rattle.ring.specs.Identities.{sub_add_cancel}
use Rattle.ring.specs.Residue.{residues_laws, sub, add}
use Rattle.dag.specs.CaseLaws.{cond_elim, and_true}
use Rattle.std.specs.List.{count_by, All}
use Rattle.std.proofs.lemmas.List.{get_or_default}
use Rattle.std.proofs.lemmas.List.Recursion.{is_count_by}
use Rattle.columns.specs.CountLaws.{one_more}
use Rattle.columns.specs.Columns.{count, with_new, values_from, values, weight, heaviest, dominant, is_scaled, scalings, others, combination_cost, offset}
use Rattle.columns.specs.Prepare.{all_below}

-- entries below m
module _ (m : ℕ) where
  pub below_at : (c : List ℕ) (i : ℕ) → all_below m c ≡ true → i < length c → get_or c i 0 < m
  unfolding all_below
  below_at [] i e h = absurd (omega arith)
  below_at (v ∷ c) zero e h = ltb-true v m (and_true (ltb v m) (all_below m c) e).0
  below_at (v ∷ c) (suc i) e h = below_at c i (and_true (ltb v m) (all_below m c) e).1 (omega arith)

  pub all_below_is : (c : List ℕ) → all_below m c ≡ true → All (λ v. v < m) c
  all_below_is c e k d h = rw (get_or_default c k d 0 h) (below_at c k e h)

  below_head : (v : ℕ) (c : List ℕ) → all_below m (v ∷ c) ≡ true → v < m
  unfolding all_below
  below_head v c e = ltb-true v m (and_true (ltb v m) (all_below m c) e).0

  below_tail : (v : ℕ) (c : List ℕ) → all_below m (v ∷ c) ≡ true → all_below m c ≡ true
  unfolding all_below
  below_tail v c e = (and_true (ltb v m) (all_below m c) e).1

  pub below_snoc : (vs : List ℕ) (v : ℕ) → all_below m vs ≡ true → v < m → all_below m (vs ++ (v ∷ [])) ≡ true
  unfolding all_below
  below_snoc [] v e h = rw (lt-ltb v m h)
  below_snoc (w ∷ vs) v e h = rw (lt-ltb w m (below_head w vs e)) (below_snoc vs v (below_tail w vs e) h)

  below_new : (vs : List ℕ) (v : ℕ) → all_below m vs ≡ true → v < m → all_below m (with_new vs v) ≡ true
  unfolding with_new
  below_new vs v e h =
      cond_elim (λ l. all_below m l ≡ true) (eqb (count v vs) 0) (vs ++ (v ∷ [])) vs (λ _. below_snoc vs v e h) (λ _. e)

  below_from : (vs c : List ℕ) → all_below m vs ≡ true → all_below m c ≡ true → all_below m (values_from vs c) ≡ true
  unfolding values_from
  below_from vs [] e f = e
  below_from vs (v ∷ c) e f = below_from (with_new vs v) c (below_new vs v e (below_head v c f)) (below_tail v c f)

  pub below_values : (c : List ℕ) → all_below m c ≡ true → all_below m (values c) ≡ true
  unfolding values all_below
  below_values c e = below_from [] c refl e

  pub below_heaviest : (c : List ℕ) (d : ℕ) (vs : List ℕ) → d < m → all_below m vs ≡ true → heaviest c d vs < m
  unfolding heaviest
  below_heaviest c d [] h e = h
  below_heaviest c d (v ∷ vs) h e =
      below_heaviest c (cond (leb (weight c d) (weight c v)) v d) vs
      (cond_elim (λ w. w < m) (leb (weight c d) (weight c v)) v d (λ _. below_head v vs e) (λ _. h))
      (below_tail v vs e)

-- the values vs found before place i, and those from there on
module _ (c vs ws : List ℕ) (i : ℕ) (t : List ℕ) where
  pub values_next : i < length c → ws ≡ with_new vs (get_or c i 0) → values_from vs (drop i c) ≡ t → values_from ws (drop (i + 1) c) ≡ t
  unfolding values_from
  values_next h e inv = rw e (rw (drop-cons c i 0 h, ← add-one i) at inv)

pub values_end : (c vs : List ℕ) (i : ℕ) (t : List ℕ) → length c ≤ i → values_from vs (drop i c) ≡ t → vs ≡ t
unfolding values_from
values_end c vs i t h inv = rw (drop_of_length-le c {i = i} h) at inv

-- 0 weighs nothing, so that the first value is as heavy
weight_zero : (c : List ℕ) → weight c 0 ≡ 0
unfolding weight
weight_zero c = refl

pub heaviest_first : (c : List ℕ) (v : ℕ) (vs : List ℕ) → heaviest c v vs ≡ heaviest c 0 (v ∷ vs)
unfolding heaviest
heaviest_first c v vs = rw (weight_zero c, le-leb 0 (weight c v) (omega arith))

-- the heaviest of d, vs and v
pub heaviest_snoc : (c : List ℕ) (d : ℕ) (vs : List ℕ) (v : ℕ) → heaviest c d (vs ++ (v ∷ [])) ≡ cond (leb (weight c (heaviest c d vs)) (weight c v)) v (heaviest c d vs)
unfolding heaviest
heaviest_snoc c d [] v = refl
heaviest_snoc c d (w ∷ vs) v = heaviest_snoc c (cond (leb (weight c d) (weight c w)) w d) vs v

-- the scaled classes, counted
pub scalings_count : (m d : ℕ) (vs : List ℕ) → length (scalings m d vs) ≡ count_by (is_scaled m d) vs
unfolding scalings
scalings_count m d vs = is_count_by (λ l. length (scalings m d l)) (is_scaled m d) refl (λ v l. go v l (is_scaled m d v)) vs
  where
    go : (v : ℕ) (l : List ℕ) (t : Bool) → length (cond t (sub m v d ∷ scalings m d l) (scalings m d l)) ≡ cond t (1 + length (scalings m d l)) (length (scalings m d l))
    go v l true = one_more (length (scalings m d l))
    go v l false = refl

-- the values l, each for the first time after vs
abbrev Fresh : List ℕ → List ℕ → Type 0
Fresh vs [] = Unit {0}
Fresh vs (v ∷ l) = (count v vs ≡ 0) × Fresh (vs ++ (v ∷ [])) l

fresh_values : (vs l : List ℕ) → Fresh vs l → values_from vs l ≡ vs ++ l
unfolding values_from with_new
fresh_values vs [] f = sym (append-nil vs)
fresh_values vs (v ∷ l) f = rw f.0 (fresh_values (vs ++ (v ∷ [])) l f.1 ∙ append_assoc vs (v ∷ []) l)

fresh_snoc : (us vs : List ℕ) (v : ℕ) → Fresh us vs → count v (us ++ vs) ≡ 0 → Fresh us (vs ++ (v ∷ []))
fresh_snoc us [] v f e = (rw (append-nil us) at e, tt)
fresh_snoc us (w ∷ vs) v f e = (f.0, fresh_snoc (us ++ (w ∷ [])) vs v f.1 (rw (append_assoc us (w ∷ []) vs) e))

fresh_new : (vs : List ℕ) (v : ℕ) → Fresh [] vs → Fresh [] (with_new vs v)
unfolding with_new
fresh_new vs v f = cond_elim (Fresh []) (eqb (count v vs) 0) (vs ++ (v ∷ [])) vs (λ e. fresh_snoc [] vs v f (eqb-true (count v vs) 0 e)) (λ _. f)

fresh_from : (vs c : List ℕ) → Fresh [] vs → Fresh [] (values_from vs c)
unfolding values_from
fresh_from vs [] f = f
fresh_from vs (v ∷ c) f = fresh_from (with_new vs v) c (fresh_new vs v f)

count_none : (v w : ℕ) (vs : List ℕ) → count v (w ∷ vs) ≡ 0 → (w ≡ v → ⊥) × (count v vs ≡ 0)
unfolding count
count_none v w vs f = go (eqb w v) refl f
  where
    go : (t : Bool) → eqb w v ≡ t → cond t (suc (count v vs)) (count v vs) ≡ 0 → (w ≡ v → ⊥) × (count v vs ≡ 0)
    go true q f = absurd (omega arith)
    go false q f = (eqb-false w v q, f)

-- different values below m leave different coefficients
module _ (m d : ℕ) (big : 1 < m) where
  sub_inj : (v w : ℕ) → v < m → w < m → sub m v d ≡ sub m w d → v ≡ w
  sub_inj v w h k e = sym (sub_add_cancel (residues_laws m big) v d h) ∙ ap (λ x. add m x d) e ∙ sub_add_cancel (residues_laws m big) w d k

  scalings_snoc : (vs : List ℕ) (v : ℕ) → scalings m d (vs ++ (v ∷ [])) ≡ scalings m d vs ++ cond (is_scaled m d v) (sub m v d ∷ []) []
  unfolding scalings
  scalings_snoc [] v = refl
  scalings_snoc (w ∷ vs) v = rw (scalings_snoc vs v) (go (is_scaled m d w) (scalings m d vs) (cond (is_scaled m d v) (sub m v d ∷ []) []))
    where
      go : (t : Bool) (l r : List ℕ) → cond t (sub m w d ∷ (l ++ r)) (l ++ r) ≡ cond t (sub m w d ∷ l) l ++ r
      go true l r = refl
      go false l r = refl

  count_scaled : (v : ℕ) (vs : List ℕ) → v < m → all_below m vs ≡ true → count v vs ≡ 0 → count (sub m v d) (scalings m d vs) ≡ 0
  unfolding count scalings
  count_scaled v [] h e f = refl
  count_scaled v (w ∷ vs) h e f =
      let z = count_none v w vs f in
      let rest = count_scaled v vs h (below_tail m w vs e) z.1 in
      cond_elim (λ l. count (sub m v d) l ≡ 0) (is_scaled m d w) (sub m w d ∷ scalings m d vs) (scalings m d vs)
      (λ _. rw (ne_eqb (sub m w d) (sub m v d) (λ q. z.0 (sub_inj w v (below_head m w vs e) h q))) rest)
      (λ _. rest)

  fresh_scaled : (vs l : List ℕ) → all_below m vs ≡ true → all_below m l ≡ true → Fresh vs l → Fresh (scalings m d vs) (scalings m d l)
  unfolding scalings
  fresh_scaled vs [] e f g = tt
  fresh_scaled vs (v ∷ l) e f g =
      go (is_scaled m d v)
      (rw (scalings_snoc vs v) at (fresh_scaled (vs ++ (v ∷ [])) l (below_snoc m vs v e (below_head m v l f)) (below_tail m v l f) g.1))
      (count_scaled v vs (below_head m v l f) e g.0)
    where
      go : (t : Bool) → Fresh (scalings m d vs ++ cond t (sub m v d ∷ []) []) (scalings m d l) → count (sub m v d) (scalings m d vs) ≡ 0
          → Fresh (scalings m d vs) (cond t (sub m v d ∷ scalings m d l) (scalings m d l))
      go true r z = (z, r)
      go false r z = rw (append-nil (scalings m d vs)) at r

  -- so no constant repeats
  pub constants : (c : List ℕ) → all_below m c ≡ true → values (scalings m d (values c)) ≡ scalings m d (values c)
  unfolding values scalings all_below
  constants c e = fresh_values [] (scalings m d (values_from [] c)) (fresh_scaled [] (values_from [] c) refl (below_from m [] c refl e) (fresh_from [] c tt))

-- one more value
module _ (vs : List ℕ) (v : ℕ) where
  pub new_none : (count v vs ≡ 0 → ⊥) → vs ≡ with_new vs v
  unfolding with_new
  new_none h = rw (ne_eqb (count v vs) 0 h)

  pub new_one : count v vs ≡ 0 → vs ++ (v ∷ []) ≡ with_new vs v
  unfolding with_new
  new_one e = rw (eq-eqb (count v vs) 0 e)

-- a column's cost in basis, where n classes are scaled
module _ (m : ℕ) (c vs : List ℕ) (d n k : ℕ) (big : 1 < m) (low : all_below m c ≡ true) (ev : vs ≡ values c) (en : n ≡ length (scalings m d vs)) (ek : k ≡ others c d - 1) where
  cost_told : k + 3 * n + cond (eqb d 0) 0 3 ≡ combination_cost m c d
  unfolding combination_cost
  cost_told = rw (constants m d big c low, ← ev, ← en, ek) (omega arith)

  pub cost_zero : d ≡ 0 → k + 3 * n ≡ combination_cost m c d
  cost_zero e = omega (arith, rw (eq-eqb d 0 e) at cost_told)

  pub cost_offset : (d ≡ 0 → ⊥) → k + 3 * n + 3 ≡ combination_cost m c d
  cost_offset e = omega (arith, rw (ne_eqb d 0 e) at cost_told)

-- the offset, from the dominant value and the two costs
module _ (m : ℕ) (c vs : List ℕ) (d a b : ℕ) (ev : vs ≡ values c) (ed : d ≡ heaviest c 0 vs) (ea : a ≡ combination_cost m c d) (eb : b ≡ combination_cost m c 0) where
  is_dominant : d ≡ dominant c
  unfolding dominant
  is_dominant = ed ∙ ap (heaviest c 0) ev

  pub offset_dominant : a < b → d ≡ offset m c
  unfolding offset
  offset_dominant h = rw (← is_dominant, ← ea, ← eb, lt-ltb a b h)

  pub offset_zero : b ≤ a → 0 ≡ offset m c
  unfolding offset
  offset_zero h = rw (← is_dominant, ← ea, ← eb, le-ltb a b h)

pub dominant_below : (m : ℕ) (c vs : List ℕ) (d : ℕ) → 0 < m → all_below m c ≡ true → vs ≡ values c → d ≡ heaviest c 0 vs → d < m
dominant_below m c vs d pos low ev ed = rw (ed, ev) (below_heaviest m c 0 (values c) pos (below_values m c low))

-- a column's cost in basis, and its offset
pub ruleset costs = (below_values, all_below_is, cost_zero, cost_offset)

pub ruleset offsets = (dominant_below, offset_dominant, offset_zero)
