-- What the list check gives: each record's words are its node's words, and the list is well-formed.
use Prim.Native.Nat.{ℕ, zero, suc, ◌+◌, ◌≤◌, ◌<◌}
use Rattle.std.specs.Prelude.{Bool, true, false, ◌⊎◌, ◌≡◌, leb, ltb, eqb, Ok, Err}
use Rattle.std.proofs.Common.{true≢false, inl, inr, sym, ◌∙◌, add-one, arith, lt-ltb, le-leb, eqb-true, leb-true, ltb-true}
use Rattle.std.proofs.Math.Path.{refl, ap}
use Rattle.field.specs.Fields.{Bounds, Within}
use Rattle.dag.specs.View.{View}
use Rattle.dag.specs.Keys.{is_key}
use Rattle.dag.specs.Nodes.{tag, first, second, decode, record_at, nodes}
use Rattle.dag.specs.NodeLaws.{length_nodes, at_nodes}
use Rattle.dag.specs.CaseLaws.{and_true, below_suc, below_suc_elim}
use Rattle.dag.specs.Refusals.{need, ◌then◌, is_refused, first_refused, Checked}
use Rattle.dag.specs.Check.{formed, earlier, record_check, check_at, records_check}
use Rattle.dag.specs.WellFormed.{Fine, WellFormed}
use Rattle.dag.specs.WellFormedLaws.{well_formed_below}
use Rattle.dag.specs.declared.NodeKind.{NodeKind}
use Rattle.dag.specs.declared.NodeKind.TheVariants.{Input, Constant, Add, Sub, Mul, Neg}
use Rattle.dag.specs.declared.Refusal.{Refusal}
use Rattle.dag.specs.declared.Refusal.TheVariants.{UnknownTag, Malformed, OperandNotEarlier}

pub then_good : (c d : Checked) → c then d ≡ Ok tt → (c ≡ Ok tt) × (d ≡ Ok tt)
then_good (Ok u) d e = (refl, e)
then_good (Err r) d e = let z : ◌≡◌ {A = ℕ} 0 1 = cc in absurd (omega arith)

pub need_good : (t : Bool) (r : Refusal) → need t r ≡ Ok tt → t ≡ true
need_good true r e = refl
need_good false r e = let z : ◌≡◌ {A = ℕ} 0 1 = cc in absurd (omega arith)

pub not_refused : (c : Checked) → is_refused c ≡ false → c ≡ Ok tt
not_refused (Ok u) e = refl
not_refused (Err r) e = absurd (true≢false e)

pub refused_then : (c d : Checked) → is_refused c ≡ true → c ≡ c then d
refused_then (Ok u) d e = absurd (true≢false (sym e))
refused_then (Err r) d e = refl

-- a test that refuses has a reason
pub refused_is : (c : Checked) → is_refused c ≡ true → (r : Refusal) × (c ≡ Err r)
refused_is (Ok u) h = absurd (true≢false (sym h))
refused_is (Err r) h = (r, refl)

-- a test at the places below n, one by one
module _ (test : ℕ → Checked) where
  pub first_none : first_refused test 0 ≡ Ok tt
  unfolding first_refused
  first_none = refl

  pub first_next : (i : ℕ) → first_refused test i ≡ Ok tt → test i ≡ Ok tt → first_refused test (i + 1) ≡ Ok tt
  unfolding first_refused
  first_next i e f = rw (add-one i, e) f

  -- a refusal after good tests is the first of any longer run
  pub first_bad : (i n : ℕ) → first_refused test i ≡ Ok tt → is_refused (test i) ≡ true → i < n → test i ≡ first_refused test n
  unfolding first_refused
  first_bad i zero good bad h = absurd (omega arith)
  first_bad i (suc n) good bad h = go (λ k. first_bad i n good bad k) (below_suc i n h)
    where
      go : (i < n → test i ≡ first_refused test n) → (i < n) ⊎ (i ≡ n) → test i ≡ first_refused test n then test n
      go before (inl k) = refused_then (test i) (test n) bad ∙ ap (λ c. c then test n) (before k)
      go before (inr e) = rw (← e, good)

  pub first_stop : (i n : ℕ) (r : Refusal) → first_refused test i ≡ Ok tt → test i ≡ Err r → i < n → Err r ≡ first_refused test n
  first_stop i n r good bad h = sym bad ∙ first_bad i n good (rw bad) h

  pub first_good : (n : ℕ) → first_refused test n ≡ Ok tt → (i : ℕ) → i < n → test i ≡ Ok tt
  unfolding first_refused
  first_good zero e i h = absurd (omega arith)
  first_good (suc n) e i h =
      let both = then_good (first_refused test n) (test n) e in
      below_suc_elim (λ i. test i ≡ Ok tt) n (first_good n both.0) both.1 i h

  pub first_all : (i n : ℕ) → first_refused test i ≡ Ok tt → i ≤ n → n ≤ i → Ok tt ≡ first_refused test n
  first_all i n e h k = let q : i ≡ n = omega arith in sym e ∙ ap (first_refused test) q

-- the three tests of one record
pub record Passed (m : Bounds) (t a b i : ℕ) : Type 0 where
  pub known : t ≤ 5
  pub form : formed m t a b ≡ true
  pub order : earlier t a b i ≡ true

pub passed : (m : Bounds) (t a b i : ℕ) → record_check m t a b i ≡ Ok tt → Passed m t a b i
unfolding record_check
passed m t a b i e =
    let one = then_good (need (leb t 5) (UnknownTag i)) (need (formed m t a b) (Malformed i) then need (earlier t a b i) (OperandNotEarlier i)) e in
    let two = then_good (need (formed m t a b) (Malformed i)) (need (earlier t a b i) (OperandNotEarlier i)) one.1 in
    record {
      known = leb-true t 5 (need_good (leb t 5) (UnknownTag i) one.0);
      form = need_good (formed m t a b) (Malformed i) two.0;
      order = need_good (earlier t a b i) (OperandNotEarlier i) two.1;
    }

pub passes : (m : Bounds) (t a b i : ℕ) → Passed m t a b i → record_check m t a b i ≡ Ok tt
unfolding record_check
passes m t a b i h = simp (le-leb t 5 h.known, h.form, h.order)

-- the order of the operands is told by the record that words of a known tag stand for
pub earlier_decoded : (t a b i : ℕ) → t ≤ 5 → earlier (tag (decode t a b)) (first (decode t a b)) (second (decode t a b)) i ≡ earlier t a b i
unfolding decode earlier
earlier_decoded zero a b i h = refl
earlier_decoded (suc zero) a b i h = refl
earlier_decoded (suc (suc zero)) a b i h = refl
earlier_decoded (suc (suc (suc zero))) a b i h = refl
earlier_decoded (suc (suc (suc (suc zero)))) a b i h = refl
earlier_decoded (suc (suc (suc (suc (suc zero))))) a b i h = refl
earlier_decoded (suc (suc (suc (suc (suc (suc t)))))) a b i h = absurd (omega arith)

-- the record of words that pass has those words, and may stand there
pub record Faithful (m : Bounds) (t a b i : ℕ) : Type 0 where
  pub tag_is : tag (decode t a b) ≡ t
  pub first_is : first (decode t a b) ≡ a
  pub second_is : second (decode t a b) ≡ b
  pub fine : Fine (Within m) i (decode t a b)

pub faithful : (m : Bounds) (t a b i : ℕ) → Passed m t a b i → Faithful m t a b i
unfolding formed earlier decode Fine
faithful m zero a b i h =
    let e = and_true (is_key a) (eqb b 0) h.form in
    record { tag_is = refl; first_is = refl; second_is = sym (eqb-true b 0 e.1); fine = e.0 }
faithful m (suc zero) a b i h =
    let e = and_true (ltb a m.c0_below) (ltb b m.c1_below) h.form in
    record { tag_is = refl; first_is = refl; second_is = refl; fine = (ltb-true a m.c0_below e.0, ltb-true b m.c1_below e.1) }
faithful m (suc (suc zero)) a b i h =
    let e = and_true (ltb a i) (ltb b i) h.order in
    record { tag_is = refl; first_is = refl; second_is = refl; fine = (ltb-true a i e.0, ltb-true b i e.1) }
faithful m (suc (suc (suc zero))) a b i h =
    let e = and_true (ltb a i) (ltb b i) h.order in
    record { tag_is = refl; first_is = refl; second_is = refl; fine = (ltb-true a i e.0, ltb-true b i e.1) }
faithful m (suc (suc (suc (suc zero)))) a b i h =
    let e = and_true (ltb a i) (ltb b i) h.order in
    record { tag_is = refl; first_is = refl; second_is = refl; fine = (ltb-true a i e.0, ltb-true b i e.1) }
faithful m (suc (suc (suc (suc (suc zero))))) a b i h =
    record { tag_is = refl; first_is = refl; second_is = sym (eqb-true b 0 h.form); fine = ltb-true a i h.order }
faithful m (suc (suc (suc (suc (suc (suc t)))))) a b i h = let k : suc (suc (suc (suc (suc (suc t))))) ≤ 5 = h.known in absurd (omega arith)

-- a record that may stand at place i passes
pub fine_passes : (m : Bounds) (i : ℕ) (x : NodeKind) → Fine (Within m) i x → Passed m (tag x) (first x) (second x) i
unfolding formed earlier Fine
fine_passes m i (Input k) f = record { known = omega arith; form = rw f; order = refl }
fine_passes m i (Constant c) f = record { known = omega arith; form = rw (lt-ltb c.c0 m.c0_below f.0, lt-ltb c.c1 m.c1_below f.1); order = refl }
fine_passes m i (Add a b) f = record { known = omega arith; form = refl; order = rw (lt-ltb a i f.0, lt-ltb b i f.1) }
fine_passes m i (Sub a b) f = record { known = omega arith; form = refl; order = rw (lt-ltb a i f.0, lt-ltb b i f.1) }
fine_passes m i (Mul a b) f = record { known = omega arith; form = refl; order = rw (lt-ltb a i f.0, lt-ltb b i f.1) }
fine_passes m i (Neg a) f = record { known = omega arith; form = refl; order = rw (lt-ltb a i f) }

-- a list that passes is well-formed
pub check_well_formed : (m : Bounds) (s : View) (n : ℕ) → records_check m s n ≡ Ok tt → WellFormed (Within m) (nodes s n)
unfolding check_at record_at
check_well_formed m s n e =
    well_formed_below (Within m) (nodes s n) λ i h.
    let k : i < n = omega (arith, length_nodes s n) in
    rw (at_nodes s n i k) (faithful m _ _ _ i (passed m _ _ _ i (first_good (check_at m s) n e i k))).fine
