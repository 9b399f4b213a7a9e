-- Laws of what computations keep and answer.
use Prim.Native.Nat.{ℕ, zero, suc, ◌+◌, ◌-◌, ◌<◌}
use Rattle.std.specs.Prelude.{Bool, true, false, cond, List, [], ◌∷◌, ◌++◌, ◌≡◌, refl, length}
use Rattle.std.proofs.Common.{append-nil, sym, ◌∙◌, ap, subst, arith, length-append}
use Rattle.std.proofs.Math.ListN.{get_or, get_or-append}
use Rattle.std.proofs.lemmas.List.{get_or_at}
use Rattle.std.proofs.Math.Seq.{append_snoc}
use Rattle.ring.specs.Ring.{Ops, Laws}
use Rattle.field.specs.declared.QuadFelt.{QuadFelt}
use Rattle.dag.specs.CaseLaws.{below_suc_elim}
use Rattle.dag.specs.NodeLaws.{length_snoc}
use Rattle.dag.specs.WellFormed.{Fine, WellFormed}
use Rattle.dag.specs.declared.NodeKind.{NodeKind}
use Rattle.meaning.specs.Values.{value_of, value}
use Rattle.meaning.specs.ValueLaws.{value_snoc}
use Rattle.builder.specs.StepLaws.{step_grown}
use Rattle.builder.specs.StepValueLaws.{step_value}
use Rattle.dag.specs.ArrayLaws.{length_up_to, get_or_up_to}
use Rattle.periodic.specs.Builder.{Extends, Builder, done, ◌>>=◌, turns, enter, also}
use Rattle.periodic.specs.Periodic.{backwards}
use Rattle.worth.specs.Keeps.{Keeps, Is, Are}
use Rattle.worth.specs.Worth.{folded}

module _ {Low : QuadFelt → Type 0} {A : Type 0} where
  pub keeps_done : {l : List NodeKind} {P : List NodeKind → A → Type 0} (a : A) → WellFormed Low l → P l a → Keeps Low l (done a) P
  unfolding done
  keeps_done a w h = record { well_formed = w; answers = h }

  -- what follows may use all that held before, of the longer list
  pub keeps_then : {B : Type 0} {l : List NodeKind} {m : Builder A} {f : A → Builder B} {P : List NodeKind → A → Type 0} {Q : List NodeKind → B → Type 0}
      → Keeps Low l m P → ((k : List NodeKind) (a : A) → WellFormed Low k → Extends l k → P k a → Keeps Low k (f a) Q) → Keeps Low l (m >>= f) Q
  unfolding ◌>>=◌
  keeps_then {l} {m} r next =
      let s = next (m.run l).list (m.run l).answer r.well_formed (m.extends l) r.answers in
      record { well_formed = s.well_formed; answers = s.answers }

  pub keeps_cond : {B : Type 0} {l : List NodeKind} (P : B → List NodeKind → A → Type 0) (t : Bool) (m n : Builder A) (u v : B)
      → Keeps Low l m (P u) → Keeps Low l n (P v) → Keeps Low l (cond t m n) (P (cond t u v))
  keeps_cond P true m n u v r s = r
  keeps_cond P false m n u v r s = s

module _ {Low : QuadFelt → Type 0} {A : Type 0} (P : ℕ → List NodeKind → A → Type 0) (f : ℕ → A → Builder A) where
  -- P i holds before turn i
  pub keeps_turns : {l : List NodeKind} (n : ℕ) (a : A) → WellFormed Low l → P 0 l a
      → ((i : ℕ) → i < n → (k : List NodeKind) (b : A) → WellFormed Low k → Extends l k → P i k b → Keeps Low k (f i b) (P (suc i)))
      → Keeps Low l (turns f n a) (P n)
  unfolding turns
  keeps_turns zero a w h turn = keeps_done a w h
  keeps_turns (suc n) a w h turn = keeps_then (keeps_turns n a w h (λ i g. turn i (omega arith))) (turn n (omega arith))

module _ (F : Ops QuadFelt) (given : ℕ → QuadFelt) where
  value_later : (l t : List NodeKind) (i : ℕ) → i < length l → value F given (l ++ t) i ≡ value F given l i
  value_later l [] i h = rw (append-nil l)
  value_later l (x ∷ t) i h =
      rw (← append_snoc l x t) (value_later (l ++ (x ∷ [])) t i (omega (arith, length_snoc l x)) ∙ value_snoc F given l x i h)

module _ {F : Ops QuadFelt} {given : ℕ → QuadFelt} where
  -- places stay what they are
  pub later : {l k : List NodeKind} {i : ℕ} {v : QuadFelt} → Extends l k → Is F given l i v → Is F given k i v
  later {l} {k} {i} {v} e s =
      subst (λ k. Is F given k i v) (sym e.1)
      (record { inside = omega (arith, length-append l e.0, s.inside); worth = value_later F given l e.0 i s.inside ∙ s.worth })

  pub all_later : {l k : List NodeKind} {ps : List ℕ} {n : ℕ} {v : ℕ → QuadFelt} → Extends l k → Are F given l ps n v → Are F given k ps n v
  all_later e s = record { count = s.count; each = λ j h. later e (s.each j h) }

  pub are_none : {l : List NodeKind} {v : ℕ → QuadFelt} → Are F given l [] 0 v
  are_none = record { count = refl; each = λ j h. absurd (omega arith) }

  are_more : {l : List NodeKind} {ps : List ℕ} {n q : ℕ} {v : ℕ → QuadFelt} → Are F given l ps n v → Is F given l q (v n)
      → Are F given l (ps ++ (q ∷ [])) (suc n) v
  are_more {l} {ps} {n} {q} {v} s r =
      record {
        count = length_snoc ps q ∙ ap suc s.count;
        each =
            below_suc_elim (λ j. Is F given l (get_or (ps ++ (q ∷ [])) j 0) (v j)) n
            (λ j h. rw (get_or-append ps (q ∷ []) 0 j (omega (arith, s.count))) (s.each j h))
            (rw (get_or_at ps q [] 0 n s.count) r);
      }

  pub are_one : {l : List NodeKind} {z : ℕ} (v : ℕ → QuadFelt) → Is F given l z (v 0) → Are F given l (z ∷ []) 1 v
  are_one v s = are_more are_none s

  pub are_backwards : {l : List NodeKind} {ps : List ℕ} {n : ℕ} {v : ℕ → QuadFelt} → Are F given l ps n v
      → Are F given l (backwards ps) n (λ i. v (n - (i + 1)))
  unfolding backwards
  are_backwards {l} {ps} {n} {v} s =
      record {
        count = length_up_to (λ i. get_or ps (length ps - (i + 1)) 0) (length ps) ∙ s.count;
        each = λ j h.
            rw (get_or_up_to (λ i. get_or ps (length ps - (i + 1)) 0) 0 (length ps) j (omega (arith, s.count)), s.count) (s.each (n - (j + 1)) (omega arith));
      }

  -- one more place behind those that are there
  pub keeps_also : {Low : QuadFelt → Type 0} {l : List NodeKind} {ps : List ℕ} {n : ℕ} {m : Builder ℕ} {v : ℕ → QuadFelt}
      → Are F given l ps n v → Keeps Low l m (λ k q. Is F given k q (v n)) → Keeps Low l (also ps m) (λ k qs. Are F given k qs (suc n) v)
  unfolding also
  keeps_also s r = keeps_then r (λ k q w e h. keeps_done _ w (are_more (all_later e s) h))

  -- turns that each answer one place
  pub keeps_folded : {Low : QuadFelt → Type 0} {l : List NodeKind} {v : QuadFelt} (f : ℕ → ℕ → Builder ℕ) (g : ℕ → QuadFelt → QuadFelt) (n a : ℕ)
      → WellFormed Low l → Is F given l a v
      → ((i : ℕ) → i < n → (k : List NodeKind) (b : ℕ) (u : QuadFelt) → WellFormed Low k → Extends l k → Is F given k b u
      → Keeps Low k (f i b) (λ j q. Is F given j q (g i u)))
      → Keeps Low l (turns f n a) (λ k b. Is F given k b (folded g n v))
  unfolding folded
  keeps_folded {v = v} f g n a w s turn =
      keeps_turns (λ i k b. Is F given k b (folded g i v)) f n a w s (λ i h k b x e r. turn i h k b (folded g i v) x e r)

-- one request that may stand behind l
pub enter_keeps : (F : Ops QuadFelt) (L : Laws F) (given : ℕ → QuadFelt) → ((k : ℕ) → L.Low (given k)) → {l : List NodeKind} (x : NodeKind)
    → WellFormed L.Low l → Fine L.Low (length l) x → Keeps L.Low l (enter F x) (λ k a. Is F given k a (value_of F given (value F given l) x))
unfolding enter
enter_keeps F L given low-given {l} x w f =
    let s = step_grown F L l w x f in
    record { well_formed = s.well_formed; answers = record { inside = s.inside; worth = step_value F L given low-given l w x f } }
