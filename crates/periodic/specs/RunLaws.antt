-- Computations run one after the other.
use Rattle.std.specs.Prelude.{ℕ, zero, suc, ◌+◌, ◌<◌, ◌≤◌, ◌⊎◌, ◌≡◌, get_or, length, Result, Ok, Err, IsErr}
use Rattle.std.specs.Result.{IsErrAnd}
use Rattle.std.proofs.lemmas.Result.{err_from_is_err_and}
use mathlib.Core.List.{List, [], ◌∷◌, ◌++◌}
use Rattle.std.proofs.Common.{inl, inr, sym, ◌∙◌, ap, subst, lt_of_lt_of_le, add-one, length-append}
use Rattle.std.proofs.Math.ListN.{get_or-append}
use Rattle.std.proofs.lemmas.List.{get_or_at}
use Rattle.std.proofs.Math.Path.{refl}
use Rattle.std.proofs.Math.Nat.{le_trans}
use native.Mathlib.Omega.{arith}
use Rattle.arrayvec.specs.ArrayVec.{ArrayVec}
use Rattle.field.specs.Fields.{Field, field_of}
use Rattle.field.specs.Field.{modulus_of}
use Rattle.field.specs.declared.Prime.{Prime}
use Rattle.dag.specs.CaseLaws.{below_suc}
use Rattle.dag.specs.Nodes.{most_records}
use Rattle.dag.specs.declared.NodeKind.{NodeKind}
use Rattle.dag.specs.declared.Refusal.{Refusal}
use Rattle.periodic.specs.Builder.{Builder, done, ◌>>=◌, turns, also}
use Rattle.periodic.specs.Promises.{AllInside}
use Rattle.periodic.specs.SameLaws.{Same}
use Rattle.periodic.specs.Runs.{State, Ran, Overlong, Entered, Answered, Entering, Listed, Listing}

grows : {A : Type 0} (m : Builder A) (l : List NodeKind) → length l ≤ length (m.run l).list
grows m l = omega (arith, ap length (m.extends l).1, length-append l (m.extends l).0)

-- a list that is too long stays so
pub long_first : {A B : Type 0} {b : State} {m : Field → Builder A} (f : Field → A → Builder B) {s : State} {r : Refusal} → Overlong b m s r → Overlong b (λ field. m field >>= f field) s r
unfolding ◌>>=◌
long_first {b = b} {m = m} f d =
    let l = (m (field_of b.prime)).run b.list in
    record { reason = d.reason; prime_is = d.prime_is; stores_are = d.stores_are; longer = d.longer; long = omega (arith, d.long, grows (f (field_of b.prime) l.answer) l.list) }

-- one computation, then the next on its answer
module _ {A B : Type 0} {b c : State} {m : Field → Builder A} {a : A} (f : Field → A → Builder B) (d : Ran b m c a) where
  same_run : (f (field_of c.prime) a).run c.list ≡ (m (field_of b.prime) >>= f (field_of b.prime)).run b.list
  unfolding ◌>>=◌
  same_run =
      ap (λ p. (f (field_of p) a).run c.list) d.prime_is
      ∙ (ap (λ x. (f (field_of b.prime) x).run c.list) d.answer_is
      ∙ ap (λ l. (f (field_of b.prime) ((m (field_of b.prime)).run b.list).answer).run l) d.list_is)

  pub then_ran : {e : State} {x : B} → Ran c (λ field. f field a) e x → Ran b (λ field. m field >>= f field) e x
  then_ran q =
      record {
        prime_is = q.prime_is ∙ d.prime_is;
        stores_are = q.stores_are ∙ d.stores_are;
        longer = le_trans d.longer q.longer;
        list_is = q.list_is ∙ ap (λ r. r.list) same_run;
        answer_is = q.answer_is ∙ ap (λ r. r.answer) same_run;
      }

  pub then_long : {s : State} {r : Refusal} → Overlong c (λ field. f field a) s r → Overlong b (λ field. m field >>= f field) s r
  then_long q = record { reason = q.reason; prime_is = q.prime_is ∙ d.prime_is; stores_are = q.stores_are ∙ d.stores_are; longer = le_trans d.longer q.longer; long = subst (λ r. most_records < length r.list) same_run q.long }

then_told : {A : Type 0} {b c : State} {m : Field → Builder A} {a : A} (f : Field → A → Builder ℕ) (e : State) (r : Result ℕ Refusal)
    → Ran b m c a → Answered c (λ field. f field a) e r → Answered b (λ field. m field >>= f field) e r
then_told f e (Ok x) d q = record { ran = then_ran f d q.ran; inside = q.inside }
then_told f e (Err x) d q = then_long f d q

pub then_enter : {A : Type 0} {b c : State} {m : Field → Builder A} {a : A} (f : Field → A → Builder ℕ) {e : State} {r : Result ℕ Refusal}
    → Ran b m c a → Entering c (λ field. f field a) e r → Entering b (λ field. m field >>= f field) e r
then_enter f {e} {r} d q = record { told = then_told f e r d q.told }

pub then_entered : {A : Type 0} {b c : State} {m : Field → Builder A} {a : A} (f : Field → A → Builder ℕ) {e : State} {x : ℕ}
    → Ran b m c a → Entered c (λ field. f field a) e x → Entered b (λ field. m field >>= f field) e x
then_entered f d q = record { ran = then_ran f d q.ran; inside = q.inside }

pub enter_done : {b : State} {a : ℕ} → a < b.count → Entering b (λ field. done a) b (Ok a)
unfolding done
enter_done h = record { told = record { ran = record { prime_is = refl; stores_are = refl; longer = omega arith; list_is = refl; answer_is = refl }; inside = h } }

-- a refusal is passed on
pub refused : {b : State} {m : Field → Builder ℕ} (c : State) (r : Result ℕ Refusal) {x : Refusal} → IsErr r × IsErrAnd r (λ y. y ≡ x) → Overlong b m c x → Entering b m c r
refused c r h d = let p = err_from_is_err_and r h.1 in rw (p.1, p.2) (record { told = d })

-- turns
module _ {A : Type 0} (f : Field → ℕ → A → Builder A) (b : State) (a : A) where
  pub turn_none : Ran b (λ field. turns (f field) 0 a) b a
  unfolding turns done
  turn_none = record { prime_is = refl; stores_are = refl; longer = omega arith; list_is = refl; answer_is = refl }

  pub turn_next : {i : ℕ} {c : State} {x : A} {e : State} {y : A} → Ran b (λ field. turns (f field) i a) c x → Ran c (λ field. f field i x) e y → Ran b (λ field. turns (f field) (i + 1) a) e y
  unfolding turns
  turn_next {i} d q = rw (add-one i) (then_ran (λ field. f field i) d q)

  more_turns : (i k : ℕ) (s : State) (r : Refusal) → i ≤ k → Overlong b (λ field. turns (f field) i a) s r → Overlong b (λ field. turns (f field) k a) s r
  unfolding turns
  more_turns i zero s r h d = let e : i ≡ 0 = omega arith in subst (λ n. Overlong b (λ field. turns (f field) n a) s r) e d
  more_turns i (suc k) s r h d = go (below_suc i (suc k) (omega arith)) (λ j. more_turns i k s r j d)
    where
      go : (i < suc k) ⊎ (i ≡ suc k) → (i ≤ k → Overlong b (λ field. turns (f field) k a) s r) → Overlong b (λ field. turns (f field) (suc k) a) s r
      go (inl j) before = long_first (λ field. f field k) (before (omega arith))
      go (inr e) before = subst (λ n. Overlong b (λ field. turns (f field) n a) s r) e d

  pub turn_long : {i k : ℕ} {c : State} {x : A} {s : State} {r : Refusal} → i < k → Ran b (λ field. turns (f field) i a) c x → Overlong c (λ field. f field i x) s r → Overlong b (λ field. turns (f field) k a) s r
  unfolding turns
  turn_long {i} {k} {s = s} {r = r} h d q = more_turns (suc i) k s r (omega arith) (then_long (λ field. f field i) d q)

  pub turn_all : {i k : ℕ} {c : State} {x : A} → i ≤ k → k ≤ i → Ran b (λ field. turns (f field) i a) c x → Ran b (λ field. turns (f field) k a) c x
  turn_all {i} {k} {c} {x} h j d = let e : i ≡ k = omega arith in subst (λ n. Ran b (λ field. turns (f field) n a) c x) e d

-- turns on a place
module _ (f : Field → ℕ → ℕ → Builder ℕ) (b : State) (a : ℕ) where
  pub enter_none : a < b.count → Entered b (λ field. turns (f field) 0 a) b a
  enter_none h = record { ran = turn_none f b a; inside = h }

  pub enter_next : {i : ℕ} {c : State} {x : ℕ} {e : State} {y : ℕ} → Entered b (λ field. turns (f field) i a) c x → Entered c (λ field. f field i x) e y → Entered b (λ field. turns (f field) (i + 1) a) e y
  enter_next d q = record { ran = turn_next f b a d.ran q.ran; inside = q.inside }

  pub enter_all : {i k : ℕ} {c : State} {x : ℕ} → i ≤ k → k ≤ i → Entered b (λ field. turns (f field) i a) c x → Entering b (λ field. turns (f field) k a) c (Ok x)
  enter_all h j d = record { told = record { ran = turn_all f b a h j d.ran; inside = d.inside } }

-- one more place
also_ran : {b : State} {m : Field → Builder ℕ} {c : State} {q : ℕ} (ps : List ℕ) → Ran b m c q → Ran b (λ field. also ps (m field)) c (ps ++ (q ∷ []))
unfolding also done
also_ran ps d = then_ran (λ field q. done (ps ++ (q ∷ []))) d (record { prime_is = refl; stores_are = refl; longer = omega arith; list_is = refl; answer_is = refl })

also_long : {b : State} {m : Field → Builder ℕ} {s : State} {r : Refusal} (ps : List ℕ) → Overlong b m s r → Overlong b (λ field. also ps (m field)) s r
unfolding also
also_long ps d = long_first (λ field q. done (ps ++ (q ∷ []))) d

pub all_later : {n k : ℕ} {ps : List ℕ} → n ≤ k → AllInside n ps → AllInside k ps
all_later h a = record { at = λ i j. lt_of_lt_of_le (a.at i j) h }

inside_snoc : (k : ℕ) (ps : List ℕ) (v : ℕ) → AllInside k ps → v < k → AllInside k (ps ++ (v ∷ []))
inside_snoc k ps v a b = record { at = λ i h. go i (below_suc i (length ps) (omega (arith, length-append ps (v ∷ [])))) }
  where
    go : (i : ℕ) → (i < length ps) ⊎ (i ≡ length ps) → get_or (ps ++ (v ∷ [])) i 0 < k
    go i (inl j) = rw (get_or-append ps (v ∷ []) 0 i j) (a.at i j)
    go i (inr e) = rw (get_or_at ps v [] 0 i (sym e)) b

pub none_inside : (n : ℕ) → AllInside n []
none_inside n = record { at = λ i h. absurd (omega arith) }

pub one_inside : {n z : ℕ} → z < n → AllInside n (z ∷ [])
one_inside {n} {z} h = inside_snoc n [] z (none_inside n) h

-- the first place
pub one_place : {none ps : List ℕ} {z : ℕ} → none ≡ [] → ps ≡ none ++ (z ∷ []) → ps ≡ z ∷ []
one_place {z = z} e h = h ∙ ap (λ qs. qs ++ (z ∷ [])) e

pub last_is : (ps qs : List ℕ) (q i : ℕ) → qs ≡ ps ++ (q ∷ []) → length ps ≡ i + 1 → q ≡ get_or qs (i + 1) 0
last_is ps qs q i e h = rw e (sym (get_or_at ps q [] 0 (i + 1) h))

-- turns that each answer one place more
module _ (g : Field → ℕ → List ℕ → Builder ℕ) (b : State) (a : List ℕ) where
  pub list_none : (ps : List ℕ) → ps ≡ a → AllInside b.count a → Listed b (λ field. turns (λ i ps. also ps (g field i ps)) 0 a) b (length a) ps
  list_none ps e h = rw e (record { ran = turn_none (λ field i ps. also ps (g field i ps)) b a; inside = h; many = refl })

  pub list_next : {i n : ℕ} {c : State} (ps qs : List ℕ) {e : State} {q : ℕ} → Listed b (λ field. turns (λ i ps. also ps (g field i ps)) i a) c n ps → Entered c (λ field. g field i ps) e q → qs ≡ ps ++ (q ∷ [])
      → Listed b (λ field. turns (λ i ps. also ps (g field i ps)) (i + 1) a) e (n + 1) qs
  list_next ps qs {e} {q} d x h =
      rw h
      (record {
        ran = turn_next (λ field i ps. also ps (g field i ps)) b a d.ran (also_ran ps x.ran);
        inside = inside_snoc e.count ps q (all_later x.ran.longer d.inside) x.inside;
        many = omega (arith, d.many, length-append ps (q ∷ []));
      })

  pub list_long : {i n k : ℕ} {c : State} (ps : List ℕ) {s : State} {r : Refusal} → i < k → Listed b (λ field. turns (λ i ps. also ps (g field i ps)) i a) c n ps → Overlong c (λ field. g field i ps) s r
      → Overlong b (λ field. turns (λ i ps. also ps (g field i ps)) k a) s r
  list_long ps h d q = turn_long (λ field i ps. also ps (g field i ps)) b a h d.ran (also_long ps q)

  pub list_all : {i k n m : ℕ} {c : State} (ps : ArrayVec ℕ) → i ≤ k → k ≤ i → n ≡ m → Listed b (λ field. turns (λ i ps. also ps (g field i ps)) i a) c n ps.items
      → Listing b (λ field. turns (λ i ps. also ps (g field i ps)) k a) c m (Ok ps)
  list_all ps h j e d = record { told = record { ran = turn_all (λ field i ps. also ps (g field i ps)) b a h j d.ran; inside = d.inside; many = d.many ∙ e } }

-- a refusal where places are asked for
pub refused_list : {b : State} {m : Field → Builder (List ℕ)} {n : ℕ} (c : State) (r : Result (ArrayVec ℕ) Refusal) {x : Refusal} → IsErr r × IsErrAnd r (λ y. y ≡ x) → Overlong b m c x → Listing b m c n r
refused_list c r h d = let p = err_from_is_err_and r h.1 in rw (p.1, p.2) (record { told = d })

-- the same computation
pub long_as : {A : Type 0} {b : State} {m q : Field → Builder A} {s : State} {r : Refusal} → m ≡ q → Overlong b m s r → Overlong b q s r
long_as {b = b} {s = s} {r = r} e d = subst (λ x. Overlong b x s r) e d

pub enter_as : {b : State} {m q : Field → Builder ℕ} {c : State} {r : Result ℕ Refusal} → m ≡ q → Entering b m c r → Entering b q c r
enter_as {b = b} {c = c} {r = r} e d = subst (λ x. Entering b x c r) e d

-- another computation that does the same
same_here : {A : Type 0} (b : State) (m q : Field → Builder A) {p : Prime} → b.prime ≡ p → Same (m (field_of p)) (q (field_of p)) → (m (field_of b.prime)).run b.list ≡ (q (field_of b.prime)).run b.list
same_here b m q e same = subst (λ x. (m (field_of x)).run b.list ≡ (q (field_of x)).run b.list) (sym e) (same.runs b.list)

module _ {A : Type 0} {b : State} {m q : Field → Builder A} {p : Prime} (e : b.prime ≡ p) (same : Same (m (field_of p)) (q (field_of p))) where
  pub ran_like : {c : State} {a : A} → Ran b m c a → Ran b q c a
  ran_like d =
      let run = same_here b m q e same in
      record { prime_is = d.prime_is; stores_are = d.stores_are; longer = d.longer; list_is = d.list_is ∙ ap (λ r. r.list) run; answer_is = d.answer_is ∙ ap (λ r. r.answer) run }

  pub long_like : {s : State} {r : Refusal} → Overlong b m s r → Overlong b q s r
  long_like d = record { reason = d.reason; prime_is = d.prime_is; stores_are = d.stores_are; longer = d.longer; long = subst (λ r. most_records < length r.list) (same_here b m q e same) d.long }

pub entered_like : {b : State} {m q : Field → Builder ℕ} {p : Prime} → b.prime ≡ p → Same (m (field_of p)) (q (field_of p)) → {c : State} {a : ℕ} → Entered b m c a → Entered b q c a
entered_like e same d = record { ran = ran_like e same d.ran; inside = d.inside }

told_like : (b : State) (m q : Field → Builder ℕ) {p : Prime} → b.prime ≡ p → Same (m (field_of p)) (q (field_of p)) → (c : State) (r : Result ℕ Refusal) → Answered b m c r → Answered b q c r
told_like b m q e same c (Ok a) d = record { ran = ran_like e same d.ran; inside = d.inside }
told_like b m q e same c (Err r) d = long_like e same d

pub enter_like : {b : State} {m q : Field → Builder ℕ} {p : Prime} → b.prime ≡ p → Same (m (field_of p)) (q (field_of p)) → {c : State} {r : Result ℕ Refusal} → Entering b m c r → Entering b q c r
enter_like {b} {m} {q} e same {c} {r} d = record { told = told_like b m q e same c r d.told }

-- a number below the modulus stays so
pub below_later : {p q : Prime} {v : ℕ} → p ≡ q → v < modulus_of q → v < modulus_of p
below_later {v = v} e h = rw e h
