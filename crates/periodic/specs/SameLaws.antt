-- Computations that do the same, request by request.
use Prim.Native.Nat.{ℕ, zero, suc, ◌+◌, ◌-◌, ◌<◌}
use mathlib.Core.List.{List, [], ◌∷◌}
use Rattle.std.specs.Prelude.{◌≡◌, refl}
use Rattle.std.proofs.Common.{subst, ap, arith}
use Rattle.field.specs.Fields.{Field}
use Rattle.ring.specs.Ring.{Ops}
use Rattle.field.specs.declared.QuadFelt.{QuadFelt}
use Rattle.dag.specs.declared.NodeKind.{NodeKind}
use Rattle.periodic.specs.Builder.{Builder, done, ◌>>=◌, turns, also, constant, mul, add}
use Rattle.periodic.specs.Periodic.{sparse_turn, sparse_factor, sparse_term, sum_turn, sparse_sum, constants, chain}

pub record Same {A : Type 0} (m q : Builder A) : Type 0 where
  pub runs : (l : List NodeKind) → m.run l ≡ q.run l

pub same_refl : {A : Type 0} (m : Builder A) → Same m m
same_refl m = record { runs = λ l. refl }

pub same_is : {A : Type 0} {m q : Builder A} → m ≡ q → Same m q
same_is {m = m} e = subst (λ x. Same m x) e (same_refl m)

pub same_bind : {A B : Type 0} (m q : Builder A) (f g : A → Builder B) → Same m q → ((a : A) → Same (f a) (g a)) → Same (m >>= f) (q >>= g)
unfolding ◌>>=◌
same_bind {B = B} m q f g h k = record { runs = go }
  where
    go : (l : List NodeKind) → (f (m.run l).answer).run (m.run l).list ≡ (g (q.run l).answer).run (q.run l).list
    go l =
        subst (λ r. (f (m.run l).answer).run (m.run l).list ≡ (g r.answer).run r.list) (h.runs l)
        ((k (m.run l).answer).runs (m.run l).list)

pub same_turns : {A : Type 0} (f g : ℕ → A → Builder A) (n : ℕ) (a : A) → ((i : ℕ) → i < n → (b : A) → Same (f i b) (g i b)) → Same (turns f n a) (turns g n a)
unfolding turns
same_turns f g zero a h = same_refl (done a)
same_turns f g (suc n) a h = same_bind (turns f n a) (turns g n a) (f n) (g n) (same_turns f g n a (λ i k b. h i (omega arith) b)) (λ b. h n (omega arith) b)

-- the same on equal numbers
module _ (F : Ops QuadFelt) where
  pub same_constants : (f g : ℕ → ℕ) (n : ℕ) → ((i : ℕ) → i < n → f i ≡ g i) → Same (constants F f n) (constants F g n)
  unfolding constants
  same_constants f g n h = same_turns (λ j ks. also ks (constant F (f j))) (λ j ks. also ks (constant F (g j))) n [] (λ i k b. rw (h i k) (same_refl (also b (constant F (g i)))))

  same_factor : (zpow : List ℕ) (f g : ℕ → ℕ) (n : ℕ) → ((i : ℕ) → i < n → f i ≡ g i) → Same (sparse_factor F zpow f n) (sparse_factor F zpow g n)
  unfolding sparse_factor
  same_factor zpow f g n h =
      same_bind (constant F 1) (constant F 1) _ _ (same_refl (constant F 1))
      (λ a. same_turns (λ i factor. sparse_turn F (f i) (lib.ListN.get_or zpow i 0) factor) (λ i factor. sparse_turn F (g i) (lib.ListN.get_or zpow i 0) factor) n a (λ i k b. rw (h i k) (same_refl (sparse_turn F (g i) (lib.ListN.get_or zpow i 0) b))))

  same_term : (zpow : List ℕ) (f g : ℕ → ℕ) (n v w : ℕ) → ((i : ℕ) → i < n → f i ≡ g i) → v ≡ w → Same (sparse_term F zpow f n v) (sparse_term F zpow g n w)
  unfolding sparse_term
  same_term zpow f g n v w h e =
      rw e (same_bind (sparse_factor F zpow f n) (sparse_factor F zpow g n) _ _ (same_factor zpow f g n h) (λ a. same_refl (constant F w >>= λ x. mul F x a)))

  pub same_sum : (zpow : List ℕ) (f g : ℕ → ℕ → ℕ) (n : ℕ) (v w : ℕ → ℕ) (t : ℕ) → ((k : ℕ) → k < t → (i : ℕ) → i < n → f k i ≡ g k i) → ((k : ℕ) → k < t → v k ≡ w k)
      → Same (sparse_sum F zpow f n v t) (sparse_sum F zpow g n w t)
  unfolding sparse_sum sum_turn
  same_sum zpow f g n v w zero h e = same_refl (constant F 0)
  same_sum zpow f g n v w (suc t) h e =
      same_bind (sparse_term F zpow (f 0) n (v 0)) (sparse_term F zpow (g 0) n (w 0)) _ _ (same_term zpow (f 0) (g 0) n (v 0) (w 0) (h 0 (omega arith)) (e 0 (omega arith)))
      (λ a. same_turns (sum_turn F zpow f n v) (sum_turn F zpow g n w) t a
      (λ k j b. same_bind (sparse_term F zpow (f (k + 1)) n (v (k + 1))) (sparse_term F zpow (g (k + 1)) n (w (k + 1))) _ _ (same_term zpow (f (k + 1)) (g (k + 1)) n (v (k + 1)) (w (k + 1)) (h (k + 1) (omega arith)) (e (k + 1) (omega arith)))
      (λ x. same_refl (add F b x))))

  -- a chain over the first of these factors
  pub chain_front : (first : ℕ) (fs gs : List ℕ) (k : ℕ) → ((i : ℕ) → i < k → lib.ListN.get_or gs i 0 ≡ lib.ListN.get_or fs i 0) → lib.ListN.length gs ≡ k → Same (chain F first gs (lib.ListN.length gs)) (chain F first fs k)
  unfolding chain
  chain_front first fs gs k h e =
      rw e
      (same_turns (λ i ps. also ps (mul F (lib.ListN.get_or ps i 0) (lib.ListN.get_or gs i 0))) (λ i ps. also ps (mul F (lib.ListN.get_or ps i 0) (lib.ListN.get_or fs i 0))) k (first ∷ [])
      (λ i j ps. rw (h i j) (same_refl (also ps (mul F (lib.ListN.get_or ps i 0) (lib.ListN.get_or fs i 0))))))

-- the sum of sparse terms, by the number of terms
module _ (zpow : List ℕ) (f : ℕ → ℕ → ℕ) (n : ℕ) (v : ℕ → ℕ) where
  pub sum_none : (t : ℕ) → t ≡ 0 → ◌≡◌ {A = Field → Builder ℕ} (λ field. constant field.elements 0) (λ field. sparse_sum field.elements zpow f n v t)
  unfolding sparse_sum
  sum_none zero e = refl
  sum_none (suc t) e = absurd (omega arith)

  pub sum_some : (t : ℕ) → (t ≡ 0 → ⊥)
      → ◌≡◌ {A = Field → Builder ℕ} (λ field. sparse_term field.elements zpow (f 0) n (v 0) >>= λ first. turns (sum_turn field.elements zpow f n v) (t - 1) first) (λ field. sparse_sum field.elements zpow f n v t)
  unfolding sparse_sum
  sum_some zero e = absurd (e refl)
  sum_some (suc t) e =
      let q : suc t - 1 ≡ t = omega arith in
      ap (λ k (field : Field). sparse_term field.elements zpow (f 0) n (v 0) >>= λ first. turns (sum_turn field.elements zpow f n v) k first) q
