-- An array filled from the front.
use Prim.Native.Nat.{ℕ, zero, suc, ◌+◌, ◌-◌, ◌≤◌, ◌<◌}
use mathlib.Core.List.{List, [], ◌∷◌, ◌++◌, append_assoc}
use Rattle.std.specs.Prelude.{◌≡◌}
use Rattle.std.proofs.Math.Path.{refl, ap}
use Rattle.std.proofs.Common.{sym, ◌∙◌}
use Rattle.std.proofs.Math.Numerals.{add-one}
use native.Mathlib.Omega.{arith}
use Rattle.std.proofs.Math.ListN.{get_or, length, set, replicate, length-append, length-replicate, get_or-append}
use Rattle.std.proofs.lemmas.List.{set_at, get_or_at}
use Rattle.dag.specs.CaseLaws.{below_suc_elim}
use Rattle.dag.specs.Arrays.{up_to, padded}

module _ {A : Type 0} where
  pub length_up_to : (f : ℕ → A) (n : ℕ) → length (up_to f n) ≡ n
  unfolding up_to
  length_up_to f zero = refl
  length_up_to f (suc n) = length-append (up_to f n) (f n ∷ []) ∙ (add-one (length (up_to f n)) ∙ ap suc (length_up_to f n))

  pub length_padded : (z : A) (n : ℕ) (ws : List A) → length ws ≤ n → length (padded z n ws) ≡ n
  unfolding padded
  length_padded z n ws h = length-append ws (replicate (n - length ws) z) ∙ omega (arith, length-replicate (n - length ws) z)

  pub padded_set : (z : A) (n : ℕ) (ws : List A) (v : A) → length ws < n → set (padded z n ws) (length ws) v ≡ padded z n (ws ++ (v ∷ []))
  unfolding padded
  padded_set z n ws v h =
      ap (λ k. set (ws ++ replicate k z) (length ws) v) left
      ∙ (set_at ws z (replicate (n - suc (length ws)) z) v (length ws) refl
      ∙ (sym (append_assoc ws (v ∷ []) (replicate (n - suc (length ws)) z))
      ∙ ap (λ k. (ws ++ (v ∷ [])) ++ replicate (n - k) z) (sym (length-append ws (v ∷ []) ∙ add-one (length ws)))))
    where
      left : n - length ws ≡ suc (n - suc (length ws))
      left = omega arith

  -- the places before j hold f, and place j is set to f j
  pub fill_next : (z : A) (n : ℕ) (f : ℕ → A) (s : List A) (j : ℕ) (v : A) → j < n → s ≡ padded z n (up_to f j) → v ≡ f j → set s j v ≡ padded z n (up_to f (j + 1))
  unfolding up_to
  fill_next z n f s j v h e q =
      rw (e, q, add-one j)
      (ap (λ i. set (padded z n (up_to f j)) i (f j)) (sym (length_up_to f j)) ∙ padded_set z n (up_to f j) (f j) (rw (length_up_to f j) h))

  -- filled to the end
  pub fill_all : (z : A) (n : ℕ) (f : ℕ → A) (s : List A) (j k l : ℕ) → s ≡ padded z n (up_to f j) → j ≤ k → k ≤ j → l ≡ k → s ≡ padded z n (up_to f l)
  fill_all z n f s j k l e h i q = let r : j ≡ l = omega arith in e ∙ ap (λ x. padded z n (up_to f x)) r

  pub get_or_up_to : (f : ℕ → A) (d : A) (n i : ℕ) → i < n → get_or (up_to f n) i d ≡ f i
  unfolding up_to
  get_or_up_to f d zero i h = absurd (omega arith)
  get_or_up_to f d (suc n) i h =
      below_suc_elim (λ k. get_or (up_to f n ++ (f n ∷ [])) k d ≡ f k) n
      (λ k l. get_or-append (up_to f n) (f n ∷ []) d k (rw (length_up_to f n) l) ∙ get_or_up_to f d n k l)
      (get_or_at (up_to f n) (f n) [] d n (length_up_to f n))
      i h

  pub get_or_filled : (z d : A) (n : ℕ) (f : ℕ → A) (k i : ℕ) → i < k → get_or (padded z n (up_to f k)) i d ≡ f i
  unfolding padded
  get_or_filled z d n f k i h = get_or-append (up_to f k) (replicate (n - length (up_to f k)) z) d i (rw (length_up_to f k) h) ∙ get_or_up_to f d k i h
