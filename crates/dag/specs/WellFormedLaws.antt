-- Where a record may stand, and how well-formed lists grow.
use Rattle.std.specs.Prelude.{ℕ, suc, ◌<◌, ◌≤◌, List, [], ◌∷◌, ◌++◌}
use Rattle.std.proofs.Math.Path.{refl}
use Rattle.std.proofs.Math.Decide.{dec_le}
use native.Mathlib.Omega.{arith}
use Rattle.std.proofs.Math.ListN.{length}
use Rattle.field.specs.declared.QuadFelt.{QuadFelt}
use Rattle.dag.specs.Keys.{is_key}
use Rattle.dag.specs.Nodes.{at, rename, like}
use Rattle.dag.specs.NodeLaws.{at_left, at_last, at_past, length_snoc}
use Rattle.dag.specs.CaseLaws.{below_suc_elim}
use Rattle.dag.specs.WellFormed.{Any, Fine, WellFormed}
use Rattle.dag.specs.declared.NodeKind.{NodeKind}
use Rattle.dag.specs.declared.NodeKind.TheVariants.{Input, Constant, Add, Sub, Mul, Neg}

module _ (Low : QuadFelt → Type 0) where
  -- operands alone
  pub fine_any : (n : ℕ) (x : NodeKind) → Fine Low n x → Fine Any n x
  unfolding Fine
  fine_any n (Input k) f = f
  fine_any n (Constant c) f = tt
  fine_any n (Add a b) f = f
  fine_any n (Sub a b) f = f
  fine_any n (Mul a b) f = f
  fine_any n (Neg a) f = f

  -- a record may stand at any later place
  pub fine_mono : (i n : ℕ) (x : NodeKind) → i ≤ n → Fine Low i x → Fine Low n x
  unfolding Fine
  fine_mono i n (Input k) h f = f
  fine_mono i n (Constant c) h f = f
  fine_mono i n (Add a b) h f = omega arith
  fine_mono i n (Sub a b) h f = omega arith
  fine_mono i n (Mul a b) h f = omega arith
  fine_mono i n (Neg a) h f = omega arith

  -- a record that may stand at place i, with places below n for its operands
  pub fine_rename : (m : ℕ → ℕ) (i n : ℕ) (x : NodeKind) → ((j : ℕ) → j < i → m j < n) → Fine Low i x → Fine Low n (rename m x)
  unfolding Fine rename
  fine_rename m i n (Input k) h f = f
  fine_rename m i n (Constant c) h f = f
  fine_rename m i n (Add a b) h f = (h a f.0, h b f.1)
  fine_rename m i n (Sub a b) h f = (h a f.0, h b f.1)
  fine_rename m i n (Mul a b) h f = (h a f.0, h b f.1)
  fine_rename m i n (Neg a) h f = h a f

  pub fine_like : (i n : ℕ) (x : NodeKind) (a b : ℕ) → Fine Low i x → a < n → b < n → Fine Low n (like x a b)
  unfolding Fine
  fine_like i n (Input k) a b f p q = f
  fine_like i n (Constant c) a b f p q = f
  fine_like i n (Add _ _) a b f p q = (p, q)
  fine_like i n (Sub _ _) a b f p q = (p, q)
  fine_like i n (Mul _ _) a b f p q = (p, q)
  fine_like i n (Neg _) a b f p q = p

  -- what stands past a list's end
  fine_past : (l : List NodeKind) (i : ℕ) → length l ≤ i → Fine Low i (at l i)
  unfolding Fine is_key
  fine_past l i h = rw (at_past l i h) refl

  -- a list is well-formed where its records are fine
  pub well_formed_below : (l : List NodeKind) → ((i : ℕ) → i < length l → Fine Low i (at l i)) → WellFormed Low l
  unfolding WellFormed
  well_formed_below l f i = go (dec_le (suc i) (length l))
    where
      go : Dec (i < length l) → Fine Low i (at l i)
      go (yes h) = f i h
      go (no k) = fine_past l i (omega arith)

  pub well_formed_nil : WellFormed Low []
  well_formed_nil = well_formed_below [] (λ i h. absurd (omega arith))

  pub well_formed_snoc : (l : List NodeKind) (x : NodeKind) → WellFormed Low l → Fine Low (length l) x → WellFormed Low (l ++ (x ∷ []))
  unfolding WellFormed
  well_formed_snoc l x w f =
      well_formed_below (l ++ (x ∷ []))
      (rw (length_snoc l x)
      (below_suc_elim (λ i. Fine Low i (at (l ++ (x ∷ [])) i)) (length l) (λ i h. rw (at_left l (x ∷ []) i h) (w i)) (rw (at_last l x) f)))
