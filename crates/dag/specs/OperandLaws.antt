-- The operands of a sound list's record come before it.
use Rattle.std.specs.Prelude.{ℕ, ◌<◌}
use Rattle.std.proofs.Common.{◌≡◌, sym, subst}
use Rattle.field.specs.Fields.{Bounds, Within}
use Rattle.dag.specs.View.{View}
use Rattle.dag.specs.Nodes.{record_at}
use Rattle.dag.specs.NodeLaws.{at_nodes}
use Rattle.dag.specs.Store.{Sound}
use Rattle.dag.specs.StoreLaws.{sound_well_formed}
use Rattle.dag.specs.WellFormed.{Fine, WellFormed}
use Rattle.dag.specs.declared.NodeKind.TheVariants.{Add, Sub, Mul, Neg}

module _ (m : Bounds) (s : View) (n : ℕ) (sound : Sound m s n) (i : ℕ) (h : i < n) where
  pub fine : Fine (Within m) i (record_at s i)
  unfolding WellFormed
  fine = rw (at_nodes s n i h) at (sound_well_formed m s n sound i)

  pub add_before : {a b : ℕ} → Add a b ≡ record_at s i → (a < i) × (b < i)
  unfolding Fine
  add_before e = subst (Fine (Within m) i) (sym e) fine

  pub sub_before : {a b : ℕ} → Sub a b ≡ record_at s i → (a < i) × (b < i)
  unfolding Fine
  sub_before e = subst (Fine (Within m) i) (sym e) fine

  pub mul_before : {a b : ℕ} → Mul a b ≡ record_at s i → (a < i) × (b < i)
  unfolding Fine
  mul_before e = subst (Fine (Within m) i) (sym e) fine

  pub neg_before : {a : ℕ} → Neg a ≡ record_at s i → a < i
  unfolding Fine
  neg_before e = subst (Fine (Within m) i) (sym e) fine
