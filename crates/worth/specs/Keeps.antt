-- What a computation on a builder's list keeps and answers; what places are worth, over any ring and any element given to each key.
use Rattle.std.specs.Prelude.{ℕ, ◌<◌, List, ◌≡◌, get_or, length}
use Rattle.ring.specs.Ring.{Ops}
use Rattle.field.specs.declared.QuadFelt.{QuadFelt}
use Rattle.dag.specs.WellFormed.{WellFormed}
use Rattle.dag.specs.declared.NodeKind.{NodeKind}
use Rattle.meaning.specs.Values.{value}
use Rattle.periodic.specs.Builder.{Builder}

-- run on l, m leaves a well-formed list, and P holds of that list and the answer
pub record Keeps (Low : QuadFelt → Type 0) {A : Type 0} (l : List NodeKind) (m : Builder A) (P : List NodeKind → A → Type 0) : Type 0 where
  pub well_formed : WellFormed Low (m.run l).list
  pub answers : P (m.run l).list (m.run l).answer

-- place i is inside l, and worth v
pub record Is (F : Ops QuadFelt) (given : ℕ → QuadFelt) (l : List NodeKind) (i : ℕ) (v : QuadFelt) : Type 0 where
  pub inside : i < length l
  pub worth : value F given l i ≡ v

-- these are n places of l, place j of them worth v j
pub record Are (F : Ops QuadFelt) (given : ℕ → QuadFelt) (l : List NodeKind) (ps : List ℕ) (n : ℕ) (v : ℕ → QuadFelt) : Type 0 where
  pub count : length ps ≡ n
  pub each : (j : ℕ) → j < n → Is F given l (get_or ps j 0) (v j)
