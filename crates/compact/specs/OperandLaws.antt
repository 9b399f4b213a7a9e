-- A record's operands, and places that stand in a list.
use Rattle.std.specs.Prelude.{ℕ, zero, suc, ◌<◌, List, [], ◌∷◌, map, ◌≡◌, refl, ◌⊎◌, get_or, length}
use Rattle.std.proofs.Common.{ap, ap₂, inl, inr, arith}
use Rattle.ring.specs.Ring.{Ops}
use Rattle.field.specs.declared.QuadFelt.{QuadFelt}
use Rattle.dag.specs.Nodes.{operands, rename}
use Rattle.dag.specs.Roots.{roots_of, roots_from, Inside}
use Rattle.dag.specs.RootLaws.{roots_from_lem, inside_from}
use Rattle.dag.specs.WellFormed.{Fine}
use Rattle.dag.specs.declared.NodeKind.{NodeKind}
use Rattle.dag.specs.declared.NodeKind.TheVariants.{Input, Constant, Add, Sub, Mul, Neg}
use Rattle.dag.specs.declared.Roots.{Roots}
use Rattle.meaning.specs.Values.{value_of}
use Rattle.compact.specs.Reach.{◌∈◌}
use Rattle.compact.specs.Reach.◌∈◌.{here, there}
use Rattle.compact.specs.Promises.{AllBelow}

pub in_nil : {i : ℕ} → i ∈ [] → ⊥
in_nil = elim [ ]

pub in_cons : {i j : ℕ} {is : List ℕ} → i ∈ (j ∷ is) → (i ≡ j) ⊎ (i ∈ is)
in_cons here = inl refl
in_cons (there p) = inr p

pub below_cons : (n j : ℕ) (is : List ℕ) → j < n → AllBelow n is → AllBelow n (j ∷ is)
below_cons n j is h k i p = go (in_cons p)
  where
    go : (i ≡ j) ⊎ (i ∈ is) → i < n
    go (inl e) = omega arith
    go (inr q) = k i q

pub below_nil : (n : ℕ) → AllBelow n []
below_nil n i p = absurd (in_nil p)

below_each : (n : ℕ) (is : List ℕ) → ((j : ℕ) → j < length is → get_or is j 0 < n) → AllBelow n is
below_each n [] h = below_nil n
below_each n (i ∷ is) h = below_cons n i is (h 0 (omega arith)) (below_each n is (λ j k. h (suc j) (omega arith)))

pub below_at : (n : ℕ) (is : List ℕ) → AllBelow n is → (j : ℕ) → j < length is → get_or is j 0 < n
below_at n [] h j k = absurd (omega arith)
below_at n (i ∷ is) h zero k = h i here
below_at n (i ∷ is) h (suc j) k = below_at n is (λ m p. h m (there p)) j (omega arith)

-- roots of a list of n records are below n
pub inside_below : (n : ℕ) (r : Roots) → Inside n r → AllBelow n (roots_of r)
inside_below n r h = below_each n (roots_of r) h.below

pub roots_below : (n : ℕ) (roots : List ℕ) → Inside n (roots_from roots) → AllBelow n roots
roots_below n roots h = rw (roots_from_lem roots) at (inside_below n (roots_from roots) h)

-- as many places below m are roots of a list of m records
pub inside_again : (n m : ℕ) (r : Roots) (is : List ℕ) → Inside n r → length is ≡ length (roots_of r) → AllBelow m is → Inside m (roots_from is)
inside_again n m r is h many low = inside_from m is (omega (arith, many, h.some)) (omega (arith, many, h.few)) (below_at m is low)

-- a record's operands come before it
pub operands_below : (Low : QuadFelt → Type 0) (n : ℕ) (x : NodeKind) → Fine Low n x → AllBelow n (operands x)
unfolding Fine operands
operands_below Low n (Input k) f = below_nil n
operands_below Low n (Constant c) f = below_nil n
operands_below Low n (Add a b) f = below_cons n a (b ∷ []) f.0 (below_cons n b [] f.1 (below_nil n))
operands_below Low n (Sub a b) f = below_cons n a (b ∷ []) f.0 (below_cons n b [] f.1 (below_nil n))
operands_below Low n (Mul a b) f = below_cons n a (b ∷ []) f.0 (below_cons n b [] f.1 (below_nil n))
operands_below Low n (Neg a) f = below_cons n a [] f (below_nil n)

pub in_map : (f : ℕ → ℕ) {i : ℕ} {is : List ℕ} → i ∈ is → f i ∈ map f is
in_map f here = here
in_map f (there p) = there (in_map f p)

pub below_map : (f : ℕ → ℕ) (n : ℕ) (is : List ℕ) → ((i : ℕ) → i ∈ is → f i < n) → AllBelow n (map f is)
below_map f n [] h = below_nil n
below_map f n (j ∷ is) h = below_cons n (f j) (map f is) (h j here) (below_map f n is (λ i p. h i (there p)))

pub map_through : {A : Type 0} (f : ℕ → ℕ) (g h : ℕ → A) (is : List ℕ) → ((i : ℕ) → i ∈ is → g (f i) ≡ h i) → map g (map f is) ≡ map h is
map_through f g h [] e = refl
map_through f g h (j ∷ is) e = ap₂ ◌∷◌ (e j here) (map_through f g h is (λ i p. e i (there p)))

pub map_same : (f : ℕ → ℕ) (is : List ℕ) → ((i : ℕ) → i ∈ is → f i ≡ i) → map f is ≡ is
map_same f [] e = refl
map_same f (j ∷ is) e = ap₂ ◌∷◌ (e j here) (map_same f is (λ i p. e i (there p)))

-- renaming, by what stands among a record's operands
pub fine_renamed : (Low : QuadFelt → Type 0) (m : ℕ → ℕ) (i n : ℕ) (x : NodeKind) → ((j : ℕ) → j ∈ operands x → m j < n) → Fine Low i x → Fine Low n (rename m x)
unfolding Fine rename operands
fine_renamed Low m i n (Input k) h f = f
fine_renamed Low m i n (Constant c) h f = f
fine_renamed Low m i n (Add a b) h f = (h a here, h b (there here))
fine_renamed Low m i n (Sub a b) h f = (h a here, h b (there here))
fine_renamed Low m i n (Mul a b) h f = (h a here, h b (there here))
fine_renamed Low m i n (Neg a) h f = h a here

pub value_renamed : (F : Ops QuadFelt) (given v w : ℕ → QuadFelt) (m : ℕ → ℕ) (x : NodeKind) → ((j : ℕ) → j ∈ operands x → v (m j) ≡ w j)
    → value_of F given v (rename m x) ≡ value_of F given w x
unfolding value_of rename operands
value_renamed F given v w m (Input k) e = refl
value_renamed F given v w m (Constant c) e = refl
value_renamed F given v w m (Add a b) e = ap₂ F.add (e a here) (e b (there here))
value_renamed F given v w m (Sub a b) e = ap₂ F.sub (e a here) (e b (there here))
value_renamed F given v w m (Mul a b) e = ap₂ F.mul (e a here) (e b (there here))
value_renamed F given v w m (Neg a) e = ap F.neg (e a here)

pub rename_cong : (f g : ℕ → ℕ) (x : NodeKind) → ((j : ℕ) → j ∈ operands x → f j ≡ g j) → rename f x ≡ rename g x
unfolding rename operands
rename_cong f g (Input k) e = refl
rename_cong f g (Constant c) e = refl
rename_cong f g (Add a b) e = ap₂ Add (e a here) (e b (there here))
rename_cong f g (Sub a b) e = ap₂ Sub (e a here) (e b (there here))
rename_cong f g (Mul a b) e = ap₂ Mul (e a here) (e b (there here))
rename_cong f g (Neg a) e = ap Neg (e a here)

pub same_renamed : (m : ℕ → ℕ) (x : NodeKind) → ((j : ℕ) → j ∈ operands x → m j ≡ j) → rename m x ≡ x
unfolding rename operands
same_renamed m (Input k) e = refl
same_renamed m (Constant c) e = refl
same_renamed m (Add a b) e = ap₂ Add (e a here) (e b (there here))
same_renamed m (Sub a b) e = ap₂ Sub (e a here) (e b (there here))
same_renamed m (Mul a b) e = ap₂ Mul (e a here) (e b (there here))
same_renamed m (Neg a) e = ap Neg (e a here)

pub operands_renamed : (m : ℕ → ℕ) (x : NodeKind) → operands (rename m x) ≡ map m (operands x)
unfolding rename operands
operands_renamed m (Input k) = refl
operands_renamed m (Constant c) = refl
operands_renamed m (Add a b) = refl
operands_renamed m (Sub a b) = refl
operands_renamed m (Mul a b) = refl
operands_renamed m (Neg a) = refl
