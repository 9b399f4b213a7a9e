-- The fanout counted in a store, mention by mention.
use Rattle.std.specs.Prelude.{ℕ, zero, suc, ◌+◌, ◌*◌, ◌<◌, ◌≤◌, Bool, true, false, cond, List, [], ◌∷◌, ◌++◌, ◌≡◌, refl, eqb, length, get_or, set, take}
use Rattle.std.proofs.Common.{sym, ◌∙◌, add-one, arith, eqb-true, length-set, get_or-set_same, get_or-set_other, take-suc}
use Rattle.std.proofs.Math.Path.{fun_ext}
use Rattle.std.proofs.lemmas.Bool.{eqb-false}
use Rattle.field.specs.Fields.{Within}
use Rattle.dag.specs.View.{View}
use Rattle.dag.specs.Nodes.{nodes, at, operands}
use Rattle.dag.specs.NodeLaws.{length_nodes}
use Rattle.dag.specs.Roots.{most_roots, roots_of}
use Rattle.dag.specs.RootLaws.{inside_mono}
use Rattle.dag.specs.WellFormed.{WellFormed}
use Rattle.dag.specs.WellFormedLaws.{fine_mono}
use Rattle.dag.specs.declared.NodeKind.{NodeKind}
use Rattle.dag.specs.declared.NodeKind.TheVariants.{Input, Constant, Add, Sub, Mul, Neg}
use Rattle.dag.specs.declared.Roots.{Roots}
use Rattle.dag.specs.StoreLaws.{sound_well_formed}
use Rattle.builder.specs.Promises.{read}
use Rattle.compact.specs.Reach.{here, there}
use Rattle.compact.specs.OperandLaws.{operands_below, inside_below}
use Rattle.compact.specs.Promises.{AllBelow}
use Rattle.plan.specs.Plan.{count, mentions, fanout}
use Rattle.plan.specs.Promises.{mentioned, most_mentions, Countable, Counting}

-- one mention more
module _ (f : List ℕ) (i : ℕ) (h : i < length f) where
  bump_at : (j : ℕ) → get_or (set f i (get_or f i 0 + 1)) j 0 ≡ get_or f j 0 + cond (eqb j i) 1 0
  bump_at j = go (eqb j i) refl
    where
      go : (t : Bool) → eqb j i ≡ t → get_or (set f i (get_or f i 0 + 1)) j 0 ≡ get_or f j 0 + cond t 1 0
      go true e = rw (eqb-true j i e) (get_or-set_same f i (get_or f i 0 + 1) 0 h)
      go false e = get_or-set_other f i j (get_or f i 0 + 1) 0 (eqb-false j i e) ∙ omega arith

  bump_by_one : (j : ℕ) → get_or (set f i (get_or f i 0 + 1)) j 0 ≤ get_or f j 0 + 1
  bump_by_one j = rw (bump_at j) (go (eqb j i))
    where
      go : (t : Bool) → get_or f j 0 + cond t 1 0 ≤ get_or f j 0 + 1
      go true = omega arith
      go false = omega arith

pub length_mentioned : (f is : List ℕ) → length (mentioned f is) ≡ length f
unfolding mentioned
length_mentioned f [] = refl
length_mentioned f (i ∷ is) = length_mentioned (set f i (get_or f i 0 + 1)) is ∙ length-set f i (get_or f i 0 + 1)

pub mentioned_at : (f is : List ℕ) → AllBelow (length f) is → (j : ℕ) → get_or (mentioned f is) j 0 ≡ get_or f j 0 + count j is
unfolding mentioned count
mentioned_at f [] h j = omega arith
mentioned_at f (i ∷ is) h j =
    mentioned_at (set f i (get_or f i 0 + 1)) is (rw (length-set f i (get_or f i 0 + 1)) (λ k p. h k (there p))) j
    ∙ (rw (bump_at f i (h i here) j) (omega arith))

mentioned_snoc : (f is : List ℕ) (i : ℕ) → mentioned f (is ++ (i ∷ [])) ≡ mentioned (mentioned f is) (i ∷ [])
unfolding mentioned
mentioned_snoc f [] i = refl
mentioned_snoc f (k ∷ is) i = mentioned_snoc (set f k (get_or f k 0 + 1)) is i

-- with j places mentioned there is room for one more
pub mention_fits : (k : ℕ) (f₀ f : List ℕ) (j : ℕ) → Countable k f₀ → ((i : ℕ) → get_or f i 0 ≤ get_or f₀ i 0 + j) → j < k → (i : ℕ) → get_or f i 0 < most_mentions
mention_fits k f₀ f j few room h i = let a = few i in let b = room i in omega arith

-- one place more is mentioned
module _ (f₀ f is : List ℕ) (j v : ℕ) where
  pub mentioned_turn : j < length is → f ≡ mentioned f₀ (take j is) → v ≡ get_or is j 0 → set f v (get_or f v 0 + 1) ≡ mentioned f₀ (take (j + 1) is)
  unfolding mentioned
  mentioned_turn h g q = rw (g, q, add-one j, take-suc is j 0 h) (sym (mentioned_snoc f₀ (take j is) (get_or is j 0)))

  pub few_turn : v < length f → ((i : ℕ) → get_or f i 0 ≤ get_or f₀ i 0 + j) → (i : ℕ) → get_or (set f v (get_or f v 0 + 1)) i 0 ≤ get_or f₀ i 0 + (j + 1)
  few_turn h few i = let a = bump_by_one f v h i in let b = few i in omega arith

one : (t : Bool) → cond t 1 0 + 0 ≤ 2
one true = omega arith
one false = omega arith

two : (t u : Bool) → cond t 1 0 + (cond u 1 0 + 0) ≤ 2
two true true = omega arith
two true false = omega arith
two false u = let a = one u in omega arith

-- a record mentions a place at most twice
operands_few : (j : ℕ) (x : NodeKind) → count j (operands x) ≤ 2
unfolding operands count
operands_few j (Input k) = omega arith
operands_few j (Constant c) = omega arith
operands_few j (Add a b) = two (eqb j a) (eqb j b)
operands_few j (Sub a b) = two (eqb j a) (eqb j b)
operands_few j (Mul a b) = two (eqb j a) (eqb j b)
operands_few j (Neg a) = one (eqb j a)

mentions_few : (l : List NodeKind) (j n : ℕ) → mentions l j n ≤ 2 * n
unfolding mentions
mentions_few l j zero = omega arith
mentions_few l j (suc n) = let a = mentions_few l j n in let b = operands_few j (at l n) in omega arith

-- the mentions of the first i records, counted
abbrev pub Counted : List NodeKind → ℕ → List ℕ → Type 0
Counted l i f = (j : ℕ) → get_or f j 0 ≡ mentions l j i

pub counted_none : (l : List NodeKind) (f : List ℕ) → ((j : ℕ) → get_or f j 0 ≡ 0) → Counted l 0 f
unfolding mentions
counted_none l f h j = h j

module _ (s : View) (n : ℕ) (roots : Roots) (f₀ : List ℕ) (c : Counting s n roots f₀) (i : ℕ) (f : List ℕ) (e : length f ≡ length f₀) (h : Counted (nodes s n) i f) where
  pub counted_few : i ≤ n → (k : ℕ) → k ≤ most_roots → Countable k f
  counted_few q k g j = let a = mentions_few (nodes s n) j i in let b = h j in let d = c.few in omega arith

  pub counted_countable : i < n → (k : ℕ) → k ≤ 2 → Countable k f
  counted_countable q k g j = let a = mentions_few (nodes s n) j i in let b = h j in let d = c.few in omega arith

  module _ (k : i < n) (x : NodeKind) (ex : x ≡ at (nodes s n) i) where
    pub operands_inside : AllBelow (length f) (operands x)
    unfolding WellFormed
    operands_inside =
        rw ex
        (operands_below (Within c.sound.0) (length f) (at (nodes s n) i)
        (fine_mono (Within c.sound.0) i (length f) (at (nodes s n) i) (let a = c.fits in omega arith) (sound_well_formed c.sound.0 s n c.sound.1 i)))

    pub counted_more : Counted (nodes s n) (i + 1) (mentioned f (operands x))
    unfolding mentions
    counted_more j = rw (add-one i) (mentioned_at f (operands x) operands_inside j ∙ rw (h j, ex))

-- the roots' mentions
pub counted_roots : (s : View) (n : ℕ) (roots : Roots) (f₀ : List ℕ) → Counting s n roots f₀ → (f : List ℕ) → length f ≡ length f₀ → Counted (nodes s n) n f
    → read (mentioned f (roots_of roots)) ≡ fanout (nodes s n) (roots_of roots)
unfolding fanout
counted_roots s n roots f₀ c f e h =
    fun_ext λ j.
    mentioned_at f (roots_of roots) (inside_below (length f) roots (inside_mono n roots c.inside (length f) (rw e c.fits))) j
    ∙ rw (h j, length_nodes s n)
