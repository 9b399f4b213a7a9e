-- Steps, rounds and compaction bring no new inputs, over any ring: what every input's key has, every input's key has afterwards.
use Prim.Native.Nat.{ℕ, zero, suc, ◌<◌, ◌≤◌}
use Rattle.std.specs.Prelude.{List, [], ◌∷◌, ◌++◌, ◌≡◌, refl, Some, None, Option}
use Rattle.std.proofs.Common.{subst, arith}
use Rattle.std.proofs.Math.ListN.{length}
use Rattle.ring.specs.Ring.{Ops}
use Rattle.field.specs.declared.QuadFelt.{QuadFelt}
use Rattle.dag.specs.Nodes.{at, rename, like}
use Rattle.dag.specs.NodeLaws.{at_left, at_last, length_snoc}
use Rattle.dag.specs.CaseLaws.{below_suc_elim}
use Rattle.dag.specs.Lookup.{lookup}
use Rattle.dag.specs.declared.NodeKind.{NodeKind}
use Rattle.dag.specs.declared.NodeKind.TheVariants.{Input, Constant, Add, Sub, Mul, Neg}
use Rattle.builder.specs.Steps.{add_rule, sub_rule, mul_outcome, neg_outcome, follow, add_within, sub_within, add_outcome, sub_outcome, outcome, interned, intern, enter, step, Replay, place_of, recorded, replay}
use Rattle.builder.specs.RuleLaws.{low_first_lem, add_cases, sub_cases, mul_cases, neg_cases}
use Rattle.builder.specs.declared.Rule.{Rule}
use Rattle.builder.specs.declared.Rule.TheVariants.{ComesTo, HandOver}
use Rattle.builder.specs.declared.Outcome.{Outcome}
use Rattle.builder.specs.declared.Outcome.TheVariants.{Place, Node}
use Rattle.compact.specs.Reach.{marks}
use Rattle.compact.specs.Compact.{rank, compact}
use Rattle.compact.specs.RankLaws.{kept_elim}
use Rattle.plan.specs.Plan.{plan_of, fanout}
use Rattle.normalize.specs.Rounds.{planned, round, rounded, normalize}
use Rattle.normalize.specs.RepeatLaws.{rounds_elim}
use Rattle.plan.specs.declared.Rewrite.{Rewrite}
use Rattle.plan.specs.declared.Rewrite.TheVariants.{Factored, Rotated}

-- an input's key has K; other records have no key
abbrev pub Keyed : (ℕ → Type 0) → NodeKind → Type 0
Keyed K (Input k) = K k
Keyed K (Constant c) = Unit {0}
Keyed K (Add a b) = Unit {0}
Keyed K (Sub a b) = Unit {0}
Keyed K (Mul a b) = Unit {0}
Keyed K (Neg a) = Unit {0}

-- the key of every input of a list, reachable or not, has K
abbrev pub Inputs : (ℕ → Type 0) → List NodeKind → Type 0
Inputs K l = (i : ℕ) → i < length l → Keyed K (at l i)

-- a key of one of a list's inputs
abbrev pub KeyOf : List NodeKind → ℕ → Type 0
KeyOf l k = (i : ℕ) × (i < length l) × (at l i ≡ Input k)

pub own_keys : (l : List NodeKind) → Inputs (KeyOf l) l
own_keys l i h = go (at l i) refl
  where
    go : (x : NodeKind) → at l i ≡ x → Keyed (KeyOf l) x
    go (Input k) e = (i, h, e)
    go (Constant c) e = tt
    go (Add a b) e = tt
    go (Sub a b) e = tt
    go (Mul a b) e = tt
    go (Neg a) e = tt

pub key_of : (K : ℕ → Type 0) (l : List NodeKind) → Inputs K l → (i k : ℕ) → i < length l → at l i ≡ Input k → K k
key_of K l f i k h e = subst (Keyed K) e (f i h)

-- what holds of the given keys holds of those that are among them
keyed_through : (J K : ℕ → Type 0) → ((k : ℕ) → J k → K k) → (x : NodeKind) → Keyed J x → Keyed K x
keyed_through J K f (Input k) e = f k e
keyed_through J K f (Constant c) e = tt
keyed_through J K f (Add a b) e = tt
keyed_through J K f (Sub a b) e = tt
keyed_through J K f (Mul a b) e = tt
keyed_through J K f (Neg a) e = tt

pub inputs_through : (K : ℕ → Type 0) (l m : List NodeKind) → Inputs (KeyOf l) m → Inputs K l → Inputs K m
inputs_through K l m f g i h = keyed_through (KeyOf l) K (λ k (j, q, e). key_of K l g j k q e) (at m i) (f i h)

module _ (K : ℕ → Type 0) where
  rename_keyed : (m : ℕ → ℕ) (x : NodeKind) → Keyed K x → Keyed K (rename m x)
  unfolding rename
  rename_keyed m (Input k) f = f
  rename_keyed m (Constant c) f = tt
  rename_keyed m (Add a b) f = tt
  rename_keyed m (Sub a b) f = tt
  rename_keyed m (Mul a b) f = tt
  rename_keyed m (Neg a) f = tt

  like_keyed : (x : NodeKind) (a b : ℕ) → Keyed K x → Keyed K (like x a b)
  like_keyed (Input k) a b f = f
  like_keyed (Constant c) a b f = tt
  like_keyed (Add _ _) a b f = tt
  like_keyed (Sub _ _) a b f = tt
  like_keyed (Mul _ _) a b f = tt
  like_keyed (Neg _) a b f = tt

  inputs_nil : Inputs K []
  inputs_nil i h = absurd (omega arith)

  inputs_snoc : (l : List NodeKind) (x : NodeKind) → Inputs K l → Keyed K x → Inputs K (l ++ (x ∷ []))
  inputs_snoc l x f g =
      rw (length_snoc l x)
      (below_suc_elim (λ i. Keyed K (at (l ++ (x ∷ [])) i)) (length l) (λ i h. rw (at_left l (x ∷ []) i h) (f i h)) (rw (at_last l x) g))

  -- what a request, and a rule, makes
  abbrev OutcomeKeyed : Outcome → Type 0
  OutcomeKeyed (Place i) = Unit {0}
  OutcomeKeyed (Node x) = Keyed K x

  abbrev RuleKeyed : Rule → Type 0
  RuleKeyed (ComesTo o) = OutcomeKeyed o
  RuleKeyed (HandOver a b) = Unit {0}

  module _ (F : Ops QuadFelt) where
    module _ (x y : NodeKind) (a b : ℕ) where
      add_keyed : RuleKeyed (add_rule F x y a b)
      add_keyed =
          add_cases F x y a b RuleKeyed (λ _ _. tt) (λ _. tt) (λ _. tt) (λ _ _. tt) (λ _ _. tt) (λ _. tt) (λ _. tt) (low_first_lem (Keyed K) Add a b tt tt)

      sub_keyed : RuleKeyed (sub_rule F x y a b)
      sub_keyed = sub_cases F x y a b RuleKeyed (λ _ _. tt) (λ _. tt) (λ _. tt) (λ _ _. tt) (λ _ _. tt) (λ _ _. tt) (λ _. tt) tt

      mul_keyed : OutcomeKeyed (mul_outcome F x y a b)
      mul_keyed = mul_cases F x y a b OutcomeKeyed (λ _ _. tt) (λ _. tt) (λ _. tt) (λ _. tt) (low_first_lem (Keyed K) Mul a b tt tt)

    neg_keyed : (x : NodeKind) (a : ℕ) → OutcomeKeyed (neg_outcome F x a)
    neg_keyed x a = neg_cases F x a OutcomeKeyed (λ _. tt) tt

    follow_keyed : (r : Rule) (next : ℕ → ℕ → Outcome) → RuleKeyed r → ((c d : ℕ) → OutcomeKeyed (next c d)) → OutcomeKeyed (follow F r next)
    unfolding follow
    follow_keyed (ComesTo o) next f g = f
    follow_keyed (HandOver c d) next f g = g c d

    module _ (l : List NodeKind) where
      mutual
        unfolding add_within sub_within

        within_add : (k a b : ℕ) → OutcomeKeyed (add_within F k l a b)
        within_add zero a b = low_first_lem (Keyed K) Add a b tt tt
        within_add (suc k) a b =
            follow_keyed (add_rule F (at l a) (at l b) a b) (λ c d. sub_within F k l c d) (add_keyed (at l a) (at l b) a b) (λ c d. within_sub k c d)

        within_sub : (k a b : ℕ) → OutcomeKeyed (sub_within F k l a b)
        within_sub zero a b = tt
        within_sub (suc k) a b =
            follow_keyed (sub_rule F (at l a) (at l b) a b) (λ c d. add_within F k l c d) (sub_keyed (at l a) (at l b) a b) (λ c d. within_add k c d)

      outcome_keyed : (x : NodeKind) → Keyed K x → OutcomeKeyed (outcome F l x)
      unfolding outcome add_outcome sub_outcome
      outcome_keyed (Input k) f = f
      outcome_keyed (Constant c) f = tt
      outcome_keyed (Add a b) f = within_add _ a b
      outcome_keyed (Sub a b) f = within_sub _ a b
      outcome_keyed (Mul a b) f = mul_keyed (at l a) (at l b) a b
      outcome_keyed (Neg a) f = neg_keyed (at l a) a

      module _ (f : Inputs K l) where
        interned_inputs : (x : NodeKind) (at_place : Option ℕ) → Keyed K x → Inputs K (interned l x at_place).list
        unfolding interned
        interned_inputs x (Some i) g = f
        interned_inputs x None g = inputs_snoc l x f g

        enter_inputs : (o : Outcome) → OutcomeKeyed o → Inputs K (enter l o).list
        unfolding enter intern
        enter_inputs (Place i) g = f
        enter_inputs (Node x) g = interned_inputs x (lookup l x (length l)) g

        -- one request
        pub step_inputs : (x : NodeKind) → Keyed K x → Inputs K (step F l x).list
        unfolding step
        step_inputs x g = enter_inputs (outcome F l x) (outcome_keyed x g)

    planned_inputs : (r : Replay) (x : NodeKind) (plan : Option Rewrite) → Inputs K r.list → Keyed K x → Inputs K (planned F r x plan).list
    unfolding planned
    planned_inputs r x (Some (Factored g a b)) f h =
        let inner = step F r.list (like x (place_of r a) (place_of r b)) in
        step_inputs inner.list (step_inputs r.list f (like x (place_of r a) (place_of r b)) (like_keyed x (place_of r a) (place_of r b) h)) (Mul (place_of r g) inner.place) tt
    planned_inputs r x (Some (Rotated e y)) f h = step_inputs r.list f (like x (place_of r e) (place_of r y)) (like_keyed x (place_of r e) (place_of r y) h)
    planned_inputs r x None f h = step_inputs r.list f (rename (place_of r) x) (rename_keyed (place_of r) x h)

    module _ (l : List NodeKind) (f : Inputs K l) where
      -- Build's requests
      pub replay_inputs : (n : ℕ) → n ≤ length l → Inputs K (replay F l n).list
      unfolding replay recorded
      replay_inputs zero h = inputs_nil
      replay_inputs (suc n) h =
          let r = replay F l n in
          step_inputs r.list (replay_inputs n (omega arith)) (rename (place_of r) (at l n)) (rename_keyed (place_of r) (at l n) (f n h))

      -- a round, before it is compacted
      pub round_inputs : (fan : ℕ → ℕ) (n : ℕ) → n ≤ length l → Inputs K (round F l fan n).list
      unfolding round recorded
      round_inputs fan zero h = inputs_nil
      round_inputs fan (suc n) h =
          planned_inputs (round F l fan n) (at l n) (plan_of l fan n (at l n)) (round_inputs fan n (omega arith)) (f n h)

  -- compaction
  pub compact_inputs : (l : List NodeKind) (roots : List ℕ) → Inputs K l → Inputs K (compact l roots).list
  unfolding compact
  compact_inputs l roots f =
      let m = marks l roots in
      kept_elim l m (λ n r. n ≤ length l → Inputs K r) (λ h. inputs_nil)
      (λ n e g h. inputs_snoc _ (rename (rank m) (at l n)) (g (omega arith)) (rename_keyed (rank m) (at l n) (f n h)))
      (λ n e g h. g (omega arith))
      (length l) (omega arith)

  module _ (F : Ops QuadFelt) where
    -- a round
    pub rounded_inputs : (l : List NodeKind) (roots : List ℕ) → Inputs K l → Inputs K (rounded F l roots).list
    unfolding rounded
    rounded_inputs l roots f = compact_inputs _ _ (round_inputs F l f (fanout l roots) (length l) (omega arith))

    -- normalising
    pub normalize_inputs : (l : List NodeKind) (roots : List ℕ) → Inputs K l → Inputs K (normalize F l roots).list
    unfolding normalize
    normalize_inputs l roots =
        rounds_elim F (λ fuel l roots k a. Inputs K l → Inputs K a.list)
        (λ l roots k f. f)
        (λ fuel l roots k e f. f)
        (λ fuel l roots k a e g f. g (rounded_inputs l roots f))
        (length l) l roots 0

-- every input answered has the key of an input given
pub no_new_inputs : (F : Ops QuadFelt) (l : List NodeKind) (roots : List ℕ) (i k : ℕ)
    → i < length (normalize F l roots).list → at (normalize F l roots).list i ≡ Input k → KeyOf l k
no_new_inputs F l roots = key_of (KeyOf l) (normalize F l roots).list (normalize_inputs (KeyOf l) F l roots (own_keys l))
