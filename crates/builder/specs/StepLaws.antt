-- Steps on well-formed lists, over any ring: what they answer may stand in the list, and the chain of hand-overs ends.
use Rattle.std.specs.Prelude.{Option, Some, None, ℕ, zero, suc, ◌+◌, ◌<◌, ◌≤◌, true, List, [], ◌∷◌, ◌++◌, ◌≡◌, ◌⊎◌, length}
use Rattle.std.proofs.Math.Path.{refl, subst}
use Rattle.std.proofs.Common.{inl, arith}
use Rattle.std.proofs.Math.Logic.{inr}
use Rattle.ring.specs.Ring.{Ops, Laws}
use Rattle.field.specs.declared.QuadFelt.{QuadFelt}
use Rattle.dag.specs.Nodes.{at, first, second}
use Rattle.dag.specs.NodeLaws.{length_snoc}
use Rattle.dag.specs.Lookup.{lookup}
use Rattle.dag.specs.LookupLaws.{Says, lookup_says}
use Rattle.dag.specs.WellFormed.{Fine, WellFormed}
use Rattle.dag.specs.WellFormedLaws.{well_formed_snoc}
use Rattle.dag.specs.declared.NodeKind.{NodeKind}
use Rattle.dag.specs.declared.NodeKind.TheVariants.{Input, Constant, Add, Sub, Mul, Neg}
use Rattle.builder.specs.Steps.{is_add, is_sub, is_neg, element, add_rule, sub_rule, mul_outcome, neg_outcome, follow, add_within, sub_within, add_outcome, sub_outcome, outcome, Built, interned, intern, enter, step}
use Rattle.builder.specs.RuleLaws.{add_is, sub_is, neg_is, low_first_lem, add_cases, sub_cases, mul_cases, neg_cases}
use Rattle.builder.specs.declared.Rule.{Rule}
use Rattle.builder.specs.declared.Rule.TheVariants.{ComesTo, HandOver}
use Rattle.builder.specs.declared.Outcome.{Outcome}
use Rattle.builder.specs.declared.Outcome.TheVariants.{Place, Node}

-- what a request comes to on a list of n records
abbrev pub OutcomeFine : (QuadFelt → Type 0) → ℕ → Outcome → Type 0
OutcomeFine Low n (Place i) = i < n
OutcomeFine Low n (Node x) = Fine Low n x

-- a rule's answer on a list of n records; operands handed over have a lower sum than m
abbrev pub RuleFine : (QuadFelt → Type 0) → ℕ → ℕ → Rule → Type 0
RuleFine Low n m (ComesTo o) = OutcomeFine Low n o
RuleFine Low n m (HandOver c d) = (c < n) × (d < n) × (c + d < m)

module _ (Low : QuadFelt → Type 0) (i : ℕ) (x : NodeKind) (f : Fine Low i x) where
  add_operands : is_add x ≡ true → (first x < i) × (second x < i)
  unfolding Fine
  add_operands e = subst (Fine Low i) (add_is x e) f

  sub_operands : is_sub x ≡ true → (first x < i) × (second x < i)
  unfolding Fine
  sub_operands e = subst (Fine Low i) (sub_is x e) f

  neg_operand : is_neg x ≡ true → first x < i
  unfolding Fine
  neg_operand e = subst (Fine Low i) (neg_is x e) f

module _ (F : Ops QuadFelt) (L : Laws F) (l : List NodeKind) (w : WellFormed L.Low l) where
  module _ (n a b : ℕ) (p : a < n) (q : b < n) where
    pub add_fine : RuleFine L.Low n (a + b) (add_rule F (at l a) (at l b) a b)
    unfolding WellFormed Fine
    add_fine =
        add_cases F (at l a) (at l b) a b (RuleFine L.Low n (a + b))
        (λ _ _. L.low_add (element (at l a)) (element (at l b)))
        (λ _. q)
        (λ _. p)
        (λ e _. let h = sub_operands L.Low a (at l a) (w a) e in omega arith)
        (λ e _. let h = sub_operands L.Low b (at l b) (w b) e in omega arith)
        (λ e. let h = neg_operand L.Low a (at l a) (w a) e in omega arith)
        (λ e. let h = neg_operand L.Low b (at l b) (w b) e in omega arith)
        (low_first_lem (Fine L.Low n) Add a b (p, q) (q, p))

    pub sub_fine : RuleFine L.Low n (a + b) (sub_rule F (at l a) (at l b) a b)
    unfolding WellFormed Fine
    sub_fine =
        sub_cases F (at l a) (at l b) a b (RuleFine L.Low n (a + b))
        (λ _ _. L.low_sub (element (at l a)) (element (at l b)))
        (λ _. p)
        (λ _. L.low_zero)
        (λ e _. let h = add_operands L.Low a (at l a) (w a) e in omega arith)
        (λ e _. let h = add_operands L.Low a (at l a) (w a) e in omega arith)
        (λ e _. let h = sub_operands L.Low b (at l b) (w b) e in omega arith)
        (λ e. let h = neg_operand L.Low b (at l b) (w b) e in omega arith)
        (p, q)

    mul_fine : OutcomeFine L.Low n (mul_outcome F (at l a) (at l b) a b)
    unfolding Fine
    mul_fine =
        mul_cases F (at l a) (at l b) a b (OutcomeFine L.Low n)
        (λ _ _. L.low_mul (element (at l a)) (element (at l b)))
        (λ _. L.low_zero)
        (λ _. q)
        (λ _. p)
        (low_first_lem (Fine L.Low n) Mul a b (p, q) (q, p))

  neg_fine : (n a : ℕ) → a < n → OutcomeFine L.Low n (neg_outcome F (at l a) a)
  unfolding Fine
  neg_fine n a p = neg_cases F (at l a) a (OutcomeFine L.Low n) (λ _. L.low_neg (element (at l a))) p

  follow_fine : (n m : ℕ) (r : Rule) (next : ℕ → ℕ → Outcome) → RuleFine L.Low n m r
      → ((c d : ℕ) → c < n → d < n → OutcomeFine L.Low n (next c d)) → OutcomeFine L.Low n (follow F r next)
  unfolding follow
  follow_fine n m (ComesTo o) next f g = f
  follow_fine n m (HandOver c d) next f g = g c d f.0 f.1

  mutual
    unfolding add_within sub_within Fine

    within_add_fine : (k n a b : ℕ) → a < n → b < n → OutcomeFine L.Low n (add_within F k l a b)
    within_add_fine zero n a b p q = low_first_lem (Fine L.Low n) Add a b (p, q) (q, p)
    within_add_fine (suc k) n a b p q =
        follow_fine n (a + b) (add_rule F (at l a) (at l b) a b) (λ c d. sub_within F k l c d) (add_fine n a b p q) (λ c d g h. within_sub_fine k n c d g h)

    within_sub_fine : (k n a b : ℕ) → a < n → b < n → OutcomeFine L.Low n (sub_within F k l a b)
    within_sub_fine zero n a b p q = (p, q)
    within_sub_fine (suc k) n a b p q =
        follow_fine n (a + b) (sub_rule F (at l a) (at l b) a b) (λ c d. add_within F k l c d) (sub_fine n a b p q) (λ c d g h. within_add_fine k n c d g h)

  -- the answer to a request that may stand in the list is a place in it or a record that may
  pub outcome_fine : (x : NodeKind) → Fine L.Low (length l) x → OutcomeFine L.Low (length l) (outcome F l x)
  unfolding outcome add_outcome sub_outcome Fine
  outcome_fine (Input k) f = f
  outcome_fine (Constant c) f = f
  outcome_fine (Add a b) f = within_add_fine (suc (a + b)) (length l) a b f.0 f.1
  outcome_fine (Sub a b) f = within_sub_fine (suc (a + b)) (length l) a b f.0 f.1
  outcome_fine (Mul a b) f = mul_fine (length l) a b f.0 f.1
  outcome_fine (Neg a) f = neg_fine (length l) a f

  follow_same : (n m : ℕ) (r : Rule) (f g : ℕ → ℕ → Outcome) → RuleFine L.Low n m r
      → ((c d : ℕ) → c + d < m → f c d ≡ g c d) → follow F r f ≡ follow F r g
  unfolding follow
  follow_same n m (ComesTo o) f g h e = refl
  follow_same n m (HandOver c d) f g h e = e c d h.2

  -- past the sum of the places, fuel doesn't matter
  mutual
    unfolding add_within sub_within

    add_fuel : (k j a b : ℕ) → a + b < k → a + b < j → add_within F k l a b ≡ add_within F j l a b
    add_fuel zero j a b p q = absurd (omega arith)
    add_fuel (suc k) zero a b p q = absurd (omega arith)
    add_fuel (suc k) (suc j) a b p q =
        follow_same (suc (a + b)) (a + b) (add_rule F (at l a) (at l b) a b) (λ c d. sub_within F k l c d) (λ c d. sub_within F j l c d)
        (add_fine (suc (a + b)) a b (omega arith) (omega arith))
        (λ c d h. sub_fuel k j c d (omega arith) (omega arith))

    sub_fuel : (k j a b : ℕ) → a + b < k → a + b < j → sub_within F k l a b ≡ sub_within F j l a b
    sub_fuel zero j a b p q = absurd (omega arith)
    sub_fuel (suc k) zero a b p q = absurd (omega arith)
    sub_fuel (suc k) (suc j) a b p q =
        follow_same (suc (a + b)) (a + b) (sub_rule F (at l a) (at l b) a b) (λ c d. add_within F k l c d) (λ c d. add_within F j l c d)
        (sub_fine (suc (a + b)) a b (omega arith) (omega arith))
        (λ c d h. add_fuel k j c d (omega arith) (omega arith))

  -- add and sub as they call each other
  pub add_unfold : (a b : ℕ) → add_outcome F l a b ≡ follow F (add_rule F (at l a) (at l b) a b) (sub_outcome F l)
  unfolding add_outcome sub_outcome add_within
  add_unfold a b =
      follow_same (suc (a + b)) (a + b) (add_rule F (at l a) (at l b) a b) (λ c d. sub_within F (a + b) l c d) (sub_outcome F l)
      (add_fine (suc (a + b)) a b (omega arith) (omega arith))
      (λ c d h. sub_fuel (a + b) (suc (c + d)) c d h (omega arith))

  pub sub_unfold : (a b : ℕ) → sub_outcome F l a b ≡ follow F (sub_rule F (at l a) (at l b) a b) (add_outcome F l)
  unfolding add_outcome sub_outcome sub_within
  sub_unfold a b =
      follow_same (suc (a + b)) (a + b) (sub_rule F (at l a) (at l b) a b) (λ c d. add_within F (a + b) l c d) (add_outcome F l)
      (sub_fine (suc (a + b)) a b (omega arith) (omega arith))
      (λ c d h. add_fuel (a + b) (suc (c + d)) c d h (omega arith))

  -- operands handed over are inside, and the sum of their places falls
  pub add_hands_lower : (a b c d : ℕ) → a < length l → b < length l → add_rule F (at l a) (at l b) a b ≡ HandOver c d
      → (c < length l) × (d < length l) × (c + d < a + b)
  add_hands_lower a b c d p q e = subst (RuleFine L.Low (length l) (a + b)) e (add_fine (length l) a b p q)

  pub sub_hands_lower : (a b c d : ℕ) → a < length l → b < length l → sub_rule F (at l a) (at l b) a b ≡ HandOver c d
      → (c < length l) × (d < length l) × (c + d < a + b)
  sub_hands_lower a b c d p q e = subst (RuleFine L.Low (length l) (a + b)) e (sub_fine (length l) a b p q)

-- what a step makes of a list: the same records, perhaps one more, and a place among them
pub record Grown (Low : QuadFelt → Type 0) (l : List NodeKind) (b : Built) : Type 0 where
  pub well_formed : WellFormed Low b.list
  pub inside : b.place < length b.list
  pub grows : (b.list ≡ l) ⊎ ((x : NodeKind) × (b.list ≡ l ++ (x ∷ [])))
  pub longer : length l ≤ length b.list
  pub by_one : length b.list ≤ suc (length l)

module _ (Low : QuadFelt → Type 0) (l : List NodeKind) (w : WellFormed Low l) where
  stays : (i : ℕ) → i < length l → Grown Low l (record { list = l; place = i })
  stays i h = record { well_formed = w; inside = h; grows = inl refl; longer = omega arith; by_one = omega arith }

  pub interned_grown : (x : NodeKind) (f : Option ℕ) → Fine Low (length l) x → Says l x (length l) f → Grown Low l (interned l x f)
  unfolding interned
  interned_grown x (Some i) f s = stays i s.0
  interned_grown x None f s =
      record {
        well_formed = well_formed_snoc Low l x w f;
        inside = omega (arith, length_snoc l x);
        grows = inr (x, refl);
        longer = omega (arith, length_snoc l x);
        by_one = omega (arith, length_snoc l x);
      }

  pub enter_grown : (o : Outcome) → OutcomeFine Low (length l) o → Grown Low l (enter l o)
  unfolding enter intern
  enter_grown (Place i) f = stays i f
  enter_grown (Node x) f = interned_grown x (lookup l x (length l)) f (lookup_says l x (length l))

pub step_grown : (F : Ops QuadFelt) (L : Laws F) (l : List NodeKind) → WellFormed L.Low l → (x : NodeKind) → Fine L.Low (length l) x
    → Grown L.Low l (step F l x)
unfolding step
step_grown F L l w x f = enter_grown L.Low l w (outcome F l x) (outcome_fine F L l w x f)
