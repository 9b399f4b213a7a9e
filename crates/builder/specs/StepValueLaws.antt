-- What a step's answer is worth: the operation on its operands' values, over any ring and any element given to each key.
use Rattle.std.specs.Prelude.{Option, Some, None, ℕ, zero, suc, ◌+◌, ◌<◌, true, List, ◌≡◌, ◌⊎◌, length}
use Rattle.std.proofs.Math.Path.{refl, ap, ap₂}
use Rattle.std.proofs.Common.{sym, ◌∙◌, inl, inr}
use Rattle.ring.specs.Ring.{Ops, Laws}
use Rattle.ring.specs.Identities.{add_zero, sub_zero, mul_one, mul_zero, sub_add_cancel, add_sub_cancel, neg_add_sub, add_neg_sub, add_sub_left, add_sub_right, sub_sub_cancel, sub_neg}
use Rattle.field.specs.declared.QuadFelt.{QuadFelt}
use Rattle.dag.specs.Nodes.{at, first, second}
use Rattle.dag.specs.Lookup.{lookup}
use Rattle.dag.specs.LookupLaws.{Says, lookup_says}
use Rattle.dag.specs.WellFormed.{Fine, WellFormed}
use Rattle.dag.specs.declared.NodeKind.{NodeKind}
use Rattle.dag.specs.declared.NodeKind.TheVariants.{Input, Constant, Add, Sub, Mul, Neg}
use Rattle.meaning.specs.Values.{value_of, value}
use Rattle.meaning.specs.ValueLaws.{value_at, value_snoc, value_last, value_low}
use Rattle.builder.specs.Steps.{is_constant, is_add, is_sub, is_neg, is_the, element, add_rule, sub_rule, mul_outcome, neg_outcome, follow, add_within, sub_within, add_outcome, sub_outcome, outcome, Built, interned, intern, enter, step}
use Rattle.builder.specs.RuleLaws.{constant_is, the_is, add_is, sub_is, neg_is, low_first_lem, add_cases, sub_cases, mul_cases, neg_cases}
use Rattle.builder.specs.StepLaws.{RuleFine, add_fine, sub_fine}
use Rattle.builder.specs.declared.Rule.{Rule}
use Rattle.builder.specs.declared.Rule.TheVariants.{ComesTo, HandOver}
use Rattle.builder.specs.declared.Outcome.{Outcome}
use Rattle.builder.specs.declared.Outcome.TheVariants.{Place, Node}

-- what an answer is worth, where places have the values v
abbrev pub outcome_value : (F : Ops QuadFelt) (given v : ℕ → QuadFelt) → Outcome → QuadFelt
outcome_value F given v (Place i) = v i
outcome_value F given v (Node x) = value_of F given v x

-- what a rule's answer is worth, where operands are handed over to op
abbrev pub rule_value : (F : Ops QuadFelt) (given v : ℕ → QuadFelt) → (QuadFelt → QuadFelt → QuadFelt) → Rule → QuadFelt
rule_value F given v op (ComesTo o) = outcome_value F given v o
rule_value F given v op (HandOver c d) = op (v c) (v d)

module _ (F : Ops QuadFelt) (L : Laws F) (given : ℕ → QuadFelt) (low-given : (k : ℕ) → L.Low (given k)) (l : List NodeKind) (w : WellFormed L.Low l) where
  low : (i : ℕ) → L.Low (value F given l i)
  low i = value_low F L given low-given l w i

  module _ (a : ℕ) (p : a < length l) where
    -- a place's value, by its record's kind
    worth_of : (x : NodeKind) → at l a ≡ x → value F given l a ≡ value_of F given (value F given l) x
    worth_of x e = value_at F given L.Low l w a p ∙ ap (value_of F given (value F given l)) e

    as_constant : is_constant (at l a) ≡ true → value F given l a ≡ element (at l a)
    unfolding value_of
    as_constant e = worth_of (Constant (element (at l a))) (constant_is (at l a) e)

    as_the : (c : QuadFelt) → is_the c (at l a) ≡ true → value F given l a ≡ c
    unfolding value_of
    as_the c e = worth_of (Constant c) (the_is c (at l a) e)

    as_add : is_add (at l a) ≡ true → value F given l a ≡ F.add (value F given l (first (at l a))) (value F given l (second (at l a)))
    unfolding value_of
    as_add e = worth_of (Add (first (at l a)) (second (at l a))) (add_is (at l a) e)

    as_sub : is_sub (at l a) ≡ true → value F given l a ≡ F.sub (value F given l (first (at l a))) (value F given l (second (at l a)))
    unfolding value_of
    as_sub e = worth_of (Sub (first (at l a)) (second (at l a))) (sub_is (at l a) e)

    as_neg : is_neg (at l a) ≡ true → value F given l a ≡ F.neg (value F given l (first (at l a)))
    unfolding value_of
    as_neg e = worth_of (Neg (first (at l a))) (neg_is (at l a) e)

  module _ (a b : ℕ) (p : a < length l) (q : b < length l) where
    add_worth : rule_value F given (value F given l) F.sub (add_rule F (at l a) (at l b) a b) ≡ F.add (value F given l a) (value F given l b)
    unfolding value_of
    add_worth =
        add_cases F (at l a) (at l b) a b (λ r. rule_value F given (value F given l) F.sub r ≡ F.add (value F given l a) (value F given l b))
        (λ c d. ap₂ F.add (sym (as_constant a p c)) (sym (as_constant b q d)))
        (λ e. rw (as_the a p F.zero e) (sym (L.zero_add _ (low b))))
        (λ e. rw (as_the b q F.zero e) (sym (add_zero L _ (low a))))
        (λ e s. rw (as_sub a p e, s) (sym (sub_add_cancel L _ _ (low (first (at l a))))))
        (λ e s. rw (as_sub b q e, s) (sym (add_sub_cancel L _ _ (low (first (at l b))))))
        (λ e. rw (as_neg a p e) (sym (neg_add_sub L _ _)))
        (λ e. rw (as_neg b q e) (sym (add_neg_sub L _ _)))
        (low_first_lem (λ x. value_of F given (value F given l) x ≡ F.add (value F given l a) (value F given l b)) Add a b refl (L.add_comm _ _))

    sub_worth : rule_value F given (value F given l) F.add (sub_rule F (at l a) (at l b) a b) ≡ F.sub (value F given l a) (value F given l b)
    unfolding value_of
    sub_worth =
        sub_cases F (at l a) (at l b) a b (λ r. rule_value F given (value F given l) F.add r ≡ F.sub (value F given l a) (value F given l b))
        (λ c d. ap₂ F.sub (sym (as_constant a p c)) (sym (as_constant b q d)))
        (λ e. rw (as_the b q F.zero e) (sym (sub_zero L _ (low a))))
        (λ e. rw e (sym (L.sub_self _)))
        (λ e s. rw (as_add a p e, s) (sym (add_sub_left L _ _ (low (second (at l a))))))
        (λ e s. rw (as_add a p e, s) (sym (add_sub_right L _ _ (low (first (at l a))))))
        (λ e s. rw (as_sub b q e, s) (sym (sub_sub_cancel L _ _ (low (second (at l b))))))
        (λ e. rw (as_neg b q e) (sym (sub_neg L _ _)))
        refl

    mul_worth : outcome_value F given (value F given l) (mul_outcome F (at l a) (at l b) a b) ≡ F.mul (value F given l a) (value F given l b)
    unfolding value_of
    mul_worth =
        mul_cases F (at l a) (at l b) a b (λ o. outcome_value F given (value F given l) o ≡ F.mul (value F given l a) (value F given l b))
        (λ c d. ap₂ F.mul (sym (as_constant a p c)) (sym (as_constant b q d)))
        zeroed
        (λ e. rw (as_the a p F.one e) (sym (L.one_mul _ (low b))))
        (λ e. rw (as_the b q F.one e) (sym (mul_one L _ (low a))))
        (low_first_lem (λ x. value_of F given (value F given l) x ≡ F.mul (value F given l a) (value F given l b)) Mul a b refl (L.mul_comm _ _))
      where
        zeroed : (is_the F.zero (at l a) ≡ true) ⊎ (is_the F.zero (at l b) ≡ true) → F.zero ≡ F.mul (value F given l a) (value F given l b)
        zeroed (inl e) = rw (as_the a p F.zero e) (sym (L.zero_mul _))
        zeroed (inr e) = rw (as_the b q F.zero e) (sym (mul_zero L _))

  neg_worth : (a : ℕ) → a < length l → outcome_value F given (value F given l) (neg_outcome F (at l a) a) ≡ F.neg (value F given l a)
  unfolding value_of
  neg_worth a p =
      neg_cases F (at l a) a (λ o. outcome_value F given (value F given l) o ≡ F.neg (value F given l a))
      (λ e. ap F.neg (sym (as_constant a p e)))
      refl

  follow_worth : (m : ℕ) (op : QuadFelt → QuadFelt → QuadFelt) (r : Rule) (next : ℕ → ℕ → Outcome) → RuleFine L.Low (length l) m r
      → ((c d : ℕ) → c < length l → d < length l → outcome_value F given (value F given l) (next c d) ≡ op (value F given l c) (value F given l d))
      → outcome_value F given (value F given l) (follow F r next) ≡ rule_value F given (value F given l) op r
  unfolding follow
  follow_worth m op (ComesTo o) next f g = refl
  follow_worth m op (HandOver c d) next f g = g c d f.0 f.1

  mutual
    unfolding add_within sub_within value_of

    within_add_worth : (k a b : ℕ) → a < length l → b < length l
        → outcome_value F given (value F given l) (add_within F k l a b) ≡ F.add (value F given l a) (value F given l b)
    within_add_worth zero a b p q =
        low_first_lem (λ x. value_of F given (value F given l) x ≡ F.add (value F given l a) (value F given l b)) Add a b refl (L.add_comm _ _)
    within_add_worth (suc k) a b p q =
        follow_worth (a + b) F.sub (add_rule F (at l a) (at l b) a b) (λ c d. sub_within F k l c d)
        (add_fine F L l w (length l) a b p q)
        (λ c d g h. within_sub_worth k c d g h)
        ∙ add_worth a b p q

    within_sub_worth : (k a b : ℕ) → a < length l → b < length l
        → outcome_value F given (value F given l) (sub_within F k l a b) ≡ F.sub (value F given l a) (value F given l b)
    within_sub_worth zero a b p q = refl
    within_sub_worth (suc k) a b p q =
        follow_worth (a + b) F.add (sub_rule F (at l a) (at l b) a b) (λ c d. add_within F k l c d)
        (sub_fine F L l w (length l) a b p q)
        (λ c d g h. within_add_worth k c d g h)
        ∙ sub_worth a b p q

  -- the answer to a request is worth what the request is
  pub outcome_worth : (x : NodeKind) → Fine L.Low (length l) x
      → outcome_value F given (value F given l) (outcome F l x) ≡ value_of F given (value F given l) x
  unfolding outcome add_outcome sub_outcome value_of Fine
  outcome_worth (Input k) f = refl
  outcome_worth (Constant c) f = refl
  outcome_worth (Add a b) f = within_add_worth (suc (a + b)) a b f.0 f.1
  outcome_worth (Sub a b) f = within_sub_worth (suc (a + b)) a b f.0 f.1
  outcome_worth (Mul a b) f = mul_worth a b f.0 f.1
  outcome_worth (Neg a) f = neg_worth a f

-- what a step keeps and gives: earlier values stay, and the place answered is worth z
pub record Worth (F : Ops QuadFelt) (given : ℕ → QuadFelt) (l : List NodeKind) (b : Built) (z : QuadFelt) : Type 0 where
  pub keeps : (i : ℕ) → i < length l → value F given b.list i ≡ value F given l i
  pub worth : value F given b.list b.place ≡ z

module _ (F : Ops QuadFelt) (given : ℕ → QuadFelt) (Low : QuadFelt → Type 0) (l : List NodeKind) (w : WellFormed Low l) where
  interned_worth : (x : NodeKind) (f : Option ℕ) → Says l x (length l) f → Worth F given l (interned l x f) (value_of F given (value F given l) x)
  unfolding interned
  interned_worth x (Some i) s =
      record { keeps = λ j h. refl; worth = value_at F given Low l w i s.0 ∙ ap (value_of F given (value F given l)) s.1 }
  interned_worth x None s = record { keeps = value_snoc F given l x; worth = value_last F given l x }

  pub enter_worth : (o : Outcome) → Worth F given l (enter l o) (outcome_value F given (value F given l) o)
  unfolding enter intern
  enter_worth (Place i) = record { keeps = λ j h. refl; worth = refl }
  enter_worth (Node x) = interned_worth x (lookup l x (length l)) (lookup_says l x (length l))

module _ (F : Ops QuadFelt) (L : Laws F) (given : ℕ → QuadFelt) (low-given : (k : ℕ) → L.Low (given k)) (l : List NodeKind) (w : WellFormed L.Low l) (x : NodeKind) (f : Fine L.Low (length l) x) where
  pub step_worth : Worth F given l (step F l x) (value_of F given (value F given l) x)
  unfolding step
  step_worth = rw (← outcome_worth F L given low-given l w x f) (enter_worth F given L.Low l w (outcome F l x))

  -- the place answered has the value of the operation on the operands' values
  pub step_value : value F given (step F l x).list (step F l x).place ≡ value_of F given (value F given l) x
  step_value = step_worth.worth

  -- earlier values stay
  pub step_keeps : (i : ℕ) → i < length l → value F given (step F l x).list i ≡ value F given l i
  step_keeps = step_worth.keeps
