-- Computations on a builder's list: requests one after the other, with an answer at the end.
use Rattle.std.specs.Prelude.{ℕ, zero, suc, List, [], ◌∷◌, ◌++◌, ◌≡◌, refl, length, Option, Some, None}
use Rattle.std.proofs.Common.{append-nil, append_assoc, sym, ◌∙◌, ap}
use Rattle.ring.specs.Ring.{Ops}
use Rattle.field.specs.Field.{new}
use Rattle.field.specs.declared.QuadFelt.{QuadFelt}
use Rattle.dag.specs.Lookup.{lookup}
use Rattle.dag.specs.declared.NodeKind.{NodeKind}
use Rattle.dag.specs.declared.NodeKind.TheVariants.{Input, Constant, Add, Sub, Mul}
use Rattle.builder.specs.Steps as Steps
use Rattle.builder.specs.declared.Outcome.{Outcome}
use Rattle.builder.specs.declared.Outcome.TheVariants.{Place, Node}

-- the list then, and the answer
pub record Run (A : Type 0) : Type 0 where
  pub list : List NodeKind
  pub answer : A

-- l, perhaps with more records behind it
abbrev pub Extends : List NodeKind → List NodeKind → Type 0
Extends l k = (t : List NodeKind) × (k ≡ l ++ t)

-- what is run on a list, which only appends to it
pub record Builder (A : Type 0) : Type 0 where
  pub run : List NodeKind → Run A
  pub extends : (l : List NodeKind) → Extends l (run l).list

pub extends_none : (l : List NodeKind) → Extends l l
extends_none l = ([], sym (append-nil l))

pub extends_more : (l k j : List NodeKind) → Extends l k → Extends k j → Extends l j
extends_more l k j a b = (a.0 ++ b.0, b.1 ∙ (ap (λ q. q ++ b.0) a.1 ∙ append_assoc l a.0 b.0))

-- no request
unfoldable pub done : {A : Type 0} → A → Builder A
done a = record { run = λ l. record { list = l; answer = a }; extends = λ l. extends_none l }

infixl 20 ◌>>=◌
-- one computation, then the next on its answer
unfoldable pub ◌>>=◌ : {A B : Type 0} → Builder A → (A → Builder B) → Builder B
m >>= f =
    record {
      run = λ l. let r = m.run l in (f r.answer).run r.list;
      extends = λ l. extends_more l (m.run l).list ((f (m.run l).answer).run (m.run l).list).list (m.extends l) ((f (m.run l).answer).extends (m.run l).list);
    }

-- n turns, turn i on the answer of the turns before it
unfoldable pub turns : {A : Type 0} → (ℕ → A → Builder A) → ℕ → A → Builder A
turns f zero a = done a
turns f (suc n) a = turns f n a >>= f n

-- a step appends at most one record
interned_extends : (l : List NodeKind) (x : NodeKind) (f : Option ℕ) → Extends l (Steps.interned l x f).list
unfolding Steps.interned
interned_extends l x (Some i) = extends_none l
interned_extends l x None = (x ∷ [], refl)

enter_extends : (l : List NodeKind) (o : Outcome) → Extends l (Steps.enter l o).list
unfolding Steps.enter Steps.intern
enter_extends l (Place i) = extends_none l
enter_extends l (Node x) = interned_extends l x (lookup l x (length l))

pub step_extends : (F : Ops QuadFelt) (x : NodeKind) (l : List NodeKind) → Extends l (Steps.step F l x).list
unfolding Steps.step
step_extends F x l = enter_extends l (Steps.outcome F l x)

module _ (F : Ops QuadFelt) where
  -- one request, answered by its place
  unfoldable pub enter : NodeKind → Builder ℕ
  enter x = record { run = λ l. let b = Steps.step F l x in record { list = b.list; answer = b.place }; extends = step_extends F x }

  abbrev pub input : ℕ → Builder ℕ
  input k = enter (Input k)

  abbrev pub constant : ℕ → Builder ℕ
  constant c = enter (Constant (new c 0))

  abbrev pub add : ℕ → ℕ → Builder ℕ
  add a b = enter (Add a b)

  abbrev pub sub : ℕ → ℕ → Builder ℕ
  sub a b = enter (Sub a b)

  abbrev pub mul : ℕ → ℕ → Builder ℕ
  mul a b = enter (Mul a b)

-- one more place behind a list of places
unfoldable pub also : List ℕ → Builder ℕ → Builder (List ℕ)
also ps m = m >>= λ q. done (ps ++ (q ∷ []))
