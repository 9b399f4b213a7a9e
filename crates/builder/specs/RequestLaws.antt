-- Requests on a store: what each kind asks of its operands, what it comes to, and what entering it leaves.
use Rattle.std.specs.Prelude.{Option, Some, None, ℕ, ◌+◌, ◌<◌, ◌⊎◌, List, [], ◌∷◌, ◌++◌, ◌≡◌, length}
use Rattle.std.proofs.Math.Path.{refl, ap}
use Rattle.std.proofs.Common.{inl, inr, sym, ◌∙◌, subst, add-one, arith}
use Rattle.field.specs.Fields.{Field, Low, element_laws}
use Rattle.field.specs.declared.QuadFelt.{QuadFelt}
use Rattle.dag.specs.View.{View, interleaved}
use Rattle.dag.specs.Nodes.{record_at, nodes}
use Rattle.dag.specs.NodeLaws.{at_nodes, length_nodes}
use Rattle.dag.specs.Lookup.{lookup}
use Rattle.dag.specs.Store.{put}
use Rattle.dag.specs.StoreLaws.{length_put, nodes_put, sound_put}
use Rattle.dag.specs.WellFormed.{Fine}
use Rattle.dag.specs.declared.NodeKind.{NodeKind}
use Rattle.dag.specs.declared.NodeKind.TheVariants.{Input, Constant, Add, Sub, Mul, Neg}
use Rattle.index.specs.Index.{half, noted, node_bucket}
use Rattle.index.specs.NodeIndexLaws.{index_more}
use Rattle.builder.specs.Steps.{outcome, mul_outcome, neg_outcome, add_outcome, sub_outcome, interned, intern, enter, step}
use Rattle.builder.specs.StepLaws.{OutcomeFine, outcome_fine, Grown, step_grown}
use Rattle.builder.specs.OutcomeLaws.{list_fine}
use Rattle.builder.specs.Promises.{Operands, Request, new_unless, found_or_new, searched, resolved, appended, Pushed, Room, Noted}
use Rattle.builder.specs.declared.Outcome.{Outcome}
use Rattle.builder.specs.declared.Outcome.TheVariants.{Place, Node}

-- the step's list and place, by what was resolved
interned_appended : (l : List NodeKind) (y : NodeKind) (f : Option ℕ) → interned l y f ≡ appended l (new_unless y f)
unfolding interned
interned_appended l y (Some i) = refl
interned_appended l y None = refl

-- what a search says of a record that is interned
pub intern_found : (s : View) (n : ℕ) (y : NodeKind) (f : Option ℕ) → f ≡ lookup (nodes s n) y n → intern (nodes s n) y ≡ appended (nodes s n) (new_unless y f)
unfolding intern
intern_found s n y f e = rw (length_nodes s n, ← e) (interned_appended (nodes s n) y f)

entered_appended : (l : List NodeKind) (n : ℕ) → n ≡ length l → (o : Outcome) → enter l o ≡ appended l (searched l n o)
unfolding enter intern found_or_new
entered_appended l n e (Place i) = refl
entered_appended l n e (Node y) = rw e (interned_appended l y (lookup l y (length l)))

-- what is resolved may stand at the list's end
new_unless_fine : (n : ℕ) (y : NodeKind) (f : Option ℕ) (z : NodeKind) → new_unless y f ≡ Node z → y ≡ z
new_unless_fine n y (Some i) z e = let q : ◌≡◌ {A = ℕ} 0 1 = cc in absurd (omega arith)
new_unless_fine n y None z e = cc

searched_node : (l : List NodeKind) (n : ℕ) (o : Outcome) (z : NodeKind) → searched l n o ≡ Node z → o ≡ Node z
unfolding found_or_new
searched_node l n (Place i) z e = let q : ◌≡◌ {A = ℕ} 0 1 = cc in absurd (omega arith)
searched_node l n (Node y) z e = ap Node (new_unless_fine n y (lookup l y n) z e)

module _ (field : Field) where
  module _ {s : View} {n : ℕ} {x : NodeKind} (req : Request field s n x) where
    asks : (y : NodeKind) → x ≡ y → Fine (Low field) n y
    asks y e = subst (λ (z : NodeKind). Fine (Low field) n z) e req.fine

    operands_of : (a b : ℕ) → (a < n) × (b < n) → Operands field s n a b
    operands_of a b h = record { sound = req.sound; left_inside = h.0; right_inside = h.1 }

    pub asks_add : {a b : ℕ} → x ≡ Add a b → Operands field s n a b
    unfolding Fine
    asks_add {a} {b} e = operands_of a b (asks (Add a b) e)

    pub asks_sub : {a b : ℕ} → x ≡ Sub a b → Operands field s n a b
    unfolding Fine
    asks_sub {a} {b} e = operands_of a b (asks (Sub a b) e)

    pub asks_mul : {a b : ℕ} → x ≡ Mul a b → Operands field s n a b
    unfolding Fine
    asks_mul {a} {b} e = operands_of a b (asks (Mul a b) e)

    pub asks_neg : {a : ℕ} → x ≡ Neg a → a < n
    unfolding Fine
    asks_neg {a} e = asks (Neg a) e

    is_outcome : (y : NodeKind) (o : Outcome) → x ≡ y → o ≡ outcome field.elements (nodes s n) y → o ≡ outcome field.elements (nodes s n) x
    is_outcome y o e h = rw e h

    pub leaf_comes : ((k : ℕ) × (x ≡ Input k)) ⊎ ((v : QuadFelt) × (x ≡ Constant v)) → Node x ≡ outcome field.elements (nodes s n) x
    unfolding outcome
    leaf_comes (inl p) = rw p.1
    leaf_comes (inr p) = rw p.1

    pub add_comes : {a b : ℕ} {o : Outcome} → x ≡ Add a b → o ≡ add_outcome field.elements (nodes s n) a b → o ≡ outcome field.elements (nodes s n) x
    unfolding outcome
    add_comes {a} {b} e h = is_outcome (Add a b) _ e h

    pub sub_comes : {a b : ℕ} {o : Outcome} → x ≡ Sub a b → o ≡ sub_outcome field.elements (nodes s n) a b → o ≡ outcome field.elements (nodes s n) x
    unfolding outcome
    sub_comes {a} {b} e h = is_outcome (Sub a b) _ e h

    pub mul_comes : {a b : ℕ} {y z : NodeKind} {o : Outcome} → x ≡ Mul a b → y ≡ record_at s a → z ≡ record_at s b → o ≡ mul_outcome field.elements y z a b
        → o ≡ outcome field.elements (nodes s n) x
    unfolding outcome
    mul_comes {a} {b} e ey ez h =
        is_outcome (Mul a b) _ e
        (rw (at_nodes s n a (asks_mul e).left_inside, at_nodes s n b (asks_mul e).right_inside, ← ey, ← ez) h)

    pub neg_comes : {a : ℕ} {y : NodeKind} {o : Outcome} → x ≡ Neg a → y ≡ record_at s a → o ≡ neg_outcome field.elements y a → o ≡ outcome field.elements (nodes s n) x
    unfolding outcome
    neg_comes {a} e ey h = is_outcome (Neg a) _ e (rw (at_nodes s n a (asks_neg e), ← ey) h)

  pub step_appended : (s : View) (n : ℕ) (x : NodeKind) → step field.elements (nodes s n) x ≡ appended (nodes s n) (resolved field (nodes s n) n x)
  unfolding step resolved
  step_appended s n x = entered_appended (nodes s n) n (sym (length_nodes s n)) (outcome field.elements (nodes s n) x)

  module _ (s : List ℕ) (n : ℕ) (x : NodeKind) (req : Request field (interleaved s) n x) where
    grown : Grown (Low field) (nodes (interleaved s) n) (step field.elements (nodes (interleaved s) n) x)
    grown = step_grown field.elements (element_laws field) (nodes (interleaved s) n) (list_fine field (interleaved s) n req.sound) x (rw (length_nodes (interleaved s) n) req.fine)

    pub new_fine : (z : NodeKind) → resolved field (nodes (interleaved s) n) n x ≡ Node z → Fine (Low field) n z
    unfolding resolved
    new_fine z e =
        rw (← length_nodes (interleaved s) n)
        (subst (OutcomeFine (Low field) (length (nodes (interleaved s) n))) (searched_node (nodes (interleaved s) n) n (outcome field.elements (nodes (interleaved s) n) x) z e)
        (outcome_fine field.elements (element_laws field) (nodes (interleaved s) n) (list_fine field (interleaved s) n req.sound) x (rw (length_nodes (interleaved s) n) req.fine)))

    -- a place that is there
    pub pushed_place : (o : Outcome) (i : ℕ) → o ≡ resolved field (nodes (interleaved s) n) n x → o ≡ Place i → Pushed field s n x s (record { place = i; count = n })
    pushed_place o i e h =
        let b : step field.elements (nodes (interleaved s) n) x ≡ record { list = nodes (interleaved s) n; place = i } = step_appended (interleaved s) n x ∙ ap (appended (nodes (interleaved s) n)) (sym e ∙ h) in
        record {
          kept = refl;
          sound = req.sound;
          list_is = sym (ap (λ q. q.list) b);
          place_is = sym (ap (λ q. q.place) b);
          inside = rw (← length_nodes (interleaved s) n) (subst (λ q. q.place < length q.list) b grown.inside);
          longer = omega arith;
          by_one = omega arith;
        }

    -- a record appended
    pub pushed_node : (o : Outcome) (z : NodeKind) (after : List ℕ) → o ≡ resolved field (nodes (interleaved s) n) n x → o ≡ Node z → after ≡ put s n z → n < (interleaved s).room
        → Pushed field s n x after (record { place = n; count = n + 1 })
    pushed_node o z after e h k fits =
        let b : step field.elements (nodes (interleaved s) n) x ≡ record { list = nodes (interleaved s) n ++ (z ∷ []); place = length (nodes (interleaved s) n) } = step_appended (interleaved s) n x ∙ ap (appended (nodes (interleaved s) n)) (sym e ∙ h) in
        record {
          kept = ap length k ∙ length_put s n z;
          sound = rw (k, add-one n) (sound_put s n z fits field.bounds req.sound (new_fine z (sym e ∙ h)));
          list_is = rw (k, add-one n) (nodes_put s n z fits ∙ sym (ap (λ q. q.list) b));
          place_is = sym (length_nodes (interleaved s) n) ∙ sym (ap (λ q. q.place) b);
          inside = omega arith;
          longer = omega arith;
          by_one = omega arith;
        }

    -- a place that is there, with the index as it was
    pub noted_place : (o : Outcome) (i : ℕ) (links : List ℕ) → o ≡ resolved field (nodes (interleaved s) n) n x → o ≡ Place i → Room s n links → Noted field s n x s links (record { place = i; count = n })
    noted_place o i links e h room = record { pushed = pushed_place o i e h; index = room.index }

    -- a record appended and noted
    pub noted_node : (o : Outcome) (z : NodeKind) (after links later : List ℕ) → o ≡ resolved field (nodes (interleaved s) n) n x → o ≡ Node z → after ≡ put s n z → Room s n links
        → later ≡ noted links n (node_bucket (half links) z)
        → Noted field s n x after later (record { place = n; count = n + 1 })
    noted_node o z after links later e h k room el =
        record {
          pushed = pushed_node o z after e h k room.room;
          index =
              rw (k, add-one n, nodes_put s n z room.room, el ∙ ap (λ m. noted links m (node_bucket (half links) z)) (sym (length_nodes (interleaved s) n)))
              (index_more (nodes (interleaved s) n) links z room.index (rw (length_nodes (interleaved s) n) room.link_room));
        }
