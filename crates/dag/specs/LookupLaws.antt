-- What a lookup answers: the greatest place of an equal record, or that there is none.
use Rattle.std.specs.Prelude.{ℕ, suc, ◌<◌, ◌≤◌, List, ◌↔◌, ◌≡◌, refl, Some, None, Option}
use Rattle.std.proofs.Common.{subst, arith}
use Rattle.dag.specs.Nodes.{at, same_node}
use Rattle.dag.specs.Lookup.{lookup}
use Rattle.dag.specs.SearchLaws.{Nowhere, Greatest, greatest_says}
use Rattle.dag.specs.NodeLaws.{same_node_true, eq_same_node}
use Rattle.dag.specs.CaseLaws.{not_both}
use Rattle.dag.specs.declared.NodeKind.{NodeKind}

-- no record from place j up to place n equals x
abbrev pub NoneFrom : ℕ → ℕ → List NodeKind → NodeKind → Type 0
NoneFrom j n l x = (i : ℕ) → j ≤ i → i < n → at l i ≡ x → ⊥

-- what an answer says of the first n records
abbrev pub Says : List NodeKind → NodeKind → ℕ → Option ℕ → Type 0
Says l x n (Some j) = (j < n) × (at l j ≡ x) × NoneFrom (suc j) n l x
Says l x n None = NoneFrom 0 n l x

pub lookup_says : (l : List NodeKind) (x : NodeKind) (n : ℕ) → Says l x n (lookup l x n)
lookup_says l x n = go (lookup l x n) (greatest_says (λ i. same_node (at l i) x) n)
  where
    none : (j : ℕ) → Nowhere (λ i. same_node (at l i) x) j n → NoneFrom j n l x
    none j nowhere i h k e = not_both (same_node (at l i) x) (eq_same_node (at l i) x e) (nowhere i h k)

    go : (f : Option ℕ) → Greatest (λ i. same_node (at l i) x) n f → Says l x n f
    go (Some j) s = (s.0, same_node_true (at l j) x s.1, none (suc j) s.2)
    go None s = none 0 s

pub lookup_at : (l : List NodeKind) (x : NodeKind) (n j : ℕ) → lookup l x n ≡ Some j → (j < n) × (at l j ≡ x) × NoneFrom (suc j) n l x
lookup_at l x n j e = subst (Says l x n) e (lookup_says l x n)

pub lookup_missing : (l : List NodeKind) (x : NodeKind) (n : ℕ) → (lookup l x n ≡ None) ↔ NoneFrom 0 n l x
lookup_missing l x n = (λ e. subst (Says l x n) e (lookup_says l x n), λ none. go (lookup l x n) (lookup_says l x n) none)
  where
    go : (f : Option ℕ) → Says l x n f → NoneFrom 0 n l x → f ≡ None
    go (Some j) s none = absurd (none j (omega arith) s.0 s.1)
    go None s none = refl
