-- What the builder's functions ask and say of their stores.
use Rattle.std.specs.Prelude.{ℕ, ◌+◌, ◌<◌, ◌≤◌, true, cond, ◌&&◌, eqb, Option, Some, None, Result, Ok, Err, List, [], ◌∷◌, ◌++◌, ◌≡◌, length, get_or, take}
use mathlib.Core.List as Lists
use Rattle.field.specs.Fields.{Field, Low}
use Rattle.field.specs.Field.{elements}
use Rattle.field.specs.declared.Prime.{Prime}
use Rattle.field.specs.declared.QuadFelt.{QuadFelt}
use Rattle.dag.specs.Store.{Sound, put, written, stored}
use Rattle.dag.specs.Refusals.{unless_refused}
use Rattle.dag.specs.View.{View, interleaved}
use Rattle.dag.specs.Nodes.{first, second, nodes, filled}
use Rattle.dag.specs.Lookup.{lookup}
use Rattle.dag.specs.Roots.{roots_of, roots_from, Inside}
use Rattle.dag.specs.WellFormed.{Fine}
use Rattle.index.specs.Index.{half, noted, node_bucket, NodeIndex}
use Rattle.dag.specs.declared.NodeKind.{NodeKind}
use Rattle.dag.specs.declared.NodeKind.TheVariants.{Add, Mul}
use Rattle.dag.specs.declared.Dag.{Dag}
use Rattle.dag.specs.declared.Roots.{Roots}
use Rattle.dag.specs.declared.Refusal.{Refusal}
use Rattle.builder.specs.Steps.{is_constant, is_add, is_sub, element, outcome, Built, step, Replay, place_of, replay}
use Rattle.builder.specs.Calls.{step_room_check}
use Rattle.builder.specs.declared.Outcome.{Outcome}
use Rattle.builder.specs.declared.Outcome.TheVariants.{Place, Node}
use Rattle.builder.specs.declared.AssociativeOp.{AssociativeOp}
use Rattle.builder.specs.declared.DagBuilder.{DagBuilder}
use Rattle.builder.specs.declared.Entered.{Entered}
use Rattle.dag.specs.declared.RootedDag.{RootedDag}

-- the operation that a name stands for
abbrev pub operation : AssociativeOp → ℕ → ℕ → NodeKind
operation AssociativeOp.Add a b = Add a b
operation AssociativeOp.Mul a b = Mul a b

-- the elements of two constants
abbrev pub constants : NodeKind → NodeKind → Option (QuadFelt × QuadFelt)
constants x y = cond (is_constant x && is_constant y) (Some (element x, element y)) None

-- what is left of a sum with a difference that takes its other operand away
abbrev pub cancel_add : NodeKind → NodeKind → ℕ → ℕ → Option ℕ
cancel_add x y a b =
    cond (is_sub x && eqb (second x) b) (Some (first x))
    (cond (is_sub y && eqb (second y) a) (Some (first y))
    None)

-- what is left of a difference that takes away what a sum added, or leaves what a difference took away
abbrev pub cancel_sub : NodeKind → NodeKind → ℕ → ℕ → Option ℕ
cancel_sub x y a b =
    cond (is_add x && eqb (first x) b) (Some (second x))
    (cond (is_add x && eqb (second x) b) (Some (first x))
    (cond (is_sub y && eqb (first y) a) (Some (second y))
    None))

-- a search's answer: a place, or x that is new
abbrev pub new_unless : NodeKind → Option ℕ → Outcome
new_unless x (Some i) = Place i
new_unless x None = Node x

-- the place of x among the first n records, or x where it is new
unfoldable pub found_or_new : List NodeKind → ℕ → NodeKind → Outcome
found_or_new l n x = new_unless x (lookup l x n)

-- an outcome with the search made
abbrev pub searched : List NodeKind → ℕ → Outcome → Outcome
searched l n (Place i) = Place i
searched l n (Node y) = found_or_new l n y

-- a list and a place in it, by what was resolved
abbrev pub appended : List NodeKind → Outcome → Built
appended l (Place i) = record { list = l; place = i }
appended l (Node y) = record { list = l ++ (y ∷ []); place = length l }

-- an answer and a store, by the list and the place that a request comes to
pub record Stepped (s : List ℕ) (n : ℕ) (b : Built) (r : Result Entered Refusal) (after : List ℕ) : Type 0 where
  pub answer : r ≡ unless_refused (step_room_check (interleaved s) n b) Err (Ok (record { place = b.place; count = length b.list }))
  pub store : after ≡ unless_refused (step_room_check (interleaved s) n b) (λ _. s) (written s b.list)

-- a store of n records and its index, with room for one record more
pub record Room (s : List ℕ) (n : ℕ) (links : List ℕ) : Type 0 where
  pub room : n < (interleaved s).room
  pub index : NodeIndex (nodes (interleaved s) n) links
  pub link_room : n < half links

-- the places that a map store holds
abbrev pub read : List ℕ → ℕ → ℕ
read map j = get_or map j 0

-- the replay of a list's requests
abbrev pub replay_of : Dag → Replay
replay_of dag = replay (elements dag.prime) (nodes (interleaved dag.list.now) dag.n) dag.n

-- what Build's functions ask of n records, their roots, and the words of the result and the map
pub record Ready (n : ℕ) (roots : Roots) (result_room map_words : ℕ) : Type 0 where
  pub result_room_lem : n ≤ result_room
  pub map_room : n ≤ map_words
  pub inside : Inside n roots

-- the answer and the stores of a replay r
pub record Finished (r : Replay) (roots : Roots) (result map : List ℕ) (a : RootedDag) (after places : List ℕ) : Type 0 where
  pub answer : a ≡ record { count = length r.list; roots = roots_from (Lists.map (place_of r) (roots_of roots)) }
  pub list_is : after ≡ stored result r.list
  pub places_are : places ≡ filled (length map) r.map

module _ (field : Field) where
  -- a constant is in lowest form
  abbrev pub ConstantBelow : NodeKind → Type 0
  ConstantBelow x = is_constant x ≡ true → Low field (element x)

  pub record ConstantsBelow (x y : NodeKind) : Type 0 where
    pub left : ConstantBelow x
    pub right : ConstantBelow y

  -- two operands on the first n records of a store that passes the list check
  pub record Operands (s : View) (n a b : ℕ) : Type 0 where
    pub sound : Sound field.bounds s n
    pub left_inside : a < n
    pub right_inside : b < n

  -- a request on the first n records of a store that passes the list check
  pub record Request (s : View) (n : ℕ) (x : NodeKind) : Type 0 where
    pub sound : Sound field.bounds s n
    pub fine : Fine (Low field) n x

  -- the place of a request's result, or the new record that it needs
  unfoldable pub resolved : List NodeKind → ℕ → NodeKind → Outcome
  resolved l n x = searched l n (outcome field.elements l x)

  -- a store with one request entered: its list is the step's
  pub record Pushed (s : List ℕ) (n : ℕ) (x : NodeKind) (after : List ℕ) (r : Entered) : Type 0 where
    pub kept : length after ≡ length s
    pub sound : Sound field.bounds (interleaved after) r.count
    pub list_is : nodes (interleaved after) r.count ≡ (step field.elements (nodes (interleaved s) n) x).list
    pub place_is : r.place ≡ (step field.elements (nodes (interleaved s) n) x).place
    pub inside : r.place < r.count
    pub longer : n ≤ r.count
    pub by_one : r.count ≤ n + 1

  -- a store with one request entered, and its index
  pub record Noted (s : List ℕ) (n : ℕ) (x : NodeKind) (after links : List ℕ) (r : Entered) : Type 0 where
    pub pushed : Pushed s n x after r
    pub index : NodeIndex (nodes (interleaved after) r.count) links

  pub record Holds (r : Replay) (i : ℕ) (result map : List ℕ) (count : ℕ) : Type 0 where
    pub sound : Sound field.bounds (interleaved result) count
    pub list_is : nodes (interleaved result) count ≡ r.list
    pub map_is : take i map ≡ r.map

-- a list that is built, over the same stores as before
pub record SameStores (before after : DagBuilder) : Type 0 where
  pub prime : after.prime ≡ before.prime
  pub list : after.list.ghost_name ≡ before.list.ghost_name
  pub index : after.index.ghost_name ≡ before.index.ghost_name
  pub links : after.index.now.links.ghost_name ≡ before.index.now.links.ghost_name
  pub list_words : length after.list.now ≡ length before.list.now
  pub link_words : length after.index.now.links.now ≡ length before.index.now.links.now

-- a list that is built with the record y appended and noted, at that place
pub record Appended (before : DagBuilder) (y : NodeKind) (after : DagBuilder) (place : ℕ) : Type 0 where
  pub place_is : place ≡ before.count
  pub count_is : after.count ≡ before.count + 1
  pub list_is : after.list.now ≡ put before.list.now before.count y
  pub links_are : after.index.now.links.now ≡ noted before.index.now.links.now before.count (node_bucket (half before.index.now.links.now) y)

-- an empty list that is built, over a store that was `list`
pub record Empty (prime : Prime) (list : List ℕ) (b : DagBuilder) : Type 0 where
  pub prime_is : b.prime ≡ prime
  pub list_is : b.list.now ≡ list
  pub none : b.count ≡ 0
  pub index : NodeIndex [] b.index.now.links.now
