-- What the functions of a round ask of their stores, and say of them.
use Rattle.std.specs.Prelude.{ℕ, ◌+◌, ◌*◌, ◌<◌, ◌≤◌, Bool, Option, is_some, IfSome, MatchOption, List, ◌≡◌, length, replicate}
use Rattle.field.specs.Fields.{Field, Low}
use Rattle.dag.specs.View.{interleaved}
use Rattle.dag.specs.Roots.{roots_of, roots_from, Inside}
use Rattle.dag.specs.Store.{Sound, stored}
use Rattle.dag.specs.WellFormed.{Fine}
use Rattle.dag.specs.Nodes.{most_records, nodes, blank}
use Rattle.dag.specs.declared.NodeKind.{NodeKind}
use Rattle.dag.specs.declared.Roots.{Roots}
use Rattle.index.specs.Index.{half, NodeIndex}
use Rattle.builder.specs.Steps.{Built, Replay}
use Rattle.builder.specs.Promises.{read, Holds}
use Rattle.builder.specs.declared.Entered.{Entered}
use Rattle.plan.specs.Promises.{PlanFine}
use Rattle.plan.specs.declared.Rewrite.{Rewrite}
use Rattle.normalize.specs.Rounds.{round, fired, rounded, is_kept, rounds_from}
use Rattle.normalize.specs.Calls.{answer_of, normalized}
use Rattle.dag.specs.declared.RootedDag.{RootedDag}
use Rattle.normalize.specs.declared.NormalEnd.{NormalEnd}

-- the list's index, with room for two records more
pub record Linked (work : List ℕ) (count : ℕ) (links : List ℕ) : Type 0 where
  pub index : NodeIndex (nodes (interleaved work) count) links
  pub room : count + 1 < half links

-- the results so far, as two stores hold them
abbrev pub held : List ℕ → ℕ → List ℕ → Replay
held work count map = record { list = nodes (interleaved work) count; map = map }

module _ (field : Field) where
  -- a record and its plan at place i, with earlier results inside a list of `count` records that has room for two more
  pub record Entering (work : List ℕ) (count : ℕ) (map : List ℕ) (i : ℕ) (x : NodeKind) (plan : Option Rewrite) : Type 0 where
    pub sound : Sound field.bounds (interleaved work) count
    pub places : (j : ℕ) → j < i → read map j < count
    pub fits : i ≤ length map
    pub fine : Fine (Low field) i x
    pub plan_fine : PlanFine i plan
    pub room : count + 1 < (interleaved work).room

  -- the store holds the list that the plan gives
  pub record Planned (work : List ℕ) (count : ℕ) (b : Built) (after : List ℕ) (e : Entered) : Type 0 where
    pub kept : length after ≡ length work
    pub sound : Sound field.bounds (interleaved after) e.count
    pub list_is : nodes (interleaved after) e.count ≡ b.list
    pub place_is : e.place ≡ b.place
    pub inside : e.place < e.count
    pub longer : count ≤ e.count
    pub by_two : e.count ≤ count + 2

  -- what a round asks of its stores
  pub record Rounding (s : List ℕ) (n : ℕ) (fan work map : List ℕ) : Type 0 where
    pub sound : Sound field.bounds (interleaved s) n
    pub few : n ≤ most_records
    pub fan_fits : n ≤ length fan
    pub work_fits : 2 * n ≤ (interleaved work).room
    pub map_fits : n ≤ length map

  -- what the first i turns leave there, and whether a rewrite fired in them
  pub record RoundHeld (s : List ℕ) (n : ℕ) (fan : List ℕ) (i : ℕ) (work map : List ℕ) (count : ℕ) (t : Bool) : Type 0 where
    pub holds : Holds field (round field.elements (nodes (interleaved s) n) (read fan) i) i work map count
    pub fired_is : t ≡ fired (nodes (interleaved s) n) (read fan) i

  -- what it leaves there, where a rewrite fired
  pub record RoundEnds (s : List ℕ) (n : ℕ) (fan work map : List ℕ) (r : Option ℕ) : Type 0 where
    pub fired_is : is_some r ≡ fired (nodes (interleaved s) n) (read fan) n
    pub holds : IfSome r (λ count. Holds field (round field.elements (nodes (interleaved s) n) (read fan) n) n work map count)

  -- what one round asks: a list with its roots, and a work store of twice its length
  pub record Ready (s : List ℕ) (n : ℕ) (roots : Roots) (work_room : ℕ) : Type 0 where
    pub sound : Sound field.bounds (interleaved s) n
    pub few : n ≤ most_records
    pub inside : Inside n roots
    pub room : 2 * n ≤ work_room

  -- what a round that is kept leaves of a store that was s
  pub record Shortened (s : List ℕ) (n : ℕ) (roots : Roots) (after : List ℕ) (k : RootedDag) : Type 0 where
    pub sound : Sound field.bounds (interleaved after) k.count
    pub list_is : nodes (interleaved after) k.count ≡ (rounded field.elements (nodes (interleaved s) n) (roots_of roots)).list
    pub roots_are : k.roots ≡ roots_from (rounded field.elements (nodes (interleaved s) n) (roots_of roots)).roots

  -- what a round says and leaves
  pub record Once (s : List ℕ) (n : ℕ) (roots : Roots) (after : List ℕ) (r : Option RootedDag) : Type 0 where
    pub kept_is : is_some r ≡ is_kept field.elements (nodes (interleaved s) n) (roots_of roots)
    pub left : MatchOption r (after ≡ s) (Shortened s n roots after)

  -- the rounds so far: the list in the result store, its roots rs, and k rounds kept
  pub record Running (s : List ℕ) (n : ℕ) (roots : Roots) (result : List ℕ) (count : ℕ) (rs : Roots) (k : ℕ) : Type 0 where
    pub sound : Sound field.bounds (interleaved result) count
    pub inside : Inside count rs
    pub lost : k + count ≤ n
    pub rounds : normalized field (interleaved s) n (roots_of roots) ≡ rounds_from field.elements count (nodes (interleaved result) count) (roots_of rs) k

  -- the store after the rounds
  pub record Ended (s : List ℕ) (n : ℕ) (roots : Roots) (after : List ℕ) (e : NormalEnd) : Type 0 where
    pub sound : Sound field.bounds (interleaved after) e.dag.count
    pub few : e.dag.count ≤ n
    pub list_is : nodes (interleaved after) e.dag.count ≡ (normalized field (interleaved s) n (roots_of roots)).list
    pub roots_are : e.dag.roots ≡ roots_from (normalized field (interleaved s) n (roots_of roots)).roots
    pub rounds_are : e.rounds ≡ (normalized field (interleaved s) n (roots_of roots)).rounds

  -- what is known once Normalise's tests have passed
  pub record Passed (s : List ℕ) (n : ℕ) (roots : Roots) (result_room work_room : ℕ) : Type 0 where
    pub sound : Sound field.bounds (interleaved s) n
    pub few : n ≤ most_records
    pub inside : Inside n roots
    pub result_room_lem : n ≤ result_room
    pub work_room_lem : 2 * n ≤ work_room

  -- the answer and the stores
  pub record Finished (s : List ℕ) (n : ℕ) (roots : Roots) (result work : List ℕ) (a : NormalEnd) (after blanked : List ℕ) : Type 0 where
    pub answer : a ≡ answer_of (normalized field (interleaved s) n (roots_of roots))
    pub list_is : after ≡ stored result (normalized field (interleaved s) n (roots_of roots)).list
    pub work_is : blanked ≡ replicate (length work) blank
