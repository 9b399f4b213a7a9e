-- Computations run by a builder: what its methods say.
use Rattle.std.specs.Prelude.{ℕ, ◌<◌, ◌≤◌, List, ◌≡◌, length, Result, Ok, Err}
use Rattle.std.specs.Borrow.{GName}
use Rattle.arrayvec.specs.ArrayVec.{ArrayVec}
use Rattle.field.specs.Fields.{Field, field_of}
use Rattle.field.specs.declared.Prime.{Prime}
use Rattle.dag.specs.View.{interleaved}
use Rattle.dag.specs.Nodes.{most_records, nodes}
use Rattle.dag.specs.declared.NodeKind.{NodeKind}
use Rattle.dag.specs.declared.Refusal.{Refusal}
use Rattle.dag.specs.declared.Refusal.TheVariants.{NoRoom}
use Rattle.builder.specs.declared.DagBuilder.{DagBuilder}
use Rattle.periodic.specs.Builder.{Builder}
use Rattle.periodic.specs.Promises.{AllInside}
use Rattle.periodic.specs.declared.PeriodicBuilder.{PeriodicBuilder}

-- the lent stores that a builder writes, by their names: its list's, its index and the index's links, and the words of list and links
pub record Stores : Type 0 where
  pub list : GName
  pub index : GName
  pub links : GName
  pub list_words : ℕ
  pub link_words : ℕ

abbrev pub stores_of : DagBuilder → Stores
stores_of b = record { list = b.list.ghost_name; index = b.index.ghost_name; links = b.index.now.links.ghost_name; list_words = length b.list.now; link_words = length b.index.now.links.now }

-- a prime, a list of so many records over it, and the stores that hold it
pub record State : Type 0 where
  pub prime : Prime
  pub list : List NodeKind
  pub count : ℕ
  pub stores : Stores

-- what a builder holds
abbrev pub held_by : DagBuilder → State
held_by b = record { prime = b.prime; list = nodes (interleaved b.list.now) b.count; count = b.count; stores = stores_of b }

-- a builder without its facts
abbrev pub builder_of : PeriodicBuilder → DagBuilder
builder_of b = record { prime = b.prime; list = b.list; index = b.index; count = b.count }

abbrev pub held : PeriodicBuilder → State
held b = held_by (builder_of b)

-- a list of n records was taken up
pub record Loaded (prime : Prime) (l : List NodeKind) (n : ℕ) (b : State) : Type 0 where
  pub prime_is : b.prime ≡ prime
  pub list_is : b.list ≡ l
  pub count_is : b.count ≡ n

-- the computation m was run on the list of b: c has its list, in the same stores, and a is its answer
pub record Ran {A : Type 0} (b : State) (m : Field → Builder A) (c : State) (a : A) : Type 0 where
  pub prime_is : c.prime ≡ b.prime
  pub stores_are : c.stores ≡ b.stores
  pub longer : b.count ≤ c.count
  pub list_is : c.list ≡ ((m (field_of b.prime)).run b.list).list
  pub answer_is : a ≡ ((m (field_of b.prime)).run b.list).answer

-- its list would be longer than a list may be; c is what was reached
pub record Overlong {A : Type 0} (b : State) (m : Field → Builder A) (c : State) (r : Refusal) : Type 0 where
  pub reason : r ≡ NoRoom
  pub prime_is : c.prime ≡ b.prime
  pub stores_are : c.stores ≡ b.stores
  pub longer : b.count ≤ c.count
  pub long : most_records < length ((m (field_of b.prime)).run b.list).list

-- a place is answered
pub record Entered (b : State) (m : Field → Builder ℕ) (c : State) (a : ℕ) : Type 0 where
  pub ran : Ran b m c a
  pub inside : a < c.count

-- a place, or a refusal
abbrev pub Answered : State → (Field → Builder ℕ) → State → Result ℕ Refusal → Type 0
Answered b m c (Ok a) = Entered b m c a
Answered b m c (Err r) = Overlong b m c r

pub record Entering (b : State) (m : Field → Builder ℕ) (c : State) (r : Result ℕ Refusal) : Type 0 where
  pub told : Answered b m c r

-- n places are answered
pub record Listed (b : State) (m : Field → Builder (List ℕ)) (c : State) (n : ℕ) (ps : List ℕ) : Type 0 where
  pub ran : Ran b m c ps
  pub inside : AllInside c.count ps
  pub many : length ps ≡ n

abbrev pub AllAnswered : State → (Field → Builder (List ℕ)) → State → ℕ → Result (ArrayVec ℕ) Refusal → Type 0
AllAnswered b m c n (Ok ps) = Listed b m c n ps.items
AllAnswered b m c n (Err r) = Overlong b m c r

pub record Listing (b : State) (m : Field → Builder (List ℕ)) (c : State) (n : ℕ) (r : Result (ArrayVec ℕ) Refusal) : Type 0 where
  pub told : AllAnswered b m c n r
