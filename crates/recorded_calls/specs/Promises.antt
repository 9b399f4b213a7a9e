-- What a call on lent stores says of its answer and of them.
use Rattle.std.specs.Prelude.{ℕ, Bool, List, ◌≡◌}
use Rattle.recorded.specs.Stream.{follows}
use Rattle.recorded.specs.declared.Reads.{Reads}
use Rattle.recorded.specs.declared.Writes.{Writes}
use Rattle.recorded_calls.specs.Calls.{Stores, stores, number, Outcome, outcome}
use Rattle.recorded_calls.specs.declared.Call.{Call}

-- what lent stores hold
abbrev pub read : Reads → Stores
read r = stores r.a.now r.b.now r.c.now

abbrev pub written : Writes → Stores
written w = stores w.a.now w.b.now w.c.now

-- what a call comes to in the case at a place
abbrev pub case_outcome : Call → List ℕ → ℕ → Reads → Writes → Outcome
case_outcome call s at r w = outcome call (number s at) (read r) (written w)

-- the stores lent are those lent before
pub record SameStores (before after : Writes) : Type 0 where
  pub first : after.a.ghost_name ≡ before.a.ghost_name
  pub second : after.b.ghost_name ≡ before.b.ghost_name
  pub third : after.c.ghost_name ≡ before.c.ghost_name

-- the case at a place, in the stores r that its call reads and w that it writes, which are u after it: whether the answer recorded at `said` is the call's
pub record Asked (call : Call) (s : List ℕ) (at said : ℕ) (r : Reads) (w : Writes) (same : Bool) (u : Writes) : Type 0 where
  pub told : same ≡ follows s said (case_outcome call s at r w).words
  pub after : written u ≡ (case_outcome call s at r w).after
