-- A recorded case: its numbers, its stores as lent, the answer, and the written stores after the call; and when it is answered as recorded.
use Rattle.std.specs.Prelude.{ℕ, zero, suc, ◌+◌, ◌≤◌, Bool, cond, ◌&&◌, List}
use Rattle.recorded.specs.Stream.{word, behind, past, places, stored, fit, follows, hold_all}
use Rattle.recorded_calls.specs.Calls.{shape_of, number, Stores, stores, outcome}
use Rattle.recorded.specs.declared.Trio.{Trio}
use Rattle.recorded_calls.specs.declared.Call.{Call}
use Rattle.replay.specs.declared.Parts.{Parts}

-- the parts of the case at a place
unfoldable pub parts_of : Call → List ℕ → ℕ → Parts
parts_of call s at =
    let h = shape_of call in
    let read = behind s at h.numbers in
    let written = past s read 1 h.read in
    let said = past s written 1 h.written in
    let after = behind s said h.answer in
    record { read = places s read 1 h.read; written = places s written 1 h.written; said = said; held = places s after 0 h.written; next = past s after 0 h.written }

-- the stores recorded at three places
abbrev pub laid : List ℕ → Trio → Stores
laid s t = stores (stored s t.a) (stored s t.b) (stored s t.c)

-- the recorded answer is the call's, and so is each written store after it
unfoldable pub answered : Call → List ℕ → ℕ → Parts → Bool
answered call s at q =
    let o = outcome call (number s at) (laid s q.read) (laid s q.written) in
    follows s q.said o.words && hold_all s q.held o.after.a o.after.b o.after.c

-- the arrays that stores are lent from are long enough
unfoldable pub room : List ℕ → Parts → Bool
room s q = fit s q.read 4096 && fit s q.written 12352

-- three stores have at most so many words
pub record Within (s : List ℕ) (t : Trio) (most : ℕ) : Type 0 where
  pub first : word s t.a ≤ most
  pub second : word s t.b ≤ most
  pub third : word s t.c ≤ most

-- the same as facts
pub record HasRoom (s : List ℕ) (q : Parts) : Type 0 where
  pub read : Within s q.read 4096
  pub written : Within s q.written 12352

-- the case at a place has room and is answered as recorded
unfoldable pub same : Call → List ℕ → ℕ → Bool
same call s at = room s (parts_of call s at) && answered call s at (parts_of call s at)

-- the place of case n
unfoldable pub place_of : Call → List ℕ → ℕ → ℕ
place_of call s zero = 0
place_of call s (suc n) = (parts_of call s (place_of call s n)).next

-- how many of the first n cases are answered as recorded
unfoldable pub matched : Call → List ℕ → ℕ → ℕ
matched call s zero = 0
matched call s (suc n) = matched call s n + cond (same call s (place_of call s n)) 1 0
