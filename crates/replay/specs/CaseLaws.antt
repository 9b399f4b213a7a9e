-- A call on the stores laid for a case, a case that has room, and one case more.
use Rattle.std.specs.Prelude.{ℕ, ◌+◌, Bool, true, cond, ◌&&◌, List, ◌≡◌, leb}
use Rattle.std.proofs.Math.Bool.{and-eq-true_iff}
use Rattle.std.proofs.Common.{◌∙◌, ap, add-one, leb-true}
use Rattle.recorded.specs.Stream.{word, fit, follows, hold_all}
use Rattle.recorded.specs.declared.Trio.{Trio}
use Rattle.recorded.specs.declared.Reads.{Reads}
use Rattle.recorded.specs.declared.Writes.{Writes}
use Rattle.recorded_calls.specs.Promises.{Asked, case_outcome, read, written}
use Rattle.recorded_calls.specs.declared.Call.{Call}
use Rattle.replay.specs.Cases.{parts_of, laid, answered, room, Within, HasRoom, same, place_of, matched}
use Rattle.replay.specs.declared.Parts.{Parts}

-- a call on the stores laid for a case, and what is held of them then
pub answered_is : (call : Call) (s : List ℕ) (at : ℕ) (q : Parts) {r : Reads} {w u : Writes} {told : Bool} (held : Bool) → read r ≡ laid s q.read → written w ≡ laid s q.written
    → Asked call s at q.said r w told u → held ≡ hold_all s q.held u.a.now u.b.now u.c.now → (told && held) ≡ answered call s at q
unfolding answered
answered_is call s at q {r} {w} held e f h g =
    rw (← e, ← f, h.told, g) (ap (λ k. follows s q.said (case_outcome call s at r w).words && hold_all s q.held k.a k.b k.c) h.after)

fit_within : (s : List ℕ) (t : Trio) (most : ℕ) → fit s t most ≡ true → Within s t most
unfolding fit
fit_within s t most e =
    let u = (and-eq-true_iff (leb (word s t.a) most && leb (word s t.b) most) (leb (word s t.c) most)).0 e in
    let v = (and-eq-true_iff (leb (word s t.a) most) (leb (word s t.b) most)).0 u.0 in
    record { first = leb-true _ most v.0; second = leb-true _ most v.1; third = leb-true _ most u.1 }

pub room_is : (s : List ℕ) (q : Parts) → room s q ≡ true → HasRoom s q
unfolding room
room_is s q e = let both = (and-eq-true_iff (fit s q.read 4096) (fit s q.written 12352)).0 e in record { read = fit_within s _ _ both.0; written = fit_within s _ _ both.1 }

-- one case more
module _ (call : Call) (s : List ℕ) (i at : ℕ) (e : at ≡ place_of call s i) where
  pub place_next : (next : ℕ) → next ≡ (parts_of call s at).next → next ≡ place_of call s (i + 1)
  unfolding place_of
  place_next next q = q ∙ (ap (λ h. (parts_of call s h).next) e ∙ rw (add-one i))

  pub matched_next : (n m : ℕ) (t : Bool) → n ≡ matched call s i → t ≡ same call s at → m ≡ cond t 1 0 → n + m ≡ matched call s (i + 1)
  unfolding matched
  matched_next n m t d q k = rw (add-one i, ← e, ← d, ← q, k)
