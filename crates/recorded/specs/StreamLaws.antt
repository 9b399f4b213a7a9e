-- Places of a stream.
use Rattle.std.specs.Prelude.{ℕ, min, ◌+◌, ◌≤◌, List, ◌≡◌, cond, leb, length}
use Rattle.std.proofs.Common.{add-one, arith, le-leb}
use Rattle.std.proofs.lemmas.Bool.{lt-leb}
use Rattle.std.proofs.Math.Decide.{dec_le}
use Rattle.recorded.specs.Stream.{behind, past_store, past}

pub behind_is : (s : List ℕ) (at k : ℕ) → behind s at k ≡ min (at + k) (length s)
unfolding behind
behind_is s at k = go (dec_le (length s) (at + k))
  where
    go : Dec (length s ≤ at + k) → cond (leb (length s) (at + k)) (length s) (at + k) ≡ min (at + k) (length s)
    go (yes h) = rw (le-leb (length s) (at + k) h) (omega arith)
    go (no h) = rw (lt-leb (length s) (at + k) (omega arith)) (omega arith)

pub behind_twice : (s : List ℕ) (at k j : ℕ) → behind s (behind s at k) j ≡ behind s at (k + j)
behind_twice s at k j = rw (behind_is s (behind s at k) j, behind_is s at k, behind_is s at (k + j)) (omega arith)

-- one store more
pub past_more : (s : List ℕ) (at head k : ℕ) → past s at head (k + 1) ≡ past_store s (behind s (past s at head k) head)
unfolding past
past_more s at head k = rw (add-one k)
