-- A stream of 64-bit words, lowest byte first, and the stores recorded in it (rust/differential/src/record.rs).
use Rattle.std.specs.Prelude.{ℕ, zero, suc, ◌+◌, ◌*◌, ◌/◌, ◌==◌, Bool, cond, ◌&&◌, List, leb, ltb, get_or, length, map}
use Rattle.std.specs.List.{list_all, enumerate_from, range_with_len}
use Rattle.recorded.specs.declared.Trio.{Trio}

-- the four bytes from place i on
unfoldable pub half : List ℕ → ℕ → ℕ
half s i = get_or s i 0 + 256 * get_or s (i + 1) 0 + 65536 * get_or s (i + 2) 0 + 16777216 * get_or s (i + 3) 0

-- word i; 0 where the stream has no such word
unfoldable pub word : List ℕ → ℕ → ℕ
word s i = cond (leb (length s / 8) i) 0 (half s (8 * i) + 4294967296 * half s (8 * i + 4))

-- the place k words behind a place, at most the stream's length
unfoldable pub behind : List ℕ → ℕ → ℕ → ℕ
behind s i k = cond (leb (length s) (i + k)) (length s) (i + k)

-- word i of the store recorded at a place: a filling word, the number of words given, and those words
unfoldable pub given : List ℕ → ℕ → ℕ → ℕ
given s at i = cond (ltb i (word s (behind s at 1))) (word s (behind s at (2 + i))) (word s at)

-- the store recorded as lent at a place: its length, and then its words
unfoldable pub stored : List ℕ → ℕ → List ℕ
stored s at = map (given s (behind s at 1)) (range_with_len 0 (word s at))

-- the place behind the store recorded at a place
unfoldable pub past_store : List ℕ → ℕ → ℕ
past_store s at = behind s (behind s at 2) (word s (behind s at 1))

-- the place behind k stores, each with so many words before its filling word
unfoldable pub past : List ℕ → ℕ → ℕ → ℕ → ℕ
past s at head zero = at
past s at head (suc k) = past_store s (behind s (past s at head k) head)

-- the place of store k of so many, or the stream's end
unfoldable pub store_at : List ℕ → ℕ → ℕ → ℕ → ℕ → ℕ
store_at s at head k count = cond (ltb k count) (past s at head k) (length s)

-- the places of three stores of so many
unfoldable pub places : List ℕ → ℕ → ℕ → ℕ → Trio
places s at head count = record { a = store_at s at head 0 count; b = store_at s at head 1 count; c = store_at s at head 2 count }

-- the stores lent at three places have at most so many words
unfoldable pub fit : List ℕ → Trio → ℕ → Bool
fit s t most = leb (word s t.a) most && leb (word s t.b) most && leb (word s t.c) most

-- a store is what is recorded of it
unfoldable pub holds : List ℕ → ℕ → List ℕ → Bool
holds s at store = list_all (λ p. p.1 == given s at p.0) (enumerate_from 0 store) && leb (word s (behind s at 1)) (length store)

-- three stores are what is recorded of them
unfoldable pub hold_all : List ℕ → Trio → List ℕ → List ℕ → List ℕ → Bool
hold_all s t a b c = holds s t.a a && holds s t.b b && holds s t.c c

-- words are those recorded from a place on
unfoldable pub follows : List ℕ → ℕ → List ℕ → Bool
follows s at words = list_all (λ p. p.1 == word s (behind s at p.0)) (enumerate_from 0 words)
