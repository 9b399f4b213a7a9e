-- Stores of records: what a store holds once a record or a list is written into it, and what the tests of a list give.
use Rattle.std.specs.Prelude.{ℕ, ◌+◌, ◌*◌, ◌-◌, ◌≤◌, Bool, ◌&&◌, List, ◌++◌, eqb, ◌≡◌, length, set, take, drop, replicate, Ok, Option}
use Rattle.field.specs.Fields.{Bounds}
use Rattle.dag.specs.View.{View, Agree}
use Rattle.dag.specs.Nodes.{tag, first, second, words_at, words_of, filled, blank}
use Rattle.dag.specs.Check.{room_check, records_check}
use Rattle.dag.specs.Lookup.{greatest}
use Rattle.dag.specs.declared.NodeKind.{NodeKind}
use Rattle.dag.specs.declared.Words.{Words}

-- a store with the words t, a, b at place i
abbrev pub put_words : List ℕ → ℕ → ℕ → ℕ → ℕ → List ℕ
put_words s i t a b = set (set (set s (3 * i) t) (3 * i + 1) a) (3 * i + 2) b

-- a store with the record x at place i
unfoldable pub put : List ℕ → ℕ → NodeKind → List ℕ
put s i x = put_words s i (tag x) (first x) (second x)

-- the words of a store's first n records
unfoldable pub front : ℕ → List ℕ → List ℕ
front n s = take (3 * n) s

-- the words behind them
unfoldable pub behind : ℕ → List ℕ → List ℕ
behind n s = drop (3 * n) s

-- a store that begins with a list's words, and is as it was behind them
unfoldable pub written : List ℕ → List NodeKind → List ℕ
written s l = words_of l ++ behind (length l) s

-- a store that holds a list, blanks behind it
unfoldable pub stored : List ℕ → List NodeKind → List ℕ
stored s l = filled (length s) (words_of l)

-- a store d with the first i words of s at its start
unfoldable pub copied : List ℕ → List ℕ → ℕ → List ℕ
copied s d i = take i s ++ drop i d

-- a store d with the first n records of s at its start
unfoldable pub copied_records : List ℕ → List ℕ → ℕ → List ℕ
copied_records s d n = copied s d (3 * n)

-- a store with blanks behind its first n records
unfoldable pub blanked_behind : List ℕ → ℕ → List ℕ
blanked_behind s n = take (3 * n) s ++ replicate (length s - 3 * n) blank

-- two stores, of whatever layout, that are alike as far as n records: both have room for them or neither has, and they hold the same words
pub record Alike (u v : View) (n : ℕ) : Type 0 where
  pub rooms : room_check n u.room ≡ room_check n v.room
  pub words : Agree u v n

-- these words are those
abbrev pub equal_words : Words → Words → Bool
equal_words v w = eqb v.tag w.tag && (eqb v.first w.first && eqb v.second w.second)

-- the record at place i has the words w
unfoldable pub words_are : View → ℕ → Words → Bool
words_are s i w = equal_words (words_at s i) w

-- the greatest place below n whose words are w
abbrev pub lookup_words : View → Words → ℕ → Option ℕ
lookup_words s w = greatest (λ i. words_are s i w)

-- the first n records of a store pass the tests at the bounds m
pub record Sound (m : Bounds) (s : View) (n : ℕ) : Type 0 where
  pub room : n ≤ s.room
  pub good : records_check m s n ≡ Ok tt

-- n records of a store whatever the field: room for them, words that decode, operands that come earlier
abbrev pub Records : View → ℕ → Type 0
Records s n = (m : Bounds) × Sound m s n
