-- An index of places by bucket, in one store: its first half holds each bucket's greatest place, its second half, for each place, the next lower place of the same bucket. A link is a place plus 1, or 0 for none.
use Rattle.std.specs.Prelude.{ℕ, zero, suc, ◌+◌, ◌*◌, ◌/◌, ◌%◌, ◌^◌, ◌<◌, ◌≤◌, cond, Bool, true, Option, List, ◌≡◌, eqb, get_or, length, set}
use Rattle.dag.specs.View.{View}
use Rattle.dag.specs.Lookup.{greatest}
use Rattle.dag.specs.Nodes.{tag, first, second, at}
use Rattle.dag.specs.declared.NodeKind.{NodeKind}

-- the link to the greatest place below n whose bucket is k
unfoldable pub latest : (ℕ → ℕ) → ℕ → ℕ → ℕ
latest bucket zero k = 0
latest bucket (suc n) k = cond (eqb (bucket n) k) (suc n) (latest bucket n k)

-- the buckets of a store of links: half of its words
abbrev pub half : List ℕ → ℕ
half links = length links / 2

-- b buckets of links index the first n places by their bucket
pub record Indexed (b : ℕ) (bucket : ℕ → ℕ) (n : ℕ) (links : List ℕ) : Type 0 where
  pub heads : (k : ℕ) → k < b → get_or links k 0 ≡ latest bucket n k
  pub nexts : (i : ℕ) → i < n → get_or links (b + i) 0 ≡ latest bucket i (bucket i)

-- links with place n noted in bucket k
unfoldable pub noted : List ℕ → ℕ → ℕ → List ℕ
noted links n k = set (set links (half links + n) (get_or links k 0)) k (n + 1)

-- the hash of three words; nothing is shown by which it is
abbrev pub hash : ℕ → ℕ → ℕ → ℕ
hash t a b = (a % 2 ^ 32 * 1013904243 + a / 2 ^ 32 * 965271753 + b % 2 ^ 32 * 736899889 + t % 8 * 889516853) % 2 ^ 32

-- one of b buckets by a hash
unfoldable pub bucket_of : ℕ → ℕ → ℕ
bucket_of b h = h * b / 2 ^ 32

-- one of b buckets for a record
abbrev pub node_bucket : ℕ → NodeKind → ℕ
node_bucket b x = bucket_of b (hash (tag x) (first x) (second x))

-- one of b buckets for the words of the record at place i of a store
abbrev pub word_bucket : ℕ → View → ℕ → ℕ
word_bucket b s i = bucket_of b (hash (s.tag_word i) (s.first_word i) (s.second_word i))

-- a store of links that an index can use
pub record Usable (links : List ℕ) : Type 0 where
  pub some : 0 < half links
  pub few : half links ≤ 2 ^ 32

-- links index the records of a list
pub record NodeIndex (l : List NodeKind) (links : List ℕ) : Type 0 where
  pub usable : Usable links
  pub room : length l ≤ half links
  pub indexed : Indexed (half links) (λ i. node_bucket (half links) (at l i)) (length l) links

-- what is sought along bucket k: the greatest of `count` places where `hit` holds. The places are indexed by their bucket, and only those of
-- bucket k hit. At each a test may be asked, which says whether it hits, and below each a search, which says where.
pub record Sought (hit : ℕ → Bool) (count : ℕ) (links : List ℕ) (k : ℕ) (may_test : ℕ → Type 0) (tested : ℕ → Bool → Type 0) (may_search : ℕ → Type 0) (searched : ℕ → Option ℕ → Type 0) : Type 0 where
  pub bucket : ℕ → ℕ
  pub indexed : Indexed (half links) bucket count links
  pub inside : k < half links
  pub few : count ≤ half links
  pub only : (i : ℕ) → i < count → hit i ≡ true → bucket i ≡ k
  pub test : (i : ℕ) → i < count → may_test i
  pub test_is : (i : ℕ) (b : Bool) → i < count → tested i b → b ≡ hit i
  pub search_at : (i : ℕ) → i ≤ count → may_search i
  pub search_is : (i : ℕ) (r : Option ℕ) → i ≤ count → searched i r → r ≡ greatest hit i
