-- An index of entries by their keys.
use Rattle.std.specs.Prelude.{ℕ, ◌*◌, ◌<◌, ◌≤◌, ◌≡◌, List}
use Rattle.dag.specs.Nodes.{most_records}
use Rattle.index.specs.Index.{half, hash, bucket_of, Usable, Indexed}
use Rattle.entries.specs.Entries.{Lent, key_at}

-- one of b buckets for a key
abbrev pub key_bucket : ℕ → ℕ → ℕ
key_bucket b key = bucket_of b (hash 0 key 0)

-- links index the first n entries
pub record Keyed (width : ℕ) (e : List ℕ) (n : ℕ) (links : List ℕ) : Type 0 where
  pub usable : Usable links
  pub room : n ≤ half links
  pub indexed : Indexed (half links) (λ i. key_bucket (half links) (key_at width e i)) n links

-- n entries in a store, and links that index them
pub record Lookup (width : ℕ) (e : List ℕ) (n : ℕ) (links : List ℕ) : Type 0 where
  pub lent : Lent width e n
  pub keyed : Keyed width e n links

-- stores that hold something of n records, and an index of m entries
pub record Sized (values links n m : ℕ) : Type 0 where
  pub double : links ≡ 2 * values
  pub some : 0 < values
  pub few : values ≤ most_records
  pub records : n ≤ values
  pub entries : m ≤ values
