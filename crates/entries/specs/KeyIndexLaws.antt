-- The index of entries as they are noted, and the walk along a key's bucket.
use Rattle.std.specs.Prelude.{ℕ, ◌+◌, ◌*◌, ◌/◌, ◌≤◌, ◌<◌, Bool, List, Option, ◌≡◌, eqb, get_or, length, replicate}
use Rattle.std.proofs.Math.Path.{ap}
use Rattle.std.proofs.Common.{sym, ◌∙◌, mul-le-mul_left, add-one, arith, eqb-true}
use Rattle.std.proofs.lemmas.List.{length-replicate}
use Rattle.dag.specs.BlankLaws.{all_zero}
use Rattle.dag.specs.Nodes.{three}
use Rattle.dag.specs.declared.NodeKind.TheVariants.{Input}
use Rattle.dag.specs.declared.Words.{Words}
use Rattle.index.specs.Index.{half, noted, hash, bucket_of, Usable, Sought}
use Rattle.index.specs.IndexLaws.{indexed_none, indexed_noted, length_noted}
use Rattle.index.specs.NodeIndexLaws.{node_inside}
use Rattle.entries.specs.Entries.{Lent, key_at, entry_of}
use Rattle.entries.specs.EntryLaws.{key_room}
use Rattle.entries.specs.KeyIndex.{key_bucket, Keyed, Lookup, Sized}

-- links of zeros index no entry
pub keyed_none : (width : ℕ) (e links : List ℕ) → Usable links → ((k : ℕ) → get_or links k 0 ≡ 0) → Keyed width e 0 links
keyed_none width e links u z =
    record { usable = u; room = omega arith; indexed = indexed_none (half links) (λ i. key_bucket (half links) (key_at width e i)) links z }

-- one entry more
pub keyed_next : (width : ℕ) (e : List ℕ) (n : ℕ) (links : List ℕ) (k : ℕ) (after : List ℕ) → Keyed width e n links → n < half links
    → k ≡ key_bucket (half links) (key_at width e n) → after ≡ noted links n k → Keyed width e (n + 1) after
keyed_next width e n links k after d room is ea =
    let same : half after ≡ half links = ap (λ l. length l / 2) ea ∙ ap (λ j. j / 2) (length_noted links n k) in
    let new = indexed_noted links (λ i. key_bucket (half links) (key_at width e i)) n k room (rw is (node_inside (half links) 0 (key_at width e n) 0 d.usable.some)) (sym is) d.indexed in
    rw add-one
    record {
      usable = record { some = rw same d.usable.some; few = rw same d.usable.few };
      room = rw same room;
      indexed = rw (same, ea) new;
    }

-- the first entries of those lent
pub lent_first : (width : ℕ) (e : List ℕ) (n k : ℕ) → k ≤ n → Lent width e n → Lent width e k
lent_first width e n k h d = record { wide = d.wide; room = omega (arith, d.room, mul-le-mul_left width h) }

-- what a search for a key seeks along its bucket, by a test and a search of which this is known
module _ (width : ℕ) (e : List ℕ) (n : ℕ) (links : List ℕ) (key : ℕ) (d : Lookup width e n links) where
  -- entry i has the key
  abbrev pub here : ℕ → Bool
  here i = eqb (key_at width e i) key

  pub seeks : (k : ℕ) (w : Words) → k ≡ bucket_of (half links) (hash w.tag w.first w.second) → w ≡ three (Input key)
      → (may_test : ℕ → Type 0) (tested : ℕ → Bool → Type 0) (may_search : ℕ → Type 0) (searched : ℕ → Option ℕ → Type 0)
      → ((i : ℕ) → width * i < length e → may_test i) → ((i : ℕ) (b : Bool) → tested i b → b ≡ here i)
      → ((i : ℕ) → Lent width e i → may_search i) → ((i : ℕ) (r : Option ℕ) → searched i r → r ≡ entry_of width e i key)
      → Sought here n links k may_test tested may_search searched
  unfolding entry_of
  seeks k w ek ew may_test tested may_search searched test test_is search_at search_is =
      record {
        bucket = λ i. key_bucket (half links) (key_at width e i);
        indexed = d.keyed.indexed;
        inside = rw (ek, ew) (node_inside (half links) 0 key 0 d.keyed.usable.some);
        few = d.keyed.room;
        only = λ i j q. ap (key_bucket (half links)) (eqb-true (key_at width e i) key q) ∙ sym (ek ∙ rw ew);
        test = λ i j. test i (key_room width e n d.lent i j);
        test_is = λ i b j p. test_is i b p;
        search_at = λ i j. search_at i (lent_first width e n i j d.lent);
        search_is = λ i r j p. search_is i r p;
      }

-- a new index
module _ {values links n m : ℕ} (z : Sized values links n m) where
  pub links_room : m ≤ half (replicate links 0)
  links_room = omega (arith, z.double, z.entries, length-replicate {A = ℕ} links 0)

  pub links_keyed : (width : ℕ) (e : List ℕ) → Keyed width e 0 (replicate links 0)
  links_keyed width e =
      let a = length-replicate {A = ℕ} links 0 in
      keyed_none width e (replicate links 0)
      (record { some = omega (arith, z.double, z.some); few = omega (arith, z.double, z.few) }) (all_zero links)
