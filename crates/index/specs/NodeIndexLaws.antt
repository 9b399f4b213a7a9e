-- The index of a list's records.
use Rattle.field.specs.Fields.{Bounds}
use Rattle.std.specs.Prelude.{ℕ, zero, suc, ◌+◌, ◌*◌, ◌/◌, ◌^◌, ◌<◌, ◌≤◌, Bool, true, ◌&&◌, List, [], ◌∷◌, ◌++◌, ◌⊎◌, ◌≡◌, get_or, length, replicate, Option}
use Rattle.std.proofs.Common.{inl, inr, sym, ◌∙◌, ap₂, mul-lt-mul_of_pos_right, mul-le-mul, add-one, arith}
use Rattle.std.proofs.Math.Path.{ap}
use borrow.Author.Tests.{eqb-true}
use Rattle.std.proofs.Math.Dec.{eqb}
use Rattle.std.proofs.lemmas.List.{length-replicate}
use Rattle.dag.specs.View.{View}
use Rattle.dag.specs.BlankLaws.{all_zero}
use Rattle.dag.specs.CaseLaws.{and_true, below_suc}
use Rattle.dag.specs.Nodes.{tag, first, second, three, at, nodes, record_at}
use Rattle.dag.specs.NodeLaws.{at_left, at_last, at_nodes, length_nodes, length_snoc}
use Rattle.dag.specs.Lookup.{greatest, lookup}
use Rattle.dag.specs.Store.{Sound, words_are}
use Rattle.dag.specs.StoreLaws.{lookup_whole, tag_word_lem, first_word_lem, second_word_lem, sound_less}
use Rattle.dag.specs.declared.NodeKind.{NodeKind}
use Rattle.dag.specs.declared.Words.{Words}
use Rattle.index.specs.Index.{half, Indexed, noted, hash, bucket_of, node_bucket, word_bucket, Usable, NodeIndex, Sought}
use Rattle.index.specs.IndexLaws.{indexed_agree, indexed_none, indexed_noted, length_noted}

-- the same words have the same bucket
pub same_bucket : (n : ℕ) {t a b u v w : ℕ} → t ≡ u → a ≡ v → b ≡ w → bucket_of n (hash t a b) ≡ bucket_of n (hash u v w)
same_bucket n {t} {a} {b} {u} {v} {w} p q r =
    ap (λ x. bucket_of n (hash x a b)) p ∙ (ap (λ x. bucket_of n (hash u x b)) q ∙ ap (λ x. bucket_of n (hash u v x)) r)

pub hash_below : (t a b : ℕ) → hash t a b < 2 ^ 32
hash_below t a b = omega arith

pub bucket_below : (b h : ℕ) → 0 < b → h < 2 ^ 32 → bucket_of b h < b
unfolding bucket_of
bucket_below b h some few = let k : h * b < 4294967296 * b = mul-lt-mul_of_pos_right few some in omega (arith, k)

pub product_fits : (h b : ℕ) → h < 2 ^ 32 → b ≤ 2 ^ 32 → h * b < 2 ^ 64
product_fits h b few small =
    let g : h ≤ 4294967295 = omega arith in
    let k : h * b ≤ 4294967295 * 4294967296 = mul-le-mul g small in
    omega (arith, k)

pub node_inside : (b t u v : ℕ) → 0 < b → bucket_of b (hash t u v) < b
node_inside b t u v h = bucket_below b (hash t u v) h (hash_below t u v)

-- an empty index
pub index_none : (links : List ℕ) → Usable links → (after : List ℕ) → after ≡ replicate (length links) 0 → NodeIndex [] after
index_none links u after e =
    let k : length after ≡ length links = ap length e ∙ length-replicate (length links) zero in
    record {
      usable = record { some = rw k u.some; few = rw k u.few };
      room = omega arith;
      indexed = indexed_none (half after) (λ i. node_bucket (half after) (at [] i)) after (λ i. let z : get_or after i 0 ≡ 0 = rw e (all_zero (length links) i) in z);
    }

-- one record more
module _ (l : List NodeKind) (links : List ℕ) (x : NodeKind) (d : NodeIndex l links) (room : length l < half links) where
  pub index_more : NodeIndex (l ++ (x ∷ [])) (noted links (length l) (node_bucket (half links) x))
  index_more =
      let k : half (noted links (length l) (node_bucket (half links) x)) ≡ half links = ap (λ j. j / 2) (length_noted links (length l) (node_bucket (half links) x)) in
      let old = indexed_agree (half links) (λ i. node_bucket (half links) (at l i)) (λ i. node_bucket (half links) (at (l ++ (x ∷ [])) i)) (length l) links (λ i h. ap (node_bucket (half links)) (sym (at_left l (x ∷ []) i h))) d.indexed in
      let new = indexed_noted links (λ i. node_bucket (half links) (at (l ++ (x ∷ [])) i)) (length l) (node_bucket (half links) x) room (node_inside (half links) (tag x) (first x) (second x) d.usable.some) (ap (node_bucket (half links)) (at_last l x)) old in
      record {
        usable = record { some = rw k d.usable.some; few = rw k d.usable.few };
        room = rw (k, length_snoc l x) room;
        indexed = rw (k, length_snoc l x) new;
      }

-- the record at place i of a store, behind those before it
pub index_next : (m : Bounds) (s : View) (n i : ℕ) (links after : List ℕ) → Sound m s n → i < n → n ≤ half links → NodeIndex (nodes s i) links
    → after ≡ noted links i (word_bucket (half links) s i)
    → NodeIndex (nodes s (i + 1)) after
unfolding nodes
index_next m s n i links after sound h room d e =
    let in_list : length (nodes s i) < half links = rw (length_nodes s i) (omega arith) in
    let same = same_bucket (half links) (tag_word_lem m s n sound i h) (first_word_lem m s n sound i h) (second_word_lem m s n sound i h) in
    let is : after ≡ noted links (length (nodes s i)) (node_bucket (half links) (record_at s i)) = e ∙ ap₂ (noted links) (sym (length_nodes s i)) (sym same) in
    rw (add-one i, is) (index_more (nodes s i) links (record_at s i) d in_list)

-- the first of n records that pass
pub sound_first : (m : Bounds) (s : View) (n k : ℕ) → k ≤ n → Sound m s n → Sound m s k
sound_first m s zero k h d = let e : k ≡ 0 = omega arith in rw e d
sound_first m s (suc n) k h d = go (below_suc k (suc n) (omega arith)) (λ j. sound_first m s n k j (sound_less m s n d))
  where
    go : (k < suc n) ⊎ (k ≡ suc n) → (k ≤ n → Sound m s k) → Sound m s k
    go (inl j) before = before (omega arith)
    go (inr e) before = rw e d

-- what a lookup of the words v of a record seeks
module _ (s : View) (n : ℕ) (links : List ℕ) (v : Words) where
  -- the record at place i has those words
  unfoldable pub here : ℕ → Bool
  here i = words_are s i v

  -- the bucket of the record at place i
  unfoldable pub bucket : ℕ → ℕ
  bucket i = node_bucket (half links) (at (nodes s n) i)

  module _ (m : Bounds) (sound : Sound m s n) (d : NodeIndex (nodes s n) links) where
    pub only : (i : ℕ) → i < n → here i ≡ true → bucket i ≡ bucket_of (half links) (hash v.tag v.first v.second)
    unfolding here bucket words_are
    only i h e =
        let p = and_true (eqb (s.tag_word i) v.tag) (eqb (s.first_word i) v.first && eqb (s.second_word i) v.second) e in
        let q = and_true (eqb (s.first_word i) v.first) (eqb (s.second_word i) v.second) p.1 in
        ap (node_bucket (half links)) (at_nodes s n i h)
        ∙ same_bucket (half links) (tag_word_lem m s n sound i h ∙ eqb-true (s.tag_word i) v.tag p.0) (first_word_lem m s n sound i h ∙ eqb-true (s.first_word i) v.first q.0)
        (second_word_lem m s n sound i h ∙ eqb-true (s.second_word i) v.second q.1)

    pub by_bucket : Indexed (half links) bucket n links
    unfolding bucket
    by_bucket = rw (length_nodes s n) at d.indexed

    -- the search of the places below is the lookup there, and so is the whole one
    pub lookup_below : (x : NodeKind) → v ≡ three x → (k : ℕ) → k ≤ n → greatest here k ≡ lookup (nodes s k) x k
    unfolding here
    lookup_below x e k h = lookup_whole m s k x v (sound_first m s n k h sound) e

    -- what a lookup of x seeks along its bucket, by a test and a search of which this is known
    pub seeks : (x : NodeKind) → v ≡ three x → (k : ℕ) → k ≡ bucket_of (half links) (hash v.tag v.first v.second)
        → (may_test : ℕ → Type 0) (tested : ℕ → Bool → Type 0) (may_search : ℕ → Type 0) (searched : ℕ → Option ℕ → Type 0)
        → ((i : ℕ) → i < s.room → may_test i) → ((i : ℕ) (b : Bool) → tested i b → b ≡ words_are s i v)
        → ((i : ℕ) → Sound m s i → may_search i) → ((i : ℕ) (r : Option ℕ) → searched i r → r ≡ lookup (nodes s i) x i)
        → Sought here n links k may_test tested may_search searched
    unfolding here
    seeks x e k ek may_test tested may_search searched test test_is search_at search_is =
        record {
          bucket = bucket;
          indexed = by_bucket;
          inside = rw ek (node_inside (half links) v.tag v.first v.second d.usable.some);
          few = omega (arith, d.room, length_nodes s n);
          only = λ i j f. only i j f ∙ sym ek;
          test = λ i j. test i (omega (arith, sound.room));
          test_is = λ i b j p. test_is i b p;
          search_at = λ i j. search_at i (sound_first m s n i j sound);
          search_is = λ i r j p. search_is i r p ∙ sym (lookup_below x e i j);
        }
