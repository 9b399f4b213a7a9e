-- What a store of records holds, whatever its layout, and the layout that there is.
use Rattle.std.specs.Prelude.{ℕ, ◌+◌, ◌*◌, ◌/◌, ◌<◌, List, ◌≡◌, get_or, length}

-- a store of records: how many it has room for, and the three words of the record at a place
pub record View : Type 0 where
  pub room : ℕ
  pub tag_word : ℕ → ℕ
  pub first_word : ℕ → ℕ
  pub second_word : ℕ → ℕ

-- three words a record, side by side in one store
unfoldable pub interleaved : List ℕ → View
interleaved s =
    record {
      room = length s / 3;
      tag_word = λ i. get_or s (3 * i) 0;
      first_word = λ i. get_or s (3 * i + 1) 0;
      second_word = λ i. get_or s (3 * i + 2) 0;
    }

-- two stores hold the same words in their first n records
pub record Agree (u v : View) (n : ℕ) : Type 0 where
  pub tags : (i : ℕ) → i < n → u.tag_word i ≡ v.tag_word i
  pub firsts : (i : ℕ) → i < n → u.first_word i ≡ v.first_word i
  pub seconds : (i : ℕ) → i < n → u.second_word i ≡ v.second_word i
