-- What the functions of text say: more written behind a text, and a text written whole.
use Rattle.std.specs.Prelude.{ℕ, ◌+◌, ◌≤◌, List, ◌++◌, ◌≡◌, length, take, drop}
use Rattle.text.specs.Text.{laid}
use Rattle.text.specs.declared.Text.{Text}

-- a store with a text in it from a place on
unfoldable pub over : List ℕ → ℕ → List ℕ → List ℕ
over s at text = take at s ++ text ++ drop (at + length text) s

-- there is room for more behind a text
abbrev pub HasRoom : Text → List ℕ → Type 0
HasRoom t more = t.len + length more ≤ length t.store.now

-- what writing more behind a text t gives, the text u: more fits, the same store holds it, and u is so much longer
pub record Wrote (t : Text) (more : List ℕ) (u : Text) : Type 0 where
  pub same_reference : u.store.ghost_name ≡ t.store.ghost_name
  pub room : t.len + length more ≤ length t.store.now
  pub store_is : u.store.now ≡ over t.store.now t.len more
  pub same_length : length u.store.now ≡ length t.store.now
  pub len_is : u.len ≡ t.len + length more

-- a text written whole: the store holds it, then 0 bytes, and the answer is its length
pub record Laid (s text after : List ℕ) (r : ℕ) : Type 0 where
  pub store_is : after ≡ laid (length s) text
  pub length_is : r ≡ length text
  pub fits : length text ≤ length s

-- the first n bytes of a buffer are an input's: all of them, or as many as the buffer holds
abbrev pub Read : List ℕ → List ℕ → ℕ → Type 0
Read input buffer n = take (length buffer) input ≡ take n buffer

-- whatever input was read into a buffer, the text that is made of it is written whole
abbrev pub Writes : (List ℕ → List ℕ) → List ℕ → ℕ → List ℕ → List ℕ → ℕ → Type 0
Writes made buffer n before after r = (input : List ℕ) → Read input buffer n → Laid before (made input) after r
