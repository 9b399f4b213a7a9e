-- A short list in the first cells of an array.
use Rattle.std.specs.Prelude.{ℕ, ◌-◌, ◌≤◌, List, ◌++◌, ◌≡◌, length, take, replicate}
use Rattle.std.proofs.Common.{sym, ◌∙◌, ap, arith, length-take-le}

-- n cells, of which the first k are a list's and the others z
pub record Celled {A : Type 0} (z : A) (n k : ℕ) (cells : List A) : Type 0 where
  pub few : k ≤ n
  pub long : length cells ≡ n
  pub behind : cells ≡ take k cells ++ replicate (n - k) z

-- the cells of a list
abbrev pub cells_of : {A : Type 0} → A → ℕ → List A → List A
cells_of z n xs = xs ++ replicate (n - length xs) z

-- a list gives its cells back
module _ {A : Type 0} (z : A) (n k : ℕ) (cells : List A) (h : Celled z n k cells) where
  pub celled_length : length (take k cells) ≡ k
  celled_length = length-take-le k cells (omega (arith, h.few, h.long))

  pub celled_cells : cells_of z n (take k cells) ≡ cells
  celled_cells = ap (λ i. take k cells ++ replicate (n - i) z) celled_length ∙ sym h.behind
