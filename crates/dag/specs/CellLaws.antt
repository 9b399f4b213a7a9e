-- A list in cells with one element more.
use Rattle.std.specs.Prelude.{ℕ, ◌+◌, ◌-◌, ◌<◌, List, [], ◌∷◌, ◌++◌, ◌≡◌, length, take, replicate}
use Rattle.std.proofs.Common.{sym, ◌∙◌, ap, arith}
use Rattle.std.proofs.Math.ListN.{set}
use Rattle.std.proofs.Math.Seq.{take-append_seam}
use Rattle.std.proofs.lemmas.List.{length-append, length-set}
use Rattle.dag.specs.Arrays.{padded}
use Rattle.dag.specs.ArrayLaws.{padded_set}
use Rattle.dag.specs.Cells.{Celled, cells_of, celled_length, celled_cells}

module _ {A : Type 0} (z : A) (n k : ℕ) (cells : List A) (h : Celled z n k cells) (room : k < n) (x : A) where
  more : List A
  more = take k cells ++ (x ∷ [])

  more_length : length more ≡ k + 1
  unfolding more
  more_length = length-append (take k cells) (x ∷ []) ∙ ap (λ i. i + 1) (celled_length z n k cells h)

  set_is : set cells k x ≡ cells_of z n more
  unfolding more padded
  set_is =
      ap (λ ys. set ys k x) (sym (celled_cells z n k cells h))
      ∙ (ap (λ i. set (cells_of z n (take k cells)) i x) (sym (celled_length z n k cells h))
      ∙ padded_set z n (take k cells) x (omega (arith, celled_length z n k cells h)))

  front_is : take (k + 1) (set cells k x) ≡ more
  front_is =
      ap (take (k + 1)) set_is
      ∙ (ap (λ i. take i (cells_of z n more)) (sym more_length)
      ∙ take-append_seam more (replicate (n - length more) z))

  pub celled_set : Celled z n (k + 1) (set cells k x)
  celled_set =
      record {
        few = omega arith;
        long = length-set cells k x ∙ h.long;
        behind = set_is ∙ (ap (λ i. more ++ replicate (n - i) z) more_length ∙ ap (λ ys. ys ++ replicate (n - (k + 1)) z) (sym front_is));
      }
