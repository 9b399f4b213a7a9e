-- the sum of the products of the words before what is left, each with the next; what is left is never all gone
use Rattle.std.proofs.Common.{◌≡◌, ◌-◌, ◌≤◌, length, drop}
use Rattle.std.specs.Slice.Iter.{windows_size, windows_rest}
use Rattle.products.specs.Products as Products
use Rattle.products.proofs.independent.Given as goal

abbrev pub invariant-loop-pair : goal.invariant-loop-pair
invariant-loop-pair l =
    let rest = windows_rest l.pair-iterator in
    let i = length l.words - length rest in
    (windows_size l.pair-iterator ≡ 2)
    × (length rest ≤ length l.words)
    × (rest ≡ drop i l.words)
    × (i ≤ length l.words - 1)
    × (l.sum ≡ Products.independent l.prime l.words i)
