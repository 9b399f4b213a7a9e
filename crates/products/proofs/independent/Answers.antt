-- `products::independent` meets its contract, window by window.
use Rattle.std.proofs.Common.{rules, arith, refl, sym, ◌≡◌, ◌+◌, ◌-◌, length}
use Rattle.std.specs.Slice.Iter.{windows_size, windows_rest}
use Rattle.std.proofs.lemmas.Iterator.{window_more}
use Rattle.products.specs.Turns.{sum_none, sum_more}
use Rattle.products.proofs.independent.Goals as goal

pub loop-pair-init : goal.loop-pair-init
loop-pair-init c =
    let size : windows_size c.into_iter-pair-iterator.result ≡ 2 = search rules in
    let rest : windows_rest c.into_iter-pair-iterator.result ≡ c.args.words.now = search rules in
    let none : length c.args.words.now - length c.args.words.now ≡ 0 = omega arith in
    rw (rest, none) (size, omega arith, refl, omega arith, sym (sum_none c.args.prime c.args.words.now))

pub loop-pair-preserved : goal.loop-pair-preserved
loop-pair-preserved c =
    let h = window_more c.args.words.now c.loop-pair.pair-iterator c.next.new.self _ _ c.in-Some.is c.next.ensures.steps (search rules) (search rules) (search rules) in
    let i = length c.args.words.now - length (windows_rest c.loop-pair.pair-iterator) in
    let first = h.3 0 0 (search rules) in
    let second = h.3 1 0 (search rules) in
    let next : length c.args.words.now - length (windows_rest c.next.new.self) ≡ i + 1 = omega (arith, h.0, c.loop-pair.invariant.1) in
    (search rules, omega (arith, h.0, c.loop-pair.invariant.1), h.1, omega (arith, h.0, h.2, c.loop-pair.invariant.0, c.loop-pair.invariant.1), rw (next, sum_more c.args.prime c.args.words.now i, c.loop-pair.invariant.4, c.product-sum.ensures) (search rules))
