use Rattle.std.proofs.Common.{[], ◌∷◌, ◌≡◌, ◌+◌, ◌-◌, arith}
use Rattle.dag.specs.Arrays.{up_to}
use Rattle.dag.specs.ViewLaws.{same_room}
use Rattle.encode.specs.Encode.{square}
use Rattle.encode.specs.WriteLaws.{wrote_none, wrote_one, wrote_more, squares_next}
use Rattle.encode.proofs.StreamGeometry.put_padding.Goals as goal

pub loop-j-init : goal.loop-j-init
unfolding up_to
loop-j-init c =
    let o = c.args.operations in
    let none : o - o ≡ 0 = omega arith in
    rw none (wrote_none c.args.self c.args.store.now o)

pub put_operation-requires : goal.put_operation-requires
put_operation-requires c =
    (c.requires.0, rw (same_room c.loop-j.store c.args.store.now c.loop-j.invariant.same) (omega (arith, c.requires.3)))

pub loop-j-preserved : goal.loop-j-preserved
loop-j-preserved c =
    let o = c.args.operations in
    let j = c.loop-j.j in
    rw (squares_next o j (omega arith))
    (wrote_more c.args.self c.args.store.now o (up_to (λ i. square (o + i)) (j - o)) c.loop-j.store j (square j ∷ []) _ _ c.loop-j.invariant
    (wrote_one c.args.self c.loop-j.store j (square j) _ (rw (same_room c.loop-j.store c.args.store.now c.loop-j.invariant.same) (omega (arith, c.requires.3))) (rw c.square.ensures at c.put_operation.ensures)))
