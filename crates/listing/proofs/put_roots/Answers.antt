use Rattle.std.proofs.Common.{arith}
use Rattle.text.specs.Text.{decimal, ended, pieces, space}
use Rattle.text.specs.PieceLaws.{pieces_fit, pieces_more}
use Rattle.text.specs.WritingLaws.{wrote_nothing}
use Rattle.listing.proofs.put_roots.Goals as goal

pub loop-root-init : goal.loop-root-init
unfolding pieces
loop-root-init c = wrote_nothing _ (omega arith)

pub number-requires : goal.number-requires
number-requires c = omega (arith, pieces_fit (λ n. ended (decimal n) space) c.args.roots.now c.loop-root.root-index c.loop-root-test.true)

pub loop-root-preserved : goal.loop-root-preserved
loop-root-preserved c =
    pieces_more (λ n. ended (decimal n) space) c.args.roots.now c.loop-root.root-index c.loop-root-test.true c.loop-root.invariant c.number.ensures
