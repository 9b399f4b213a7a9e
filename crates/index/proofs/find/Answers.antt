-- `index::find` meets its contract: along its bucket it seeks the words of x.
use Rattle.std.proofs.Common.{◌∙◌, arith, rules}
use Rattle.dag.specs.View.{interleaved}
use Rattle.index.specs.NodeIndexLaws.{seeks, lookup_below}
use Rattle.index.proofs.find.Goals as goal

pub walk-requires : goal.walk-requires
walk-requires c = (
  _,
  _,
  seeks (interleaved c.args.list.now) c.args.n c.args.links.now c.from-wanted.result c.requires.0.0 c.requires.0.1 c.requires.1 c.args.x c.from-wanted.ensures
      _ c.bucket.ensures.0 _ _ _ _
      (λ i room. search rules) (λ i b p. search rules) (λ i sound. search rules) (λ i r p. search rules),
)

pub returns : goal.returns
returns c =
    c.walk.ensures _ _
    (seeks (interleaved c.args.list.now) c.args.n c.args.links.now c.from-wanted.result c.requires.0.0 c.requires.0.1 c.requires.1 c.args.x c.from-wanted.ensures
    _ c.bucket.ensures.0 _ _ _ _
    (λ i room. search rules) (λ i b p. search rules) (λ i sound. search rules) (λ i r p. search rules))
    ∙ lookup_below (interleaved c.args.list.now) c.args.n c.args.links.now c.from-wanted.result c.requires.0.0 c.requires.0.1 c.requires.1 c.args.x c.from-wanted.ensures
    c.args.n (omega arith)
