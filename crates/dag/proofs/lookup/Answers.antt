-- `dag::lookup` meets its contract: the search over the words of x is the search for x.
use Rattle.std.proofs.Common.{sym, ◌∙◌, arith}
use Rattle.dag.specs.View.{interleaved}
use Rattle.dag.specs.StoreLaws.{lookup_whole}
use Rattle.dag.specs.BranchLaws.{told}
use Rattle.dag.specs.SearchLaws.{greatest_hit, greatest_miss, greatest_none}
use Rattle.dag.proofs.lookup.Goals as goal

pub returns-then-words_are : goal.returns-then-words_are
returns-then-words_are c =
    sym (c.loop-i.invariant ∙ greatest_hit _ c.loop-i.i (omega (arith, c.loop-i-test.true)) (told c.words_are.ensures c.if-words_are.true))
    ∙ lookup_whole c.requires.0 (interleaved c.args.list.now) c.args.n c.args.x c.from-wanted.result c.requires.1 c.from-wanted.ensures

pub loop-i-preserved : goal.loop-i-preserved
loop-i-preserved c = c.loop-i.invariant ∙ greatest_miss _ c.loop-i.i (omega (arith, c.loop-i-test.true)) (told c.words_are.ensures c.if-words_are.false)

pub returns : goal.returns
returns c =
    sym (c.loop-i.invariant ∙ greatest_none _ c.loop-i.i c.loop-i-test.false)
    ∙ lookup_whole c.requires.0 (interleaved c.args.list.now) c.args.n c.args.x c.from-wanted.result c.requires.1 c.from-wanted.ensures
