-- `index::walk` meets its contract, by the laws of the walk along a bucket.
use Rattle.std.proofs.Common.{◌-◌, arith, rules}
use Rattle.dag.specs.BranchLaws.{told}
use Rattle.index.specs.Index.{half}
use Rattle.index.specs.WalkLaws.{walk_begin, walk_on, walk_hit, walk_none}
use Rattle.index.proofs.walk.Goals as goal

pub loop-init : goal.loop-init
loop-init g c = λ hit count w. walk_begin hit w.bucket c.args.k count w.only (half c.args.links.now) c.args.links.now w.indexed w.inside

pub returns-then-link-eq0 : goal.returns-then-link-eq0
returns-then-link-eq0 g c = λ hit count w. walk_none hit w.bucket c.args.k count w.only _ (c.loop.invariant hit count w) (omega arith)

pub returns-then-is_hit : goal.returns-then-is_hit
returns-then-is_hit g c = λ hit count w.
    let below = (c.loop.invariant hit count w).below in
    walk_hit hit w.bucket c.args.k count w.only _ (c.loop.invariant hit count w) (omega arith)
    (told (w.test_is _ _ (omega (arith, below)) c.is_hit.ensures) c.if-is_hit.true)

pub loop-preserved : goal.loop-preserved
loop-preserved g c = λ hit count w.
    let below = (c.loop.invariant hit count w).below in
    walk_on hit w.bucket c.args.k count w.only (half c.args.links.now) c.args.links.now w.indexed w.inside _ (c.loop.invariant hit count w) (omega arith)
    (told (w.test_is _ _ (omega (arith, below)) c.is_hit.ensures) c.if-is_hit.false)

pub is_hit-requires : goal.is_hit-requires
is_hit-requires g c =
    let w = c.requires.2 in
    let below = (c.loop.invariant c.requires.0 c.requires.1 w).below in
    let may = w.test (c.loop.link - 1) (omega (arith, below, c.if-link-eq0.false)) in
    search rules

pub overflow_add-link : goal.overflow_add-link
overflow_add-link g c = let w = c.requires.2 in let below = (c.loop.invariant c.requires.0 c.requires.1 w).below in omega (arith, below, w.few)

pub bounds-links-half : goal.bounds-links-half
bounds-links-half g c = let w = c.requires.2 in let below = (c.loop.invariant c.requires.0 c.requires.1 w).below in omega (arith, below, w.few, c.if-link-eq0.false)

pub offset_bounds-links-half : goal.offset_bounds-links-half
offset_bounds-links-half g c =
    let w = c.requires.2 in
    let below = (c.loop.invariant c.requires.0 c.requires.1 w).below in
    omega (arith, below, w.few, c.if-link-eq0.false, c.well_formed.0.1)

pub search-requires : goal.search-requires
search-requires g c =
    let w = c.requires.2 in
    let may = w.search_at c.loop.link (c.loop.invariant c.requires.0 c.requires.1 w).below in
    search rules
