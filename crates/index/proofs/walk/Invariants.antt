-- The invariant: whatever is sought, the walk stands at the link.
use Rattle.std.proofs.Common.{ℕ, Bool}
use Rattle.index.specs.Index.{Sought}
use Rattle.index.specs.WalkLaws.{Walking}
use Rattle.index.proofs.walk.Given as goal

abbrev pub invariant-loop : goal.invariant-loop
invariant-loop g l =
    (hit : ℕ → Bool) (count : ℕ) (w : Sought hit count l.links l.k (goal.T-pre g l.is_hit) (goal.T-post g l.is_hit) (goal.S-pre g l.search) (goal.S-post g l.search))
    → Walking hit w.bucket l.k count l.link
