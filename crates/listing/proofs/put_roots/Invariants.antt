-- The invariant: the roots before this one are written.
use Rattle.std.proofs.Common.{take}
use Rattle.text.specs.Promises.{Wrote}
use Rattle.listing.specs.Promises.{spaced}
use Rattle.listing.proofs.put_roots.Given as goal

abbrev pub invariant-loop-root : goal.invariant-loop-root
invariant-loop-root l = Wrote l.initial.text (spaced (take l.root-index l.roots)) l.text
