-- The invariant: the greatest place below n is the greatest below i.
use Rattle.std.proofs.Common.{◌≡◌}
use Rattle.dag.specs.View.{interleaved}
use Rattle.dag.specs.Store as Store
use Rattle.dag.proofs.lookup.Given as goal

abbrev pub invariant-loop-i : goal.invariant-loop-i
invariant-loop-i l = Store.lookup_words (interleaved l.list) l.wanted l.n ≡ Store.lookup_words (interleaved l.list) l.wanted l.i
