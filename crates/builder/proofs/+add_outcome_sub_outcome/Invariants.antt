-- add and sub hand work to each other: the sum of the two places falls at each call.
use Prim.Native.Nat.{◌+◌}
use Rattle.builder.proofs.+add_outcome_sub_outcome.Given as goal

abbrev pub decreases-add_outcome : goal.decreases-add_outcome
decreases-add_outcome l = l.a + l.b

abbrev pub decreases-sub_outcome : goal.decreases-sub_outcome
decreases-sub_outcome l = l.a + l.b
