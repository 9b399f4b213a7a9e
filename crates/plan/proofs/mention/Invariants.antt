use Rattle.std.proofs.Common.{ℕ, ◌+◌, ◌≤◌, ◌≡◌, get_or, take}
use Rattle.plan.specs.Promises.{mentioned}
use Rattle.plan.proofs.mention.Given as goal

abbrev pub invariant-loop-place : goal.invariant-loop-place
invariant-loop-place l =
    (l.fan ≡ mentioned l.initial.fan (take l.place-index l.places)) × ((i : ℕ) → get_or l.fan i 0 ≤ get_or l.initial.fan i 0 + l.place-index)
