use Rattle.std.proofs.Common.{rules}
use Rattle.std.proofs.lemmas.List.FromFn.{fill_by_all}
use Rattle.recorded.specs.Stream.{given, stored}
use Rattle.recorded.proofs.Cursor.lay.Goals as goal

pub returns : goal.returns
unfolding stored
returns c =
    let packed = c.skip-packed.result in
    rw (← c.requires, ← c.skip-packed.ensures.at, ← c.skip-packed.ensures.stream)
    (fill_by_all (given packed.stream.now packed.at) c.loop-i.store _ 0 c.loop-i.auto.store (search rules))
