use Rattle.std.proofs.Common.{arith}
use Rattle.encode.specs.WriteLaws.{wrote_one, wrote_none}
use Rattle.encode.proofs.StreamGeometry.put_next.Goals as goal

pub returns-in-Some : goal.returns-in-Some
returns-in-Some c =
    let room = rw c.in-Some.is at c.requires.2 in
    rw c.in-Some.is (wrote_one c.args.self c.args.store.now c.args.j c.in-Some.o _ (omega (arith, room)) c.put_operation.ensures)

pub returns-in-None : goal.returns-in-None
returns-in-None c = rw c.in-None.is (wrote_none c.args.self c.args.store.now c.args.j)
