use native.Mathlib.Omega.{arith}
use Rattle.builder.specs.CallLaws.{list_full, store_short, appends}
use Rattle.builder.proofs.append.Goals as goal
use Rattle.builder.proofs.append.Goals.{then-n-ge-MOST_RECORDS-via-then-n-ge-MOST_RECORDS, then-n-ge-MOST_RECORDS-via-else-n-ge-MOST_RECORDS+then-room-n}

pub returns-then-n-ge-MOST_RECORDS : goal.returns-then-n-ge-MOST_RECORDS
returns-then-n-ge-MOST_RECORDS c =
    elim c.then-n-ge-MOST_RECORDS.branch [
      | then-n-ge-MOST_RECORDS-via-then-n-ge-MOST_RECORDS w ↦ list_full c.args.list.now c.args.n c.requires.0 c.args.y w.if-n-ge-MOST_RECORDS.true
      | then-n-ge-MOST_RECORDS-via-else-n-ge-MOST_RECORDS+then-room-n w ↦
          store_short c.args.list.now c.args.n c.requires.0 c.args.y w.if-n-ge-MOST_RECORDS.false (omega (arith, c.room-room.ensures, w.if-room-n.true))
    ]

pub returns : goal.returns
returns c =
    appends c.args.list.now c.args.n c.requires.0 c.args.y _ c.if-n-ge-MOST_RECORDS.false (omega (arith, c.room-room.ensures, c.if-room-n.false))
    c.put_node.ensures
