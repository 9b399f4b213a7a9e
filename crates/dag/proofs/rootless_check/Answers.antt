-- `dag::rootless_check` meets its contract.
use Rattle.dag.specs.BranchLaws.{told}
use Rattle.dag.specs.PassLaws.{room_enough}
use Rattle.dag.proofs.rootless_check.Goals as goal

pub records_check-requires : goal.records_check-requires
records_check-requires c = room_enough _ _ (rw c.room.ensures at (told c.room_check.ensures c.in_ok-room_check.was))
