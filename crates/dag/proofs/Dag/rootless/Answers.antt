-- `dag::Dag::rootless` meets its contract: what passes the list check is sound and not too long.
use Rattle.dag.specs.BranchLaws.{told}
use Rattle.dag.specs.PassLaws.{listed}
use Rattle.dag.proofs.Dag.rootless.Goals as goal

pub invariant_of-result : goal.invariant_of-result
invariant_of-result c =
    let passed = listed _ _ _ _ (told c.rootless_check.ensures c.in_ok-rootless_check.was) in
    record { sound = passed.sound; most = passed.most }
