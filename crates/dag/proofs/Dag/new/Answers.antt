-- `dag::Dag::new` meets its contract: what passes the list check is sound and not too long.
use Rattle.dag.specs.BranchLaws.{told}
use Rattle.dag.specs.PassLaws.{rooted}
use Rattle.dag.proofs.Dag.new.Goals as goal

pub invariant_of-result : goal.invariant_of-result
invariant_of-result c =
    let passed = rooted _ _ _ _ (told c.list_check.ensures c.in_ok-list_check.was) in
    record { sound = passed.list.sound; most = passed.list.most }
