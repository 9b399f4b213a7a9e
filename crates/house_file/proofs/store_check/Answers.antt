-- `house_file::store_check` meets its contract: a file of good form has a count.
use Rattle.std.proofs.Common.{arith}
use Rattle.dag.specs.BranchLaws.{told}
use Rattle.house_file.specs.FileLaws.{formed}
use Rattle.house_file.proofs.store_check.Goals as goal

pub file_count-requires : goal.file_count-requires
file_count-requires c = let f = formed _ (told c.form_check.ensures c.in_ok-form_check.was) in omega (arith, f.whole)
