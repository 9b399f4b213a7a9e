-- `house_file::form_check` meets its contract: a good head has a count.
use Rattle.std.proofs.Common.{arith}
use Rattle.dag.specs.BranchLaws.{told}
use Rattle.house_file.specs.FileLaws.{headed}
use Rattle.house_file.proofs.form_check.Goals as goal

pub records_place-requires : goal.records_place-requires
records_place-requires c = (headed _ (told c.head_check.ensures c.in_ok-head_check.was)).long

pub file_count-requires : goal.file_count-requires
file_count-requires c = (headed _ (told c.head_check.ensures c.in_ok-head_check.was)).long

pub overflow_mul-file_count : goal.overflow_mul-file_count
overflow_mul-file_count c = let h = headed _ (told c.head_check.ensures c.in_ok-head_check.was) in omega (arith, h.most, c.file_count.ensures)

pub overflow_add-records_place : goal.overflow_add-records_place
overflow_add-records_place c = let h = headed _ (told c.head_check.ensures c.in_ok-head_check.was) in omega (arith, h.most, c.file_count.ensures, c.records_place.ensures)
