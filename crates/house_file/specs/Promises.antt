-- What the functions of the house file ask and say.
use Rattle.std.specs.Prelude.{ℕ, ◌≤◌, List, ◌≡◌, length, Ok, Result, Err}
use Rattle.dag.specs.Refusals.{unless_refused}
use Rattle.dag.specs.Store.{stored}
use Rattle.dag.specs.declared.Refusal.{Refusal}
use Rattle.house_file.specs.declared.Filed.{Filed}
use Rattle.house_file.specs.File.{file_count, most_filed, record_place, file_list, held_check, filed}

-- a file with a good head
pub record Headed (file : List ℕ) : Type 0 where
  pub long : 9 ≤ length file
  pub some : 1 ≤ file_count file
  pub most : file_count file ≤ most_filed

-- a file of good form
pub record Formed (file : List ℕ) : Type 0 where
  pub head : Headed file
  pub whole : length file ≡ record_place file (file_count file)

-- what a file that has passed its tests is known to be
pub record Passed (file : List ℕ) (room : ℕ) : Type 0 where
  pub form : Formed file
  pub fits : file_count file ≤ room
  pub held_is : held_check file ≡ Ok tt

-- a file of good form read into a store that it fits
pub record Done (file list : List ℕ) (a : Result Filed Refusal) (after : List ℕ) : Type 0 where
  pub answer : a ≡ unless_refused (held_check file) Err (Ok (filed file))
  pub list_is : after ≡ unless_refused (held_check file) (λ _. list) (stored list (file_list file))
