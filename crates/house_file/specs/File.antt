-- A house file as a list of bytes: its tests, and the list that it holds.
use Rattle.std.specs.Prelude.{ℕ, zero, suc, ◌+◌, ◌*◌, Bool, cond, ◌&&◌, ◌||◌, List, leb, eqb, get_or, length, Result, Ok, Err}
use Rattle.field.specs.Fields.{goldilocks}
use Rattle.dag.specs.View.{View, interleaved}
use Rattle.dag.specs.Nodes.{nodes}
use Rattle.dag.specs.Arrays.{up_to}
use Rattle.dag.specs.Refusals.{need, ◌then◌, unless_refused, Checked}
use Rattle.dag.specs.Check.{room_check, list_check}
use Rattle.dag.specs.Store.{stored}
use Rattle.dag.specs.declared.NodeKind.{NodeKind}
use Rattle.dag.specs.declared.Refusal.TheVariants.{FileTooShort, FileVersion, FileCount, FileLength}
use Rattle.dag.specs.declared.Words.{Words}
use Rattle.dag.specs.declared.Refusal.{Refusal}
use Rattle.house_file.specs.declared.Filed.{Filed}

-- the number that k bytes from a place on write, highest first
unfoldable pub number : List ℕ → ℕ → ℕ → ℕ
number file at zero = 0
number file at (suc k) = number file at k * 256 + get_or file (at + k) 0

-- the first byte
abbrev pub version : List ℕ → ℕ
version file = get_or file 0 0

-- a file has version 1 or 2
unfoldable pub is_version : ℕ → Bool
is_version v = eqb v 1 || eqb v 2

-- behind the version: how many records, 4 bytes
abbrev pub file_count : List ℕ → ℕ
file_count file = number file 1 4

-- the most records that a file has
abbrev pub most_filed : ℕ
most_filed = 1024

-- a file has from 1 to 1,024 records
unfoldable pub is_count : ℕ → Bool
is_count n = leb 1 n && leb n most_filed

-- behind the count: how many roots, 1 byte in version 2; version 1 has one root
unfoldable pub root_count : List ℕ → ℕ
root_count file = cond (eqb (version file) 2) (get_or file 5 0) 1

-- the most roots that a byte can say
abbrev pub most_named : ℕ
most_named = 255

-- where the roots begin: behind version and count, 5 bytes, and in version 2 the root count
unfoldable pub roots_place : List ℕ → ℕ
roots_place file = cond (eqb (version file) 2) 6 5

-- root j, 4 bytes
unfoldable pub file_root : List ℕ → ℕ → ℕ
file_root file j = number file (roots_place file + 4 * j) 4

-- all roots in their order
abbrev pub file_roots : List ℕ → List ℕ
file_roots file = up_to (file_root file) (root_count file)

-- where record i begins, behind the roots and i records of 17 bytes
abbrev pub record_place : List ℕ → ℕ → ℕ
record_place file i = roots_place file + 4 * root_count file + 17 * i

-- record i: tag byte, two 8-byte numbers
unfoldable pub words_at : List ℕ → ℕ → Words
words_at file i =
    record {
      tag = get_or file (record_place file i) 0;
      first = number file (record_place file i + 1) 8;
      second = number file (record_place file i + 9) 8;
    }

-- a file as a store of records
unfoldable pub file_view : List ℕ → View
file_view file =
    record {
      room = file_count file;
      tag_word = λ i. (words_at file i).tag;
      first_word = λ i. (words_at file i).first;
      second_word = λ i. (words_at file i).second;
    }

-- the list that it holds
abbrev pub file_list : List ℕ → List NodeKind
file_list file = nodes (file_view file) (file_count file)

-- the tests of the file's head: 21, 22, 23
unfoldable pub head_check : List ℕ → Checked
head_check file =
    need (leb 9 (length file)) FileTooShort
    then need (is_version (version file)) FileVersion
    then need (is_count (file_count file)) FileCount

-- the tests of the file's form: its head, then its length, 24
unfoldable pub form_check : List ℕ → Checked
form_check file = head_check file then need (eqb (length file) (record_place file (file_count file))) FileLength

-- the list check of what it holds
unfoldable pub held_check : List ℕ → Checked
held_check file = list_check goldilocks.bounds (file_view file) (file_count file) (file_roots file)

unfoldable pub file_check : List ℕ → Checked
file_check file = form_check file then held_check file

-- the tests before a file's records: its form, then a store with room for so many, 2
unfoldable pub store_check : List ℕ → ℕ → Checked
store_check file room = form_check file then room_check (file_count file) room

-- reading into a store: the store is tested before the records, as in the list check
unfoldable pub read_check : List ℕ → ℕ → Checked
read_check file room = store_check file room then held_check file

-- the list's count and roots
abbrev pub filed : List ℕ → Filed
filed file = record { count = file_count file; roots = record { items = file_roots file } }

-- count and roots, or why not
unfoldable pub read_answer : List ℕ → ℕ → Result Filed Refusal
read_answer file room = unless_refused (read_check file room) Err (Ok (filed file))

-- the list, blanks behind it
unfoldable pub read_list : List ℕ → List ℕ → List ℕ
read_list file list = unless_refused (read_check file (interleaved list).room) (λ r. list) (stored list (file_list file))

-- what is made of a file: of why it is refused, or of the file
abbrev pub of_file : {A : Type 0} → (Refusal → A) → (List ℕ → A) → List ℕ → A
of_file refuse give file = unless_refused (file_check file) refuse (give file)

-- so many bytes of an input decide what is made of it: one more than the longest file of good form has
abbrev pub enough : ℕ
enough = 6 + 4 * most_named + 17 * most_filed + 1
