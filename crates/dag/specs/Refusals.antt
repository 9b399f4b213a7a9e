-- What a refusal tells: its number and its place; and what a test answers.
use Rattle.std.specs.Prelude.{ℕ, zero, suc, Bool, true, false, Result, Ok, Err}
use Rattle.dag.specs.declared.Refusal.{Refusal}
use Rattle.dag.specs.declared.Refusal.TheVariants.{CountOutOfRange, StoreTooShort, UnknownTag, Malformed, OperandNotEarlier, RootOutside, NoRoom, TooManyEntries, Unassigned, TooManyColumns, ColumnLength, SharedPeriod}
use Rattle.dag.specs.declared.Refusal.TheVariants.{FileTooShort, FileVersion, FileCount, FileLength, TextTooShort, NoOperations, RootNotLast, OddLayout, RootCount, FieldNumber}

abbrev pub number : Refusal → ℕ
number CountOutOfRange = 1
number StoreTooShort = 2
number (UnknownTag i) = 3
number (Malformed i) = 4
number (OperandNotEarlier i) = 5
number RootOutside = 6
number NoRoom = 7
number TooManyEntries = 11
number (Unassigned i) = 12
number TooManyColumns = 13
number (ColumnLength i) = 14
number SharedPeriod = 15
number FileTooShort = 21
number FileVersion = 22
number FileCount = 23
number FileLength = 24
number TextTooShort = 41
number NoOperations = 42
number RootNotLast = 43
number OddLayout = 44
number RootCount = 46
number FieldNumber = 49

-- the record, entry or column at fault, else 0
abbrev pub place : Refusal → ℕ
place CountOutOfRange = 0
place StoreTooShort = 0
place (UnknownTag i) = i
place (Malformed i) = i
place (OperandNotEarlier i) = i
place RootOutside = 0
place NoRoom = 0
place TooManyEntries = 0
place (Unassigned i) = i
place TooManyColumns = 0
place (ColumnLength i) = i
place SharedPeriod = 0
place FileTooShort = 0
place FileVersion = 0
place FileCount = 0
place FileLength = 0
place TextTooShort = 0
place NoOperations = 0
place RootNotLast = 0
place OddLayout = 0
place RootCount = 0
place FieldNumber = 0

-- what a test answers: nothing, or why it refuses
abbrev pub Checked : Type 0
Checked = Result (Unit {0}) Refusal

-- what a result says of the tests before it
abbrev pub outcome : {A : Type 0} → Result A Refusal → Checked
outcome (Ok x) = Ok tt
outcome (Err r) = Err r

-- r unless the test holds
abbrev pub need : Bool → Refusal → Checked
need true r = Ok tt
need false r = Err r

infixr 30 ◌then◌
-- the first refusal of two tests
abbrev pub ◌then◌ : Checked → Checked → Checked
(Ok u) then d = d
(Err r) then d = Err r

-- the first refusal of a test at the places below n
unfoldable pub first_refused : (ℕ → Checked) → ℕ → Checked
first_refused test zero = Ok tt
first_refused test (suc n) = first_refused test n then test n

-- a test refuses
abbrev pub is_refused : Checked → Bool
is_refused (Ok u) = false
is_refused (Err r) = true

-- a call's answer or store: by the refusal where the tests refuse, else what it gives
abbrev pub unless_refused : {A : Type 0} → Checked → (Refusal → A) → A → A
unless_refused (Ok u) refuse given = given
unless_refused (Err r) refuse given = refuse r
