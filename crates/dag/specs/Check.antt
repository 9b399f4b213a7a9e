-- The list check, with the bounds of coordinates left open.
use Rattle.std.specs.Prelude.{ℕ, Bool, true, cond, ◌&&◌, List, length, leb, ltb, eqb}
use Rattle.std.specs.List.{list_all}
use Rattle.field.specs.Fields.{Bounds}
use Rattle.dag.specs.View.{View}
use Rattle.dag.specs.Keys.{is_key}
use Rattle.dag.specs.Nodes.{most_records}
use Rattle.dag.specs.Roots.{most_roots}
use Rattle.dag.specs.Refusals.{need, ◌then◌, first_refused, Checked}
use Rattle.dag.specs.declared.Refusal.TheVariants.{CountOutOfRange, StoreTooShort, UnknownTag, Malformed, OperandNotEarlier, RootOutside, RootCount}

-- an element's coordinates in lowest form
abbrev pub lowest : Bounds → ℕ → ℕ → Bool
lowest m a b = ltb a m.c0_below && ltb b m.c1_below

-- coordinates in lowest form, a number that a key has, an unused word that is 0: what the words of a record with tag t must be
unfoldable pub formed : Bounds → ℕ → ℕ → ℕ → Bool
formed m t a b =
    cond (eqb t 0) (is_key a && eqb b 0)
    (cond (eqb t 1) (lowest m a b)
    (cond (eqb t 5) (eqb b 0)
    true))

-- the operands of a record with tag t come before place i
unfoldable pub earlier : ℕ → ℕ → ℕ → ℕ → Bool
earlier t a b i =
    cond (ltb t 2) true
    (cond (eqb t 5) (ltb a i)
    (ltb a i && ltb b i))

-- the tests of one record of words t, a, b at place i: 3, 4, 5
unfoldable pub record_check : Bounds → ℕ → ℕ → ℕ → ℕ → Checked
record_check m t a b i =
    need (leb t 5) (UnknownTag i)
    then need (formed m t a b) (Malformed i)
    then need (earlier t a b i) (OperandNotEarlier i)

-- the tests of the record at place i of a store
unfoldable pub check_at : Bounds → View → ℕ → Checked
check_at m s i = record_check m (s.tag_word i) (s.first_word i) (s.second_word i) i

-- the first bad record among the first n of a store
abbrev pub records_check : Bounds → View → ℕ → Checked
records_check m s = first_refused (check_at m s)

-- 2 for a store with less room than is needed
unfoldable pub room_check : ℕ → ℕ → Checked
room_check needed room = need (leb needed room) StoreTooShort

-- the tests of a list of at least `least` records without roots: 1, 2, then the records
unfoldable pub rootless_check : Bounds → ℕ → View → ℕ → Checked
rootless_check m least s n =
    need (leb least n && leb n most_records) CountOutOfRange
    then room_check n s.room
    then records_check m s n

-- the tests of a list's roots: one to eight, else 46; each below n, else 6
unfoldable pub roots_check : ℕ → List ℕ → Checked
roots_check n roots =
    need (leb 1 (length roots) && leb (length roots) most_roots) RootCount
    then need (list_all (λ root. ltb root n) roots) RootOutside

-- the list check: n from 1, and last the roots
unfoldable pub list_check : Bounds → View → ℕ → List ℕ → Checked
list_check m s n roots = rootless_check m 1 s n then roots_check n roots
