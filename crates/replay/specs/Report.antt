-- What the program writes of a section: a line for each case that is not answered as recorded, and one that says how many are.
use Rattle.std.specs.Prelude.{ℕ, zero, suc, cond, List, [], ◌∷◌, ◌++◌, codes}
use Rattle.std.specs.Fmt.{decimal}
use Rattle.recorded_calls.specs.declared.Call.{Call}
use Rattle.recorded_calls.specs.Calls.{name}
use Rattle.replay.specs.Cases.{same, place_of, matched}

-- the line of case i
abbrev pub case_line : ℕ → List ℕ
case_line i = codes "case " ++ (decimal i ++ (codes " differs" ++ 10 ∷ []))

-- the lines of those of the first n cases that differ
unfoldable pub differing : Call → List ℕ → ℕ → List ℕ
differing call s zero = []
differing call s (suc n) = differing call s n ++ cond (same call s (place_of call s n)) [] (case_line n)

-- how many of so many cases match
abbrev pub matching : Call → List ℕ → ℕ → List ℕ
matching call s cases =
    name call ++ (codes ": " ++ (decimal (matched call s cases) ++ (codes " of " ++ (decimal cases ++ (codes " recorded answers match" ++ 10 ∷ [])))))

-- a section
abbrev pub report_of : Call → List ℕ → ℕ → List ℕ
report_of call s cases = differing call s cases ++ matching call s cases
