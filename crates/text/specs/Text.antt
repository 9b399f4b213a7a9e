-- Text as bytes: plain words, numbers in decimal, lines, and what a text store holds.
use Rattle.std.specs.Prelude.{ℕ, zero, suc, ◌+◌, ◌-◌, ◌/◌, ◌%◌, true, false, List, [], ◌∷◌, ◌++◌, ltb, length, replicate, ℤ, pos, negsuc}
use Prim.Native.Char.{code}
use Prim.Native.String.{String, [] as none, ◌∷◌ as ◌then◌}
use Rattle.text.specs.declared.End.{End}
use Rattle.text.specs.declared.End.TheVariants.{Space, Newline}

-- the bytes of a plain text
unfoldable pub ascii : String → List ℕ
ascii none = []
ascii (c then s) = code c ∷ ascii s

abbrev pub space : ℕ
space = 32

abbrev pub newline : ℕ
newline = 10

-- the byte that ends a word
abbrev pub end_byte : End → ℕ
end_byte Space = space
end_byte Newline = newline

-- the last k digits of n, or all where n has fewer, highest first
unfoldable pub digits : ℕ → ℕ → List ℕ
digits zero n = []
digits (suc k) n =
    elim (ltb n 10) [
      | true ↦ (48 + n) ∷ []
      | false ↦ digits k (n / 10) ++ ((48 + n % 10) ∷ [])
    ]

-- a number in decimal: n has at most n + 1 digits
unfoldable pub decimal : ℕ → List ℕ
decimal n = digits (suc n) n

-- a signed number in decimal, a minus sign before a negative one
unfoldable pub integer : ℤ → List ℕ
integer (pos n) = decimal n
integer (negsuc n) = ascii "-" ++ decimal (suc n)

-- a word and the byte that ends it
unfoldable pub ended : List ℕ → ℕ → List ℕ
ended word end = word ++ (end ∷ [])

-- a word, a space, a number and the byte that ends it
unfoldable pub named : List ℕ → ℕ → ℕ → List ℕ
named word n end = ended word space ++ ended (decimal n) end

-- words with single spaces between them, and one newline behind the last
unfoldable pub line : List (List ℕ) → List ℕ
line [] = newline ∷ []
line (w ∷ []) = ended w newline
line (w ∷ v ∷ ws) = ended w space ++ line (v ∷ ws)

-- a piece for each of some numbers, in their order
unfoldable pub pieces : (ℕ → List ℕ) → List ℕ → List ℕ
pieces f [] = []
pieces f (n ∷ ns) = f n ++ pieces f ns

-- a piece for each number below n, in order
unfoldable pub rows : (ℕ → List ℕ) → ℕ → List ℕ
rows f zero = []
rows f (suc n) = rows f n ++ f n

-- what a store of m bytes holds once a text is written whole: the text, then 0 bytes
unfoldable pub laid : ℕ → List ℕ → List ℕ
laid m text = text ++ replicate (m - length text) 0
