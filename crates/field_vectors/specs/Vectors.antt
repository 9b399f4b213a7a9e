-- Vectors of the fields (tools/field_vectors.py): a line each of a field number, a sign and three elements, in hexadecimal digits.
use Rattle.std.specs.Prelude.{ℕ, zero, suc, ◌+◌, ◌*◌, ◌-◌, Bool, false, cond, ◌&&◌, List, leb, eqb, get_or}
use Rattle.ring.specs.Power.{pow}
use Rattle.field.specs.Field.{felt, elements, new, same}
use Rattle.field.specs.Fields.{field_of}
use Rattle.field.specs.Generators.{generator}
use Rattle.field.specs.Numbers.{in_field}
use Rattle.field.specs.declared.Prime.{Prime}
use Rattle.field.specs.declared.QuadFelt.{QuadFelt}
use Rattle.dag.specs.Check.{lowest}

-- the bytes of a line
abbrev pub line : ℕ
line = 106

-- the value of a digit, 0 to 9 and a to f; any other byte counts as 0
unfoldable pub digit : ℕ → ℕ
digit b = cond (leb 48 b && leb b 57) (b - 48) (cond (leb 97 b && leb b 102) (b - 87) 0)

-- the number of n digits from a place on, highest first
unfoldable pub digits : List ℕ → ℕ → ℕ → ℕ
digits s at zero = 0
digits s at (suc n) = digits s at n * 16 + digit (get_or s (at + n) 0)

-- the element of two words of 16 digits
unfoldable pub element : List ℕ → ℕ → QuadFelt
element s at = new (digits s at 16) (digits s (at + 17) 16)

-- what a sign asks of two elements: +, -, *, ^, g, and else the negative of the first
unfoldable pub asked : Prime → ℕ → QuadFelt → QuadFelt → QuadFelt
asked prime sign a b =
    cond (eqb sign 43) ((elements prime).add a b)
    (cond (eqb sign 45) ((elements prime).sub a b)
    (cond (eqb sign 42) ((elements prime).mul a b)
    (cond (eqb sign 94) (new (pow (felt prime) a.c0 b.c0) 0)
    (cond (eqb sign 103) (new (generator prime a.c0) 0)
    ((elements prime).neg a)))))

-- operands are in lowest form, and r is what the sign asks of them
unfoldable pub agrees : Prime → ℕ → QuadFelt → QuadFelt → QuadFelt → Bool
agrees prime sign a b r =
    lowest (field_of prime).bounds a.c0 a.c1 && lowest (field_of prime).bounds b.c0 b.c1 && same (asked prime sign a b) r

-- a number names a field, and that agrees
unfoldable pub agrees_in : ℕ → ℕ → QuadFelt → QuadFelt → QuadFelt → Bool
agrees_in number sign a b r = in_field number false (λ prime. agrees prime sign a b r)

-- 1 where the line at a place agrees, and else 0
unfoldable pub score : List ℕ → ℕ → ℕ
score s at = cond (agrees_in (digit (get_or s at 0)) (get_or s (at + 2) 0) (element s (at + 4)) (element s (at + 38)) (element s (at + 72))) 1 0

-- how many of the first n lines agree
unfoldable pub matched : List ℕ → ℕ → ℕ
matched s zero = 0
matched s (suc n) = matched s n + score s (line * n)
