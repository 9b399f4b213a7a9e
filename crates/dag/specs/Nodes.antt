-- Records and lists (`NodeKind` of ir.rs): a record's three words, and the list that words hold.
use Rattle.std.specs.Prelude.{ℕ, zero, suc, ◌-◌, Bool, cond, ◌&&◌, List, [], ◌∷◌, ◌++◌, eqb, get_or, length, replicate}
use Rattle.dag.specs.View.{View}
use Rattle.dag.specs.declared.NodeKind.{NodeKind}
use Rattle.dag.specs.declared.Words.{Words}
use Rattle.dag.specs.declared.NodeKind.TheVariants.{Input, Constant, Add, Sub, Mul, Neg}

-- the word behind the last one filled
abbrev pub blank : ℕ
blank = 0

-- the longest list
abbrev pub most_records : ℕ
most_records = 4096

-- the words of a record
abbrev pub record_words : ℕ
record_words = 3

-- a record's first word
abbrev pub tag : NodeKind → ℕ
tag (Input k) = 0
tag (Constant c) = 1
tag (Add a b) = 2
tag (Sub a b) = 3
tag (Mul a b) = 4
tag (Neg a) = 5

-- a record's second word: key number, c0 or first operand
abbrev pub first : NodeKind → ℕ
first (Input k) = k
first (Constant c) = c.c0
first (Add a b) = a
first (Sub a b) = a
first (Mul a b) = a
first (Neg a) = a

-- a record's third word: c1 or second operand, else 0
abbrev pub second : NodeKind → ℕ
second (Input k) = 0
second (Constant c) = c.c1
second (Add a b) = b
second (Sub a b) = b
second (Mul a b) = b
second (Neg a) = 0

-- a record's three words
abbrev pub three : NodeKind → Words
three x = record { tag = tag x; first = first x; second = second x }

-- the three words at place i of a store
abbrev pub words_at : View → ℕ → Words
words_at s i = record { tag = s.tag_word i; first = s.first_word i; second = s.second_word i }

-- the record that three words stand for, where the tag is at most 5
unfoldable pub decode : ℕ → ℕ → ℕ → NodeKind
decode t a b =
    cond (eqb t 0) (Input a)
    (cond (eqb t 1) (Constant (record { c0 = a; c1 = b }))
    (cond (eqb t 2) (Add a b)
    (cond (eqb t 3) (Sub a b)
    (cond (eqb t 4) (Mul a b)
    (Neg a)))))

-- the record at place i of a store
unfoldable pub record_at : View → ℕ → NodeKind
record_at s i = decode (s.tag_word i) (s.first_word i) (s.second_word i)

-- the list of the first n records of a store
unfoldable pub nodes : View → ℕ → List NodeKind
nodes s zero = []
nodes s (suc n) = nodes s n ++ (record_at s n ∷ [])

-- the record at place i of a list
unfoldable pub at : List NodeKind → ℕ → NodeKind
at l i = get_or l i (Input 0)

-- a record's three words
unfoldable pub words : NodeKind → List ℕ
words x = tag x ∷ first x ∷ second x ∷ []

-- a list's words
unfoldable pub words_of : List NodeKind → List ℕ
words_of [] = []
words_of (x ∷ l) = words x ++ words_of l

-- what a store of m words holds once ws is written whole: ws, then blanks
unfoldable pub filled : ℕ → List ℕ → List ℕ
filled m ws = ws ++ replicate (m - length ws) blank

-- two records are equal, word by word
unfoldable pub same_node : NodeKind → NodeKind → Bool
same_node x y = eqb (tag x) (tag y) && eqb (first x) (first y) && eqb (second x) (second y)

-- a record's operands
unfoldable pub operands : NodeKind → List ℕ
operands (Input k) = []
operands (Constant c) = []
operands (Add a b) = a ∷ b ∷ []
operands (Sub a b) = a ∷ b ∷ []
operands (Mul a b) = a ∷ b ∷ []
operands (Neg a) = a ∷ []

-- the places m in place of a record's operands
unfoldable pub rename : (ℕ → ℕ) → NodeKind → NodeKind
rename m (Input k) = Input k
rename m (Constant c) = Constant c
rename m (Add a b) = Add (m a) (m b)
rename m (Sub a b) = Sub (m a) (m b)
rename m (Mul a b) = Mul (m a) (m b)
rename m (Neg a) = Neg (m a)

-- a record of x's kind with other operands
abbrev pub like : NodeKind → ℕ → ℕ → NodeKind
like (Input k) a b = Input k
like (Constant c) a b = Constant c
like (Add _ _) a b = Add a b
like (Sub _ _) a b = Sub a b
like (Mul _ _) a b = Mul a b
like (Neg _) a b = Neg a
