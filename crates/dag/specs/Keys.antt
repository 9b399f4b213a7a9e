-- Key numbers (`InputKey` of keys.rs).
use Rattle.std.specs.Prelude.{ℕ, ◌+◌, ◌*◌, ◌/◌, ◌%◌, ◌^◌, ◌<◌, ◌≤◌, Bool, ◌&&◌, List, [], ◌∷◌, ◌≡◌, refl, ltb, get_or, length}

-- the number of fields of each variant, in the order of `InputKey`
abbrev pub field_counts : List ℕ
field_counts =
    1 ∷ 0 ∷ 0 ∷ 1 ∷ 2 ∷ 2 ∷ 3 ∷ 1 ∷ 0 ∷ 0 ∷ 0 ∷ 0 ∷ 0 ∷ 0 ∷ 0 ∷ 1 ∷ 1 ∷ 1 ∷ 0 ∷ 0 ∷ 0 ∷ 3 ∷ []

-- variant × 2^48 + first field + second field × 2^16 + third field × 2^32
unfoldable pub key_number : ℕ → ℕ → ℕ → ℕ → ℕ
key_number variant f₁ f₂ f₃ = variant * 2 ^ 48 + f₁ + f₂ * 2 ^ 16 + f₃ * 2 ^ 32

-- what the fields of a key of variant v may be: variants count from 0, a field is at most 65,535, and those that the variant hasn't are 0
pub record Fields (v f₁ f₂ f₃ : ℕ) : Type 0 where
  pub variant : v < length field_counts
  pub first : f₁ ≤ 65535
  pub second : f₂ ≤ 65535
  pub third : f₃ ≤ 65535
  pub no_first : get_or field_counts v 0 < 1 → f₁ ≡ 0
  pub no_second : get_or field_counts v 0 < 2 → f₂ ≡ 0
  pub no_third : get_or field_counts v 0 < 3 → f₃ ≡ 0

-- a key has this number: its variant exists, and what lies below the variant is the fields that the variant has
unfoldable pub is_key : ℕ → Bool
is_key k = ltb (k / 2 ^ 48) 22 && ltb (k % 2 ^ 48) (2 ^ (16 * get_or field_counts (k / 2 ^ 48) 0))

-- `ZK`, variant 11
abbrev pub ZK : ℕ
ZK = 3096224743817216

public_one : key_number 0 1 0 0 ≡ 1
unfolding key_number
public_one = refl

zk : key_number 11 0 0 0 ≡ ZK
unfolding key_number
zk = refl
