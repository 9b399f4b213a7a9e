-- What the functions of the listing ask and say.
use Rattle.std.specs.Prelude.{ℕ, ◌≤◌, List, ◌≡◌, Result, Ok, Err}
use Rattle.dag.specs.View.{View, interleaved}
use Rattle.dag.specs.Nodes.{nodes}
use Rattle.dag.specs.Roots.{roots_of}
use Rattle.text.specs.Text.{decimal, ended, space, pieces}
use Rattle.dag.specs.declared.Refusal.{Refusal}
use Rattle.normalize.specs.declared.NormalEnd.{NormalEnd}
use Rattle.listing.specs.Listing.{listed}
use Rattle.wording.specs.Refused.{refused_line}

-- numbers, a space behind each
abbrev pub spaced : List ℕ → List ℕ
spaced = pieces (λ n. ended (decimal n) space)

-- the listing of the list that a store holds
unfoldable pub answer_text : View → NormalEnd → List ℕ
answer_text s e = listed (record { list = nodes s e.dag.count; roots = roots_of e.dag.roots; rounds = e.rounds })

-- what an answer says of a text: it is the listing of the store's list, or the line of the refusal
abbrev pub Tells : List ℕ → List ℕ → Result NormalEnd Refusal → Type 0
Tells text after (Ok e) = (e.dag.count ≤ (interleaved after).room) × (answer_text (interleaved after) e ≡ text)
Tells text after (Err r) = refused_line r ≡ text
