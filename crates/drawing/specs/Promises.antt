-- What the functions of a file's drawing say.
use Rattle.std.specs.Prelude.{ℕ, List, ◌≡◌, Result, Ok, Err}
use Rattle.dag.specs.declared.Refusal.{Refusal}
use Rattle.text.specs.Promises.{Laid}
use Rattle.wording.specs.Refused.{refused_line}

-- what an answer says of a text: it is written whole, or it is the line of the refusal and nothing is written
abbrev pub Tells : List ℕ → List ℕ → List ℕ → Result ℕ Refusal → Type 0
Tells text before after (Ok n) = Laid before text after n
Tells text before after (Err r) = (after ≡ before) × (refused_line r ≡ text)
