-- The line of a refusal, piece after piece, and how long it is.
use Rattle.std.specs.Prelude.{◌+◌, ◌≤◌, ◌<◌, ◌++◌, ◌≡◌, length}
use Rattle.std.proofs.Common.{append_assoc, sym, ◌∙◌, ap, arith, length-append}
use Rattle.dag.specs.Refusals.{number, place}
use Rattle.dag.specs.declared.Refusal.{Refusal}
use Rattle.text.specs.Text.{ascii, decimal, ended, named, line, space, newline}
use Rattle.text.specs.DecimalLaws.{number_short, named_short}
use Rattle.wording.specs.Refused.{refused_line}

module _ (r : Refusal) where
  pub refused_is : named (ascii "refused") (number r) space ++ ended (decimal (place r)) newline ≡ refused_line r
  unfolding named refused_line line
  refused_is = simp append_assoc

  pub length_refused : length (refused_line r) ≡ length (named (ascii "refused") (number r) space) + length (ended (decimal (place r)) newline)
  length_refused = sym (ap length refused_is) ∙ length-append (named (ascii "refused") (number r) space) (ended (decimal (place r)) newline)

  -- with numbers of at most four digits
  pub refused_most : number r < 10000 → place r < 10000 → length (refused_line r) ≤ 18
  unfolding ascii
  refused_most h k = omega (arith, length_refused, named_short (ascii "refused") (number r) 32 h, number_short 3 (place r) 10 k)
