-- A text written whole, handed on to a writer.
use Rattle.std.proofs.Common.{rules, ℕ, ◌≡◌, List, take, subst, IfSome}
use Rattle.std.proofs.Math.Seq.{take-append_seam}
use Rattle.std.specs.declared.option.Option.{Option}
use Rattle.std.specs.declared.option.Option.TheVariants.{None, Some}
use Rattle.std.specs.Io.KnownBytes.{Appends}
use Rattle.text.specs.Text.{laid}
use Rattle.text.specs.Promises.{Laid, Read, Writes}

-- what stands in front of a text written whole
front : {before text after : List ℕ} {n : ℕ} → Laid before text after n → take n after ≡ text
unfolding laid
front l = rw (l.store_is, l.length_is) (take-append_seam _ _)

-- the text that is made of an input, appended to what a writer holds
pub appended : (made : List ℕ → List ℕ) (known old new : Option (List ℕ)) (buffer : List ℕ) (n : ℕ) {before after : List ℕ} {m : ℕ} → IfSome known (λ file. Read file buffer n)
    → Writes made buffer n before after m → Appends old new (take m after) → IfSome known (λ file. Appends old new (made file))
appended made None old new buffer n r l h = search rules
appended made (Some file) old new buffer n r l h = subst (Appends old new) (front (l file r)) h
