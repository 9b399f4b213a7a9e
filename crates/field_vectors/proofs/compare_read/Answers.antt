-- the buffer holds the text's front
use Rattle.std.proofs.Common.{List, ℕ, ◌≡◌, rules, length, take, subst, sym, IfSome}
use Rattle.std.specs.declared.option.Option.{Option}
use Rattle.std.specs.declared.option.Option.TheVariants.{None, Some}
use Rattle.std.proofs.lemmas.Result.{on_ok_weaker}
use Rattle.std.specs.Io.KnownBytes.{Appends}
use Rattle.field_vectors.specs.Report.{report_of}
use Rattle.field_vectors.proofs.compare_read.Goals as goal

-- what is written of the bytes that were read is written of the text's front
written : (known old new : Option (List ℕ)) (front : List ℕ) (k : ℕ) → IfSome known (λ s. take k s ≡ front)
    → Appends old new (report_of front) → IfSome known (λ s. Appends old new (report_of (take k s)))
written None old new front k e h = tt
written (Some s) old new front k e h = subst (λ l. Appends old new (report_of l)) (sym e) h

pub returns : goal.returns
returns g c =
    let e : length c.read_full.new.buffer ≡ 65536 = search rules in
    on_ok_weaker _ (written _ _ _ _ 65536 (rw e at c.in_ok-n.ensures.front)) c.report.ensures
