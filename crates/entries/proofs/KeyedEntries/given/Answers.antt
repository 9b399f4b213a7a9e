use Rattle.std.proofs.Common.{sym, ◌∙◌, arith}
use Rattle.entries.specs.EntryLaws.{entry_inside, entry_room}
use Rattle.entries.proofs.KeyedEntries.given.Goals as goal

pub element_at-requires : goal.element_at-requires
element_at-requires g c =
    (omega arith, (c.requires, entry_room _ _ _ c.args.self.now.lookup.lent _ (entry_inside _ _ _ _ _ (sym c.in_ok-i.ensures))))

pub returns-in_err-i : goal.returns-in_err-i
returns-in_err-i g c = c.from_residual.ensures ∙ rw (← c.in_err-i.ensures)

pub returns : goal.returns
returns g c = rw (c.element_at.ensures, ← c.in_ok-i.ensures)
