use Rattle.std.proofs.Common.{sym, ◌∙◌, eq-eqb, ne_eqb, arith}
use Rattle.dag.specs.BranchLaws.{told}
use Rattle.dag.specs.SearchLaws.{greatest_miss, greatest_hit, greatest_none}
use Rattle.entries.specs.Entries.{entry_of}
use Rattle.entries.specs.EntryLaws.{key_room}
use Rattle.entries.proofs.Entries.search.Goals as goal

pub key_at-requires : goal.key_at-requires
key_at-requires g c = (omega arith, key_room _ _ _ c.requires _ (omega arith))

pub returns-then-key_at-key : goal.returns-then-key_at-key
unfolding entry_of
returns-then-key_at-key g c =
    sym (c.loop-i.invariant ∙ greatest_hit _ c.loop-i.i c.loop-i-test.true (eq-eqb _ _ (told c.key_at.ensures c.if-key_at-key.true)))

pub loop-i-preserved : goal.loop-i-preserved
unfolding entry_of
loop-i-preserved g c =
    c.loop-i.invariant ∙ greatest_miss _ c.loop-i.i c.loop-i-test.true (ne_eqb _ _ (λ e. c.if-key_at-key.false (c.key_at.ensures ∙ e)))

pub returns : goal.returns
unfolding entry_of
returns g c = sym (c.loop-i.invariant ∙ greatest_none _ c.loop-i.i c.loop-i-test.false)
