use Rattle.std.proofs.Common.{◌∙◌, refl, arith}
use Rattle.entries.specs.EntryLaws.{key_room}
use Rattle.entries.proofs.Entries.index.Goals as goal

pub loop-i-init : goal.loop-i-init
loop-i-init g c = record { same = record { reference = refl; words = refl }; keyed = c.requires.1 }

pub note-requires : goal.note-requires
note-requires g c =
    let v = c.loop-i.invariant in
    (omega arith, (v.keyed, omega (arith, c.loop-i-test.true, c.requires.2, v.same.words), key_room _ _ _ c.requires.0 _ c.loop-i-test.true))

pub loop-i-preserved : goal.loop-i-preserved
loop-i-preserved g c =
    let v = c.loop-i.invariant in
    let e = c.note.ensures in
    record { same = record { reference = e.same.reference ∙ v.same.reference; words = e.same.words ∙ v.same.words }; keyed = e.keyed }
