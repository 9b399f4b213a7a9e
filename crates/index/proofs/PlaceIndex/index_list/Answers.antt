-- `PlaceIndex::index_list` meets its contract, record by record.
use Rattle.std.proofs.Common.{◌∙◌, refl, arith}
use Rattle.dag.specs.Nodes as Nodes
use Rattle.index.specs.NodeIndexLaws.{index_next}
use Rattle.index.proofs.PlaceIndex.index_list.Goals as goal

pub loop-i-init : goal.loop-i-init
unfolding Nodes.nodes
loop-i-init c = record { same = record { reference = refl; words = refl }; indexed = c.clear.ensures.empty }

pub note-requires : goal.note-requires
note-requires c = omega (arith, c.loop-i-test.true, c.requires.1, c.loop-i.invariant.same.words, c.clear.ensures.same.words)

pub loop-i-preserved : goal.loop-i-preserved
loop-i-preserved c =
    let v = c.loop-i.invariant in
    record {
      same = record { reference = c.note.ensures.same.reference ∙ v.same.reference; words = c.note.ensures.same.words ∙ v.same.words };
      indexed = index_next c.requires.0.0 _ _ _ _ _ c.requires.0.1 c.loop-i-test.true (omega (arith, c.requires.1, v.same.words, c.clear.ensures.same.words)) v.indexed (rw c.words_at.ensures at c.note.ensures.noted);
    }

pub returns-clause-same : goal.returns-clause-same
returns-clause-same c =
    let v = c.loop-i.invariant in
    record { reference = v.same.reference ∙ c.clear.ensures.same.reference; words = v.same.words ∙ c.clear.ensures.same.words }
