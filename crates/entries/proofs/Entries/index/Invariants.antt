-- The invariant: the index holds the entries before entry i.
use Rattle.index.specs.Promises.{SameLinks}
use Rattle.entries.specs.KeyIndex.{Keyed}
use Rattle.entries.proofs.Entries.index.Given as goal

abbrev pub invariant-loop-i : goal.invariant-loop-i
invariant-loop-i g l = record {
  same : SameLinks l.initial.index l.index;
  keyed : Keyed g.row.WIDTH l.self.words.now l.i l.index.links.now;
}
