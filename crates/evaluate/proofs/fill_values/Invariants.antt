-- The invariant: the inputs before record i have entries, and the values before it are filled in.
use Rattle.std.proofs.Common.{◌≡◌, Ok}
use Rattle.field.specs.Fields.{field_of}
use Rattle.dag.specs.View.{interleaved}
use Rattle.dag.specs.Nodes.{nodes}
use Rattle.entries.specs.Entries.{inputs_check, entry_of}
use Rattle.evaluate.specs.Calls.{entry_words}
use Rattle.evaluate.specs.Promises.{Filled}
use Rattle.evaluate.proofs.fill_values.Given as goal

abbrev pub invariant-loop-i : goal.invariant-loop-i
invariant-loop-i l =
    let d = l.dag in
    Filled (field_of d.prime) (interleaved d.list.now) d.n l.keyed.entries.words.now l.keyed.entries.count l.values l.i
    × (inputs_check (entry_of entry_words l.keyed.entries.words.now l.keyed.entries.count) (nodes (interleaved d.list.now) d.n) l.i ≡ Ok tt)
