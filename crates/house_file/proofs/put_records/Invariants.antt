-- The invariant: the store holds the words of the records before place i.
use Rattle.dag.specs.View.{interleaved, Agree}
use Rattle.house_file.specs.File as File
use Rattle.house_file.proofs.put_records.Given as goal

abbrev pub invariant-loop-i : goal.invariant-loop-i
invariant-loop-i l = Agree (interleaved l.list) (File.file_view l.file) l.i
