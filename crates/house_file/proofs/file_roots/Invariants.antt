-- The invariant: the roots before root j.
use Rattle.std.proofs.Common.{◌≡◌}
use Rattle.dag.specs.Arrays.{up_to}
use Rattle.house_file.specs.File as File
use Rattle.house_file.proofs.file_roots.Given as goal

abbrev pub invariant-loop-j : goal.invariant-loop-j
invariant-loop-j l = l.roots.items ≡ up_to (File.file_root l.file) l.j
