-- The invariant: the first bytes' number, with room for what follows.
use Rattle.std.proofs.Common.{◌≡◌, ◌<◌, ◌^◌}
use Rattle.house_file.specs.File as File
use Rattle.house_file.proofs.number.Given as goal

abbrev pub invariant-loop-byte : goal.invariant-loop-byte
invariant-loop-byte l = (l.value ≡ File.number l.file l.at l.byte-index) × (l.value < 256 ^ l.byte-index)
