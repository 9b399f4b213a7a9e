-- `house_file::number` meets its contract, byte by byte.
use Rattle.std.proofs.Common.{refl, arith, ◌+◌, ◌∙◌}
use Rattle.std.proofs.lemmas.List.Edits.{get_or-between}
use native.Mathlib.Nat.{pow-zero}
use Rattle.house_file.specs.FileLaws.{number_small, number_next}
use Rattle.house_file.specs.File as File
use Rattle.house_file.proofs.number.Goals as goal

pub loop-byte-init : goal.loop-byte-init
unfolding File.number
loop-byte-init c = (refl, omega (arith, pow-zero 256))

pub overflow_mul-value : goal.overflow_mul-value
overflow_mul-value c = omega (arith, number_small c.loop-byte.value c.loop-byte.byte-index (omega arith) c.loop-byte.invariant.1)

pub overflow_add-value : goal.overflow_add-value
overflow_add-value c = omega (arith, number_small c.loop-byte.value c.loop-byte.byte-index (omega arith) c.loop-byte.invariant.1)

pub loop-byte-preserved : goal.loop-byte-preserved
loop-byte-preserved c =
    number_next c.args.file.now c.args.at c.loop-byte.byte-index c.loop-byte.value _ c.loop-byte.invariant.0 c.loop-byte.invariant.1
    (c.from.ensures ∙ get_or-between c.args.file.now c.args.at (c.args.at + c.args.k) c.loop-byte.byte-index 0 (omega arith)) (omega (arith, c.from.ensures))
