-- `house_file::file_roots` meets its contract, root by root.
use Rattle.std.proofs.Common.{◌+◌, ◌*◌, rules, add-one, ap, ap₂, arith, ◌∙◌, length, [], ◌∷◌, ◌++◌}
use Rattle.dag.specs.Arrays.{up_to}
use Rattle.dag.specs.ArrayLaws.{length_up_to}
use Rattle.house_file.specs.File as File
use Rattle.house_file.proofs.file_roots.Goals as goal

pub loop-j-init : goal.loop-j-init
unfolding up_to
loop-j-init c = c.new-roots.ensures

pub push-requires : goal.push-requires
push-requires c = (search rules, omega (arith, ap length c.loop-j.invariant, length_up_to (File.file_root c.args.file.now) c.loop-j.j))

pub loop-j-preserved : goal.loop-j-preserved
unfolding up_to File.file_root
loop-j-preserved c =
    let named = c.number.ensures ∙ ap (λ at. File.number c.args.file.now (at + 4 * c.loop-j.j) 4) c.roots_place-at.ensures in
    rw (add-one c.loop-j.j) (c.push.ensures.items ∙ ap₂ (λ l x. l ++ (x ∷ [])) c.loop-j.invariant named)
