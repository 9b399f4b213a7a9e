use Rattle.field.specs.Fields.{field_of}
use Rattle.builder.specs.BuildLaws.{finished}
use Rattle.builder.proofs.build_with.Goals as goal

pub returns : goal.returns
returns g c =
    finished (field_of c.args.dag.prime) _ _ _ _ _ c.args.dag.sound
    c.requires.0.inside _ _ _ c.replay-count.ensures c.replay-count.auto.res c.replay-count.auto.map
    c.requires.0.map_room _ _ _ c.blank_records.ensures c.blank_from.ensures c.renamed.ensures
