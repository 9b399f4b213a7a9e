use Rattle.std.proofs.Common.{◌∙◌}
use Rattle.field.specs.Fields.{field_of}
use Rattle.normalize.specs.CallLaws.{dag_ready, copied_ready, finished}
use Rattle.normalize.proofs.normalize_ready.Goals as goal

pub normalize_sized-end-requires : goal.normalize_sized-end-requires
normalize_sized-end-requires c =
    copied_ready (field_of c.args.dag.prime) (dag_ready c.args.dag c.requires.0 c.requires.2) c.args.res.now c.copy_records.ensures

pub returns : goal.returns
returns c =
    finished (field_of c.args.dag.prime) (dag_ready c.args.dag c.requires.0 c.requires.2) c.args.res.now c.copy_records.ensures c.normalize_sized-end.ensures
    (c.normalize_sized-end.auto.res ∙ c.copy_records.auto.to) c.normalize_sized-end.new.work
    c.blank_records.ensures c.normalize_sized-end.auto.work c.blank_from.ensures
