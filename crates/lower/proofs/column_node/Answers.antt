use Rattle.std.proofs.Common.{sym, ◌∙◌}
use Rattle.field.specs.Fields.{field_of}
use Rattle.periodic.specs.SameLaws.{same_is}
use Rattle.periodic.specs.RunLaws.{enter_like}
use Rattle.lower.specs.FormLaws.{formed_of, node_is}
use Rattle.lower.proofs.column_node.Goals as goal

pub column_value-requires : goal.column_value-requires
column_value-requires c =
    let columns = c.args.weighed.now.columns in (
      c.column-col.ensures.0 ∙ sym c.requires.0,
      formed_of (field_of columns.prime) _ _ _ _ _ columns.tested.handed c.requires.2 c.column-col.ensures.1 c.form.ensures,
    )

pub returns : goal.returns
returns c =
    enter_like c.requires.0 (same_is (node_is (field_of c.args.weighed.now.columns.prime) _ _ _ _ _ _ c.column-col.ensures.1 c.form.ensures c.log_length.ensures.0)) c.column_value.ensures
