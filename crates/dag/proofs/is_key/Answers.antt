-- `dag::is_key` meets its contract: no variant has more than three fields.
use Rattle.std.proofs.Common.{◌/◌, arith}
use Rattle.dag.specs.KeyLaws.{three_fields}
use Rattle.dag.proofs.is_key.Goals as goal

pub fields_hold-requires : goal.fields_hold-requires
fields_hold-requires c = (three_fields (c.args.k / 281474976710656), omega arith)
