use Rattle.std.proofs.Common.{◌≢◌, rules}
use Rattle.field.specs.Field.{elements}
use Rattle.dag.specs.declared.NodeKind.TheVariants.{Constant}
use Rattle.builder.proofs.Rules.{sub_folded, sub_cancelled}
use Rattle.builder.proofs.sub_rule.Goals as goal

pub returns-in-Some : goal.returns-in-Some
returns-in-Some c = sub_folded (elements c.args.prime) c.args.x c.args.y c.args.a c.args.b _ _ _ c.in-Some.ensures c.sub.ensures.0

pub returns-in-Some-cancel_sub : goal.returns-in-Some-cancel_sub
unfolding elements
returns-in-Some-cancel_sub c =
    let p : c.args.y ≢ Constant (elements c.args.prime).zero = search rules in
    sub_cancelled (elements c.args.prime) c.args.x c.args.y c.args.a c.args.b c.in_default.ensures p c.if-a-b.false _ c.in-Some-cancel_sub.ensures
