use Rattle.std.proofs.Common.{◌≢◌, ◌∙◌, ap, rules}
use Rattle.field.specs.Field.{elements}
use Rattle.dag.specs.declared.NodeKind.TheVariants.{Constant}
use Rattle.builder.specs.declared.Outcome.TheVariants.{Node}
use Rattle.builder.proofs.Rules.{mul_folded, mul_rest}
use Rattle.builder.proofs.mul_outcome.Goals as goal

pub returns-in-Some : goal.returns-in-Some
returns-in-Some c = mul_folded (elements c.args.prime) c.args.x c.args.y c.args.a c.args.b _ _ _ c.in-Some.ensures c.mul.ensures.0

pub returns : goal.returns
unfolding elements
returns c =
    let p : c.args.x ≢ Constant (elements c.args.prime).zero = search rules in
    let q : c.args.y ≢ Constant (elements c.args.prime).zero = search rules in
    let r : c.args.x ≢ Constant (elements c.args.prime).one = search rules in
    let s : c.args.y ≢ Constant (elements c.args.prime).one = search rules in
    ap Node c.canonical.ensures ∙ mul_rest (elements c.args.prime) c.args.x c.args.y c.args.a c.args.b c.in_default.ensures p q r s
