use Rattle.std.proofs.Common.{arith, ◌≢◌, rules}
use Rattle.field.specs.Field.{elements}
use Rattle.dag.specs.declared.NodeKind.TheVariants.{Constant}
use Rattle.builder.specs.Steps as Steps
use Rattle.builder.proofs.Rules.{add_folded, add_zero_right, add_cancelled, add_rest}
use Rattle.builder.proofs.add_rule.Goals as goal

pub returns-in-Some : goal.returns-in-Some
returns-in-Some c = add_folded (elements c.args.prime) c.args.x c.args.y c.args.a c.args.b _ _ _ c.in-Some.ensures c.add.ensures.0

pub returns-then-eq-2 : goal.returns-then-eq-2
unfolding elements
returns-then-eq-2 c = grind (arith, add_zero_right)

pub returns-in-Some-cancel_add : goal.returns-in-Some-cancel_add
unfolding elements
returns-in-Some-cancel_add c =
    let p : c.args.x ≢ Constant (elements c.args.prime).zero = search rules in
    let q : c.args.y ≢ Constant (elements c.args.prime).zero = search rules in
    add_cancelled (elements c.args.prime) c.args.x c.args.y c.args.a c.args.b c.in_default.ensures p q _ c.in-Some-cancel_add.ensures

pub returns-in_default-2 : goal.returns-in_default-2
unfolding elements Steps.is_neg
returns-in_default-2 c =
    let p : c.args.x ≢ Constant (elements c.args.prime).zero = search rules in
    let q : c.args.y ≢ Constant (elements c.args.prime).zero = search rules in
    let h = add_rest (elements c.args.prime) c.args.x c.args.y c.args.a c.args.b c.in_default.ensures p q c.in_default-cancel_add.ensures in
    grind (arith, h)
