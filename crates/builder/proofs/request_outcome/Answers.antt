use Rattle.std.proofs.Common.{arith}
use Rattle.dag.specs.View.{interleaved}
use Rattle.field.specs.Fields.{field_of}
use Rattle.builder.specs.OutcomeLaws.{operands_below, at_below}
use Rattle.builder.specs.RequestLaws.{asks_add, asks_sub, asks_mul, asks_neg, leaf_comes, add_comes, sub_comes, mul_comes, neg_comes}
use Rattle.builder.proofs.request_outcome.Goals as goal

pub add_outcome-requires : goal.add_outcome-requires
add_outcome-requires c = asks_add (field_of c.args.prime) c.requires c.in-Add.is

pub sub_outcome-requires : goal.sub_outcome-requires
sub_outcome-requires c = asks_sub (field_of c.args.prime) c.requires c.in-Sub.is

pub node_at-requires : goal.node_at-requires
node_at-requires c = let h = asks_mul (field_of c.args.prime) c.requires c.in-Mul.is in omega (arith, h.left_inside, h.sound.room)

pub node_at-requires-in-Mul : goal.node_at-requires-in-Mul
node_at-requires-in-Mul c = let h = asks_mul (field_of c.args.prime) c.requires c.in-Mul.is in omega (arith, h.right_inside, h.sound.room)

pub mul_outcome-requires : goal.mul_outcome-requires
mul_outcome-requires c = operands_below (field_of c.args.prime) (asks_mul (field_of c.args.prime) c.requires c.in-Mul.is) c.node_at.ensures c.node_at-in-Mul.ensures

pub node_at-requires-in-Neg : goal.node_at-requires-in-Neg
node_at-requires-in-Neg c = let h = asks_neg (field_of c.args.prime) c.requires c.in-Neg.is in omega (arith, c.requires.sound.room, h)

pub neg_outcome-requires : goal.neg_outcome-requires
neg_outcome-requires c =
    at_below (field_of c.args.prime) (interleaved c.args.list.now) c.args.n c.requires.sound _ _ (asks_neg (field_of c.args.prime) c.requires c.in-Neg.is) c.node_at-in-Neg.ensures

pub returns-in-Input : goal.returns-in-Input
returns-in-Input c = leaf_comes (field_of c.args.prime) c.requires c.in-Input.is

pub returns-in-Add : goal.returns-in-Add
returns-in-Add c = add_comes (field_of c.args.prime) c.requires c.in-Add.is c.add_outcome.ensures

pub returns-in-Sub : goal.returns-in-Sub
returns-in-Sub c = sub_comes (field_of c.args.prime) c.requires c.in-Sub.is c.sub_outcome.ensures

pub returns-in-Mul : goal.returns-in-Mul
returns-in-Mul c = mul_comes (field_of c.args.prime) c.requires c.in-Mul.is c.node_at.ensures c.node_at-in-Mul.ensures c.mul_outcome.ensures

pub returns-in-Neg : goal.returns-in-Neg
returns-in-Neg c = neg_comes (field_of c.args.prime) c.requires c.in-Neg.is c.node_at-in-Neg.ensures c.neg_outcome.ensures
