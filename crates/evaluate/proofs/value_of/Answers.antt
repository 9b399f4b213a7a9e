-- `evaluate::value_of` meets its contract, record by record.
use Rattle.std.proofs.Common.{◌∙◌, arith}
use Rattle.field.specs.Fields.{field_of}
use Rattle.meaning.specs.Values.{value_of}
use Rattle.evaluate.specs.Calls.{given}
use Rattle.evaluate.specs.Promises.{record_answer}
use Rattle.evaluate.specs.RecordLaws.{element_given, low_read}
use Rattle.dag.specs.OperandLaws.{add_before, sub_before, mul_before, neg_before}
use Rattle.evaluate.proofs.value_of.Goals as goal

pub returns-in-Input : goal.returns-in-Input
unfolding record_answer value_of given
returns-in-Input c = rw (← c.in-Input.ensures) (c.given.ensures ∙ element_given _ _)

pub value_at-requires : goal.value_at-requires
value_at-requires c =
    let k = add_before (field_of c.args.dag.prime).bounds _ _ c.args.dag.sound _ c.requires.inside c.in-Add.ensures in omega (arith, k, c.requires.valued.fits)

pub value_at-requires-in-Add : goal.value_at-requires-in-Add
value_at-requires-in-Add c =
    let k = add_before (field_of c.args.dag.prime).bounds _ _ c.args.dag.sound _ c.requires.inside c.in-Add.ensures in omega (arith, k, c.requires.valued.fits)

pub add-requires : goal.add-requires
add-requires c =
    let k = add_before (field_of c.args.dag.prime).bounds _ _ c.args.dag.sound _ c.requires.inside c.in-Add.ensures in
    (low_read _ c.requires.valued _ (omega arith) c.value_at.ensures, low_read _ c.requires.valued _ (omega arith) c.value_at-in-Add.ensures)

pub value_at-requires-in-Sub : goal.value_at-requires-in-Sub
value_at-requires-in-Sub c =
    let k = sub_before (field_of c.args.dag.prime).bounds _ _ c.args.dag.sound _ c.requires.inside c.in-Sub.ensures in omega (arith, k, c.requires.valued.fits)

pub value_at-requires-in-Sub-2 : goal.value_at-requires-in-Sub-2
value_at-requires-in-Sub-2 c =
    let k = sub_before (field_of c.args.dag.prime).bounds _ _ c.args.dag.sound _ c.requires.inside c.in-Sub.ensures in omega (arith, k, c.requires.valued.fits)

pub sub-requires : goal.sub-requires
sub-requires c =
    let k = sub_before (field_of c.args.dag.prime).bounds _ _ c.args.dag.sound _ c.requires.inside c.in-Sub.ensures in
    (low_read _ c.requires.valued _ (omega arith) c.value_at-in-Sub.ensures, low_read _ c.requires.valued _ (omega arith) c.value_at-in-Sub-2.ensures)

pub value_at-requires-in-Mul : goal.value_at-requires-in-Mul
value_at-requires-in-Mul c =
    let k = mul_before (field_of c.args.dag.prime).bounds _ _ c.args.dag.sound _ c.requires.inside c.in-Mul.ensures in omega (arith, k, c.requires.valued.fits)

pub value_at-requires-in-Mul-2 : goal.value_at-requires-in-Mul-2
value_at-requires-in-Mul-2 c =
    let k = mul_before (field_of c.args.dag.prime).bounds _ _ c.args.dag.sound _ c.requires.inside c.in-Mul.ensures in omega (arith, k, c.requires.valued.fits)

pub mul-requires : goal.mul-requires
mul-requires c =
    let k = mul_before (field_of c.args.dag.prime).bounds _ _ c.args.dag.sound _ c.requires.inside c.in-Mul.ensures in
    (low_read _ c.requires.valued _ (omega arith) c.value_at-in-Mul.ensures, low_read _ c.requires.valued _ (omega arith) c.value_at-in-Mul-2.ensures)

pub value_at-requires-in-Neg : goal.value_at-requires-in-Neg
value_at-requires-in-Neg c =
    let k = neg_before (field_of c.args.dag.prime).bounds _ _ c.args.dag.sound _ c.requires.inside c.in-Neg.ensures in omega (arith, k, c.requires.valued.fits)

pub neg-requires : goal.neg-requires
neg-requires c = low_read _ c.requires.valued _ (neg_before (field_of c.args.dag.prime).bounds _ _ c.args.dag.sound _ c.requires.inside c.in-Neg.ensures) c.value_at-in-Neg.ensures
