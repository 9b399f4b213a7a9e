use Rattle.std.proofs.Common.{arith}
use Rattle.text.specs.DecimalLaws.{word_digits}
use Rattle.text.specs.CountLaws.{four_more}
use Rattle.text.proofs.decimal_length.Goals as goal

pub overflow_add-length : goal.overflow_add-length
overflow_add-length c = omega (arith, c.loop-rest.invariant, word_digits c.args.n)

pub loop-rest-preserved : goal.loop-rest-preserved
loop-rest-preserved c = omega (arith, c.loop-rest.invariant, four_more c.loop-rest.rest c.loop-rest-test.true)

pub overflow_add-result : goal.overflow_add-result
overflow_add-result c = omega (arith, c.loop-rest.invariant, c.few_digits.ensures, word_digits c.args.n)

pub returns-clause-length : goal.returns-clause-length
returns-clause-length c = omega (arith, c.loop-rest.invariant, c.few_digits.ensures)

pub returns-clause-few : goal.returns-clause-few
returns-clause-few c = omega (arith, c.loop-rest.invariant, c.few_digits.ensures, word_digits c.args.n)
