use Rattle.std.proofs.Common.{refl, sym, ◌∙◌, arith}
use Rattle.std.proofs.lemmas.Result.{err_from_is_err_and}
use Rattle.field.specs.Fields.{field_of}
use Rattle.dag.specs.Refusals.{first_refused}
use Rattle.dag.specs.BranchLaws.{told, none_of, some_of}
use Rattle.entries.specs.Entries.{inputs_check}
use Rattle.evaluate.specs.ValueStepLaws.{may_value, filled_more, input_more, input_none}
use Rattle.evaluate.proofs.fill_values.Goals as goal

pub loop-i-init : goal.loop-i-init
unfolding inputs_check first_refused
loop-i-init c = (λ j h. absurd (omega arith), refl)

pub value_of-requires-clause-valued : goal.value_of-requires-clause-valued
value_of-requires-clause-valued c =
    may_value (field_of c.args.dag.prime) _ _ c.args.dag.sound _ _ c.requires.passed _ _ (omega arith) (omega (arith, c.requires.fits)) c.loop-i.invariant.0

pub returns-in_err-values-clause-value : goal.returns-in_err-values-clause-value
returns-in_err-values-clause-value c =
    let p = err_from_is_err_and c.from_residual.result c.from_residual.ensures.1 in
    let q = none_of c.in_err-values.ensures.value in
    rw (p.1, p.2, q.1)
    (input_none (field_of c.args.dag.prime) _ _ c.args.dag.sound _ _ c.requires.passed _ _ (omega arith) c.loop-i.invariant.1 (sym (told c.value_of.ensures q.0)))

pub loop-i-preserved : goal.loop-i-preserved
loop-i-preserved c =
    let e = some_of _ c.in_ok-values.ensures.value ∙ c.value_of.ensures in (
      filled_more (field_of c.args.dag.prime) _ _ c.args.dag.sound _ _ c.requires.passed _ _ (omega arith) (omega (arith, c.requires.fits)) c.loop-i.invariant.0
          _ _ e refl,
      input_more (field_of c.args.dag.prime) _ _ c.args.dag.sound _ _ c.requires.passed _ _ (omega arith) c.loop-i.invariant.1 _ e,
    )
