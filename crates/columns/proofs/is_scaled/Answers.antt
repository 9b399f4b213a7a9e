use Rattle.std.proofs.Common.{◌∙◌, ap, not, inl, inr, rules}
use Rattle.std.proofs.lemmas.Bool.{eq-eqb}
use Rattle.field.specs.Fields.{field_of}
use Rattle.columns.specs.CostLaws.{unit_told, scaled_told}
use Rattle.columns.specs.Columns as Columns
use Rattle.columns.proofs.is_scaled.Goals as goal

pub returns-then-k-ne1 : goal.returns-then-k-ne1
returns-then-k-ne1 c = ap not c.is_minus_one.ensures ∙ scaled_told (field_of c.args.prime) _ _ _ c.if-k-ne1.true.0 c.sub-k.ensures.0 c.if-k-ne1.true.1

pub returns-else-k-ne1 : goal.returns-else-k-ne1
unfolding Columns.is_scaled
returns-else-k-ne1 c = elim c.if-k-ne1.either [
  | inl h ↦ search (rules, unit_told (field_of c.args.prime) _ _ _ h.0 c.sub-k.ensures.0 h.1)
  | inr h ↦ rw (eq-eqb _ _ h) (search rules)
]
