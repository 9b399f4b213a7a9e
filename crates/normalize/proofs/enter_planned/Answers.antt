use Rattle.std.specs.Prelude.{Some}
use Rattle.std.proofs.Common.{◌≡◌, ◌∙◌, ap}
use Rattle.plan.specs.declared.Rewrite.TheVariants.{Factored, Rotated}
use Rattle.field.specs.Fields.{field_of}
use Rattle.field.specs.Field.{Below}
use Rattle.dag.specs.WellFormedLaws.{fine_any}
use Rattle.normalize.specs.EnterLaws as Enter
use Rattle.normalize.proofs.enter_planned.Goals as goal

pub push-inner-requires : goal.push-inner-requires
push-inner-requires c =
    let b = c.args.work.now in
    let a = c.in-Some-Factored in
    let e : c.args.plan ≡ Some (Factored a.factor a.a_other a.b_other) = a.is ∙ ap Some (rw a.is at a.field-0-is) in (
      Enter.inner_request (field_of b.prime) c.requires.0.1 _ _ _ e _ _ c.mapped.ensures c.mapped-in-Some-Factored.ensures _ c.like.ensures,
      Enter.push_room (field_of b.prime) c.requires.0.1 _ c.requires.1,
    )

pub push-requires : goal.push-requires
push-requires c =
    let b = c.args.work.now in
    let a = c.in-Some-Factored in
    let e : c.args.plan ≡ Some (Factored a.factor a.a_other a.b_other) = a.is ∙ ap Some (rw a.is at a.field-0-is) in
    let p = c.push-inner.ensures in
    rw p.same.prime
    (Enter.outer_request (field_of b.prime) c.requires.0.1 _ _ _ e _ _ c.mapped.ensures c.mapped-in-Some-Factored.ensures _ c.like.ensures _ _ p.noted.pushed _
    c.mapped-in-Some-Factored-2.ensures b.index.now.links.now _ c.requires.1 p.noted.index p.same.link_words)

pub push-requires-in-Some-Rotated : goal.push-requires-in-Some-Rotated
push-requires-in-Some-Rotated c =
    let b = c.args.work.now in
    let a = c.in-Some-Rotated in
    let e : c.args.plan ≡ Some (Rotated a.existing a.remaining) = a.is ∙ ap Some (rw a.is at a.field-0-is) in (
      Enter.rotated_request (field_of b.prime) c.requires.0.1 _ _ e _ _ c.mapped-in-Some-Rotated.ensures c.mapped-in-Some-Rotated-2.ensures _ c.like-in-Some-Rotated.ensures,
      Enter.push_room (field_of b.prime) c.requires.0.1 _ c.requires.1,
    )

pub renamed-requires : goal.renamed-requires
renamed-requires c =
    let b = c.args.work.now in
    fine_any (Below b.prime) _ _ (Enter.record_fits (field_of b.prime) c.requires.0.1)

pub push-requires-in-None : goal.push-requires-in-None
push-requires-in-None c =
    let b = c.args.work.now in (
      rw c.renamed.ensures (Enter.plain_request (field_of b.prime) c.requires.0.1),
      Enter.push_room (field_of b.prime) c.requires.0.1 _ c.requires.1,
    )

pub returns-in-Some-Factored-clause-planned : goal.returns-in-Some-Factored-clause-planned
returns-in-Some-Factored-clause-planned c =
    let b = c.args.work.now in
    let a = c.in-Some-Factored in
    let e : c.args.plan ≡ Some (Factored a.factor a.a_other a.b_other) = a.is ∙ ap Some (rw a.is at a.field-0-is) in
    let p = c.push-inner.ensures in
    Enter.factored_planned (field_of b.prime) c.requires.0.1 _ _ _ e _ _ c.mapped.ensures c.mapped-in-Some-Factored.ensures _ c.like.ensures _ _ p.noted.pushed _
    c.mapped-in-Some-Factored-2.ensures _ _ (rw p.same.prime at c.push.ensures.noted.pushed)

pub returns-in-Some-Rotated-clause-planned : goal.returns-in-Some-Rotated-clause-planned
returns-in-Some-Rotated-clause-planned c =
    let b = c.args.work.now in
    let a = c.in-Some-Rotated in
    let e : c.args.plan ≡ Some (Rotated a.existing a.remaining) = a.is ∙ ap Some (rw a.is at a.field-0-is) in
    Enter.rotated_planned (field_of b.prime) c.requires.0.1 _ _ e _ _ c.mapped-in-Some-Rotated.ensures c.mapped-in-Some-Rotated-2.ensures _ c.like-in-Some-Rotated.ensures _ _
    c.push-in-Some-Rotated.ensures.noted.pushed

pub returns-in-None-clause-planned : goal.returns-in-None-clause-planned
returns-in-None-clause-planned c =
    let b = c.args.work.now in
    Enter.plain_planned (field_of b.prime) c.requires.0.1 c.in-None.is _ _
    (rw c.renamed.ensures at c.push-in-None.ensures.noted.pushed)
