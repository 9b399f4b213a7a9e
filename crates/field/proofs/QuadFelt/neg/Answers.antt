-- `field::QuadFelt::neg` meets its contract, part by part.
use Rattle.std.proofs.Common.{sym, ◌∙◌, subst, ap₂}
use Rattle.field.specs.Field.{new, Below, element_laws_lem, neg_parts}
use Rattle.field.proofs.QuadFelt.neg.Goals as goal

pub returns : goal.returns
returns c =
    let e = ap₂ new c.neg.ensures.0 c.neg-2.ensures.0 ∙ sym (neg_parts c.args.prime c.args.self c.requires) in
    (e, subst (Below c.args.prime) (sym e) ((element_laws_lem c.args.prime).low_neg c.args.self))
