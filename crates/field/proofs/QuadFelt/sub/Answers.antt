-- `field::QuadFelt::sub` meets its contract, part by part.
use Rattle.std.proofs.Common.{sym, ◌∙◌, subst, ap₂}
use Rattle.field.specs.Field.{new, Below, element_laws_lem, sub_parts}
use Rattle.field.proofs.QuadFelt.sub.Goals as goal

pub returns : goal.returns
returns c =
    let e = ap₂ new c.sub.ensures.0 c.sub-2.ensures.0 ∙ sym (sub_parts c.args.prime c.args.self c.args.o c.requires.0 c.requires.1) in
    (e, subst (Below c.args.prime) (sym e) ((element_laws_lem c.args.prime).low_sub c.args.self c.args.o))
