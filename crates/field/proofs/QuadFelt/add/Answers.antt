-- `field::QuadFelt::add` meets its contract, part by part.
use Rattle.std.proofs.Common.{sym, ◌∙◌, subst, ap₂}
use Rattle.field.specs.Field.{new, Below, element_laws_lem, add_parts}
use Rattle.field.proofs.QuadFelt.add.Goals as goal

pub returns : goal.returns
returns c =
    let e = ap₂ new c.add.ensures.0 c.add-2.ensures.0 ∙ sym (add_parts c.args.prime c.args.self c.args.o c.requires.0 c.requires.1) in
    (e, subst (Below c.args.prime) (sym e) ((element_laws_lem c.args.prime).low_add c.args.self c.args.o))
