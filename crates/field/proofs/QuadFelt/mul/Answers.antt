-- `field::QuadFelt::mul` meets its contract: in field 2 there is no second part.
use Rattle.std.proofs.Common.{◌≡◌, ℕ, sym, ap, ◌∙◌, subst}
use Rattle.field.specs.Field.{new, felt, elements, Below, element_laws_lem, mul_part}
use Rattle.field.specs.declared.Prime.{Prime}
use Rattle.field.proofs.QuadFelt.mul.Goals as goal

pub returns-in-BabyBear : goal.returns-in-BabyBear
returns-in-BabyBear c =
    let e = c.from_base.ensures ∙ ap (λ (n : ℕ). new n 0) c.mul.ensures.0 in
    let f =
    e ∙ subst (λ (prime : Prime). new ((felt prime).mul c.args.self.c0 c.args.o.c0) 0 ≡ (elements prime).mul c.args.self c.args.o) (sym c.in-BabyBear.is)
    (sym (mul_part c.args.self c.args.o)) in
    (f, subst (Below c.args.prime) (sym f) ((element_laws_lem c.args.prime).low_mul c.args.self c.args.o))
