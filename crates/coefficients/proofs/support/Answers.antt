use mathlib.Core.Path.{refl}
use Rattle.std.proofs.Common.{rules}
use Rattle.coefficients.specs.TermLaws.{place_none, place_one, place_next, place_room, place_end}
use Rattle.coefficients.proofs.support.Goals as goal
use Rattle.coefficients.proofs.support.Goals.{then-v-ne0, else-v-ne0}

pub push-requires : goal.push-requires
push-requires g c = (search rules, place_room _ _ c.loop-j-test.true _ _ _ refl c.loop-j.invariant c.requires c.if-v-ne0.true)

pub loop-j-preserved : goal.loop-j-preserved
loop-j-preserved g c =
    elim c.if-v-ne0.branch [
      | then-v-ne0 w ↦ rw w.places-is (place_next _ _ c.loop-j-test.true _ _ _ (place_one _ _ _ _ w.if-v-ne0.true w.push.ensures.items) c.loop-j.invariant)
      | else-v-ne0 w ↦ rw w.places-is (place_next _ _ c.loop-j-test.true _ _ _ (place_none _ _ _ w.if-v-ne0.false) c.loop-j.invariant)
    ]

pub returns : goal.returns
returns g c = place_end _ _ _ _ c.loop-j-test.false c.loop-j.invariant
