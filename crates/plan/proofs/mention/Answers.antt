use Rattle.std.proofs.Common.{◌<◌, length, get_or, refl, rules}
use Rattle.compact.specs.OperandLaws.{below_at}
use Rattle.plan.specs.FanoutLaws.{mentioned_turn, few_turn}
use Rattle.plan.proofs.mention.Goals as goal

pub offset_bounds-fan-place : goal.offset_bounds-fan-place
offset_bounds-fan-place c =
    let h : get_or c.args.places.now c.loop-place.place-index 0 < length c.args.fan.now = below_at _ _ c.requires.0 _ c.loop-place-test.true in
    search rules

pub bounds-fan-place : goal.bounds-fan-place
bounds-fan-place c = rw c.loop-place.auto.fan (below_at _ _ c.requires.0 _ c.loop-place-test.true)

pub bounds-fan-place-in-loop-place : goal.bounds-fan-place-in-loop-place
bounds-fan-place-in-loop-place c = rw c.loop-place.auto.fan (below_at _ _ c.requires.0 _ c.loop-place-test.true)

pub loop-place-preserved : goal.loop-place-preserved
loop-place-preserved c =
    let h : get_or c.args.places.now c.loop-place.place-index 0 < length c.loop-place.fan = rw c.loop-place.auto.fan (below_at _ _ c.requires.0 _ c.loop-place-test.true) in (
      mentioned_turn _ _ c.args.places.now _ _ c.loop-place-test.true c.loop-place.invariant.0 refl,
      few_turn _ _ c.args.places.now _ _ h c.loop-place.invariant.1,
    )
