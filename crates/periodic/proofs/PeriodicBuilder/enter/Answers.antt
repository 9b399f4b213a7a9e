use native.Mathlib.Omega.{arith}
use Rattle.periodic.specs.EnterLaws.{enter_place, enter_long, enter_node, node_sound, node_indexed, node_list_room, node_link_room}
use Rattle.periodic.proofs.PeriodicBuilder.enter.Goals as goal

pub returns-then-place-eq-MOST_RECORDS : goal.returns-then-place-eq-MOST_RECORDS
returns-then-place-eq-MOST_RECORDS c = enter_long c.args.self.now _ c.requires _ c.resolve.ensures _ c.in-Node.is c.if-place-eq-MOST_RECORDS.true

pub append_noted-requires : goal.append_noted-requires
append_noted-requires c =
    let b = c.args.self.now in
    (omega (arith, b.few, b.list_room), omega (arith, b.few, b.link_room))

pub invariant_of-self : goal.invariant_of-self
invariant_of-self c =
    let b = c.args.self.now in
    let d = c.append_noted.ensures in
    record {
      few = omega (arith, b.few);
      sound = node_sound b _ c.requires _ c.resolve.ensures _ c.in-Node.is (omega (arith, b.few)) _ _ d.same d.list d.links;
      indexed = node_indexed b _ c.requires _ c.resolve.ensures _ c.in-Node.is (omega (arith, b.few)) _ _ d.same d.list d.links;
      list_room = node_list_room b _ c.requires _ c.resolve.ensures _ c.in-Node.is (omega (arith, b.few)) _ _ d.same d.list d.links;
      link_room = node_link_room b _ c.requires _ c.resolve.ensures _ c.in-Node.is (omega (arith, b.few)) _ _ d.same d.list d.links;
    }

pub returns-in-Place : goal.returns-in-Place
returns-in-Place c = enter_place c.args.self.now _ c.requires _ c.resolve.ensures _ c.in-Place.is

pub returns-else-place-eq-MOST_RECORDS : goal.returns-else-place-eq-MOST_RECORDS
returns-else-place-eq-MOST_RECORDS c =
    let d = c.append_noted.ensures in
    enter_node c.args.self.now _ c.requires _ c.resolve.ensures _ c.in-Node.is (omega (arith, c.args.self.now.few)) _ _ d.same d.list d.links
