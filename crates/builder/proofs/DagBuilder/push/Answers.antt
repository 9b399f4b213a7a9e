use Rattle.field.specs.Fields.{field_of}
use Rattle.builder.specs.RequestLaws.{noted_place, noted_node}
use Rattle.builder.proofs.DagBuilder.push.Goals as goal

pub append-requires : goal.append-requires
append-requires c = (c.requires.1.room, c.requires.1.link_room)

pub returns-in-Place-clause-noted : goal.returns-in-Place-clause-noted
returns-in-Place-clause-noted c =
    noted_place (field_of c.args.self.now.prime) c.args.self.now.list.now c.args.self.now.count c.args.x c.requires.0 _ _ _ c.resolve.ensures
    c.in-Place.is c.requires.1

pub returns-in-Node-clause-noted : goal.returns-in-Node-clause-noted
returns-in-Node-clause-noted c =
    let d = c.append.ensures.appended in
    rw (d.place_is, d.count_is)
    (noted_node (field_of c.args.self.now.prime) c.args.self.now.list.now c.args.self.now.count c.args.x c.requires.0 _ _ _ _ _ c.resolve.ensures
    c.in-Node.is d.list_is c.requires.1 d.links_are)
