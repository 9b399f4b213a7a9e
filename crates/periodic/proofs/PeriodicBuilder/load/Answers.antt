use native.Mathlib.Omega.{arith}
use Rattle.std.proofs.Common.{refl, ◌∙◌, ap}
use Rattle.dag.specs.Store.{front}
use Rattle.dag.specs.ViewLaws.{room_words, words_room}
use Rattle.dag.specs.WordLaws.{front_copied}
use Rattle.periodic.specs.LoadLaws.{loaded_records, loaded_sound}
use Rattle.periodic.proofs.PeriodicBuilder.load.Goals as goal

pub copy_records-requires : goal.copy_records-requires
copy_records-requires c = (c.args.dag.sound.room, omega (arith, c.args.dag.most, c.requires.list_room))

pub invariant_of-result : goal.invariant_of-result
invariant_of-result c =
    let d = c.args.dag in
    let e = ap (front d.n) c.copy_records.ensures ∙ front_copied d.list.now c.args.list.now d.n d.sound.room in
    let room = room_words c.args.list.now 4096 c.requires.list_room in
    record {
      few = d.most;
      sound = loaded_sound d.list.now c.copy_records.new.to d.n e _ (omega (arith, d.most, room, c.copy_records.auto.to)) d.sound;
      indexed = rw (loaded_records d.list.now c.copy_records.new.to d.n e) c.index_list.ensures.indexed;
      list_room = words_room c.copy_records.new.to 4096 (omega (arith, room, c.copy_records.auto.to));
      link_room = omega (arith, c.index_list.ensures.same.words, c.requires.link_room);
    }

pub returns-clause-loaded : goal.returns-clause-loaded
returns-clause-loaded c =
    let d = c.args.dag in
    let e = ap (front d.n) c.copy_records.ensures ∙ front_copied d.list.now c.args.list.now d.n d.sound.room in
    record { prime_is = refl; list_is = loaded_records d.list.now c.copy_records.new.to d.n e; count_is = refl }
