-- `house_file::put_records` meets its contract, record by record.
use Rattle.std.proofs.Common.{◌<◌, ap, arith}
use Rattle.dag.specs.View.{interleaved}
use Rattle.dag.specs.ViewLaws.{same_room}
use Rattle.dag.specs.StoreLaws.{put_more}
use Rattle.house_file.specs.File as File
use Rattle.house_file.proofs.put_records.Goals as goal

pub put_words-requires : goal.put_words-requires
put_words-requires c = omega (arith, c.requires.1, same_room c.loop-i.list c.args.list.now c.loop-i.auto.list, c.loop-i-test.true)

pub loop-i-preserved : goal.loop-i-preserved
unfolding File.file_view
loop-i-preserved c =
    let is = c.words_at.ensures in
    let room = same_room c.loop-i.list c.args.list.now c.loop-i.auto.list in
    let fits : c.loop-i.i < (interleaved c.loop-i.list).room = omega (arith, c.requires.1, room, c.loop-i-test.true) in
    rw c.put_words.ensures
    (put_more c.loop-i.list c.loop-i.i _ _ _ fits (File.file_view c.args.file.now) c.loop-i.invariant (ap (λ w. w.tag) is)
    (ap (λ w. w.first) is) (ap (λ w. w.second) is))
