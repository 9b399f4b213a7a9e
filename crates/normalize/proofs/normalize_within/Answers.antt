use Rattle.std.proofs.Common.{refl, arith, ◌∙◌, ℕ}
use Rattle.std.proofs.lemmas.List.{length-replicate}
use Rattle.dag.specs.ViewLaws.{same_room}
use Rattle.field.specs.Fields.{field_of}
use Rattle.normalize.specs.CallLaws.{running_begins, running_ready, running_on, fewer, ended}
use Rattle.normalize.proofs.normalize_within.Goals as goal

pub loop-kept-init : goal.loop-kept-init
loop-kept-init g c = record { running = running_begins (field_of c.args.prime) c.requires.0; words = refl }

pub normalize_once-requires : goal.normalize_once-requires
normalize_once-requires g c =
    let v = c.loop-kept.invariant in (
      running_ready (field_of c.args.prime) v.running _ c.requires.0.few (rw (same_room c.loop-kept.work c.args.work.now c.loop-kept.auto.work) c.requires.0.room),
      omega (arith, v.running.lost, v.words, c.requires.1, length-replicate {A = ℕ} g.row.SCRATCH_WORDS 0),
    )

pub returns : goal.returns
returns g c = ended _ c.loop-kept.invariant.running c.in_default.ensures

pub loop-kept-smaller : goal.loop-kept-smaller
loop-kept-smaller g c = fewer _ c.loop-kept.invariant.running c.in-Some.ensures

pub loop-kept-preserved : goal.loop-kept-preserved
loop-kept-preserved g c = record { running = running_on _ c.loop-kept.invariant.running c.in-Some.ensures; words = c.normalize_once.auto.scratch ∙ c.loop-kept.invariant.words }
