use Rattle.std.proofs.Common.{◌≡◌, ◌*◌, ◌-◌, replicate, sym, ◌∙◌, ap, arith, length}
use Rattle.field.specs.Fields.{field_of}
use Rattle.dag.specs.View.{interleaved}
use Rattle.dag.specs.Nodes.{nodes}
use Rattle.dag.specs.Arrays.{padded}
use Rattle.dag.specs.StoreLaws.{first_word_lem, second_word_lem}
use Rattle.encode.specs.Encode.{constant_words}
use Rattle.encode.specs.WriteLaws.{constant_put}
use Rattle.encode.proofs.StreamGeometry.put_constants.Goals as goal

pub loop-i-init : goal.loop-i-init
unfolding nodes constant_words padded
loop-i-init c =
    let size : length c.args.store.now ≡ 2 * c.args.self.constants - 0 = omega (arith, c.requires.2) in
    c.fill.ensures.after (λ y e. e) ∙ ap (λ k. replicate k 0) size

pub loop-i-preserved : goal.loop-i-preserved
loop-i-preserved c =
    let a = c.args.circuit in
    let table = interleaved a.constants.now in
    let w = c.words_at-words.ensures in
    constant_put table c.loop-i.i c.loop-i.store (2 * c.args.self.constants) c.loop-i.invariant
    (ap (λ w. w.first) w ∙ sym (first_word_lem (field_of a.dag.prime).bounds table a.counts.constants a.emitted.sound c.loop-i.i (omega arith)))
    (ap (λ w. w.second) w ∙ sym (second_word_lem (field_of a.dag.prime).bounds table a.counts.constants a.emitted.sound c.loop-i.i (omega arith)))
    (omega (arith, c.requires.1))

pub returns : goal.returns
returns c =
    let a = c.args.circuit in
    let e : c.loop-i.i ≡ a.counts.constants = omega arith in
    rw (← a.emitted.constants_are, ← e) c.loop-i.invariant
