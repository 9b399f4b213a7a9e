use Rattle.std.proofs.Common.{refl, arith}
use Rattle.field.specs.Fields.{field_of}
use Rattle.normalize.specs.OnceLaws as Rounded
use Rattle.normalize.proofs.normalize_once.Goals as goal

pub returns-in_err-count : goal.returns-in_err-count
returns-in_err-count c = rw c.from_residual.ensures (Rounded.not_fired (field_of c.args.prime) {roots = c.args.dag.now.roots} c.in_err-count.ensures c.fanout.ensures)

pub number_reachable-size-requires : goal.number_reachable-size-requires
number_reachable-size-requires c =
    let h = Rounded.round_short (field_of c.args.prime) c.requires.0 c.in_ok-count.ensures c.fanout.ensures in (
      Rounded.markable (field_of c.args.prime) c.requires.0 c.in_ok-count.ensures c.fanout.ensures c.renamed-new_roots.ensures,
      refl,
      omega (arith, h, c.index_list.ensures.same.words),
    )

pub returns-then-n-size : goal.returns-then-n-size
returns-then-n-size c =
    Rounded.no_shorter (field_of c.args.prime) c.requires.0 c.in_ok-count.ensures c.fanout.ensures c.renamed-new_roots.ensures
    c.number_reachable-size.ensures.0 (omega (arith, c.if-n-size.true))

pub returns : goal.returns
returns c =
    Rounded.kept_once (field_of c.args.prime) c.requires.0 c.in_ok-count.ensures c.fanout.ensures c.renamed-new_roots.ensures
    c.number_reachable-size.ensures.0 (omega (arith, c.if-n-size.false)) c.write_numbered.ensures.0 c.write_numbered.ensures.1
