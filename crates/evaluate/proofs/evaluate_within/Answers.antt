-- `evaluate::evaluate_within` meets its contract: the inputs pass or refuse, and the roots have their values.
use Rattle.std.proofs.Common.{arith}
use Rattle.std.proofs.lemmas.List.{length-replicate}
use Rattle.std.proofs.lemmas.Result.{err_from_is_err_and}
use Rattle.field.specs.Fields.{field_of}
use Rattle.field.specs.declared.QuadFelt.{QuadFelt}
use Rattle.dag.specs.BranchLaws.{told}
use Rattle.dag.specs.PassLaws.{rooted}
use Rattle.dag.specs.RootLaws.{inside_mono}
use Rattle.entries.specs.EntryLaws.{entries_pass}
use Rattle.entries.specs.KeyIndexLaws.{links_room, links_keyed}
use Rattle.evaluate.specs.CallLaws.{inputs_refused, inputs_value}
use Rattle.evaluate.proofs.evaluate_within.Goals as goal

pub index-requires : goal.index-requires
index-requires g c = (
  omega arith,
  (
    (entries_pass (field_of c.args.dag.prime).bounds _ _ _ c.requires.passed (omega arith)).0,
    rw c.new-index.ensures.held (links_keyed c.requires.sized _ _),
    rw c.new-index.ensures.held (links_room c.requires.sized),
  ),
)

pub invariant_of-keyed : goal.invariant_of-keyed
invariant_of-keyed g c =
    record {
      lookup = record { lent = (entries_pass (field_of c.args.dag.prime).bounds _ _ _ c.requires.passed (omega arith)).0; keyed = rw c.as_slice.ensures c.index.ensures.keyed };
    }

pub fill_values-requires-clause-fits : goal.fill_values-requires-clause-fits
fill_values-requires-clause-fits g c =
    omega (arith, length-replicate {A = QuadFelt} g.row.VALUES (record { c0 = 0; c1 = 0 }), c.requires.sized.records)

pub returns-in_err-fill_values : goal.returns-in_err-fill_values
returns-in_err-fill_values g c =
    let d = c.args.dag in
    let p = err_from_is_err_and c.from_residual.result c.from_residual.ensures.1 in
    rw (p.1, p.2)
    (inputs_refused (field_of d.prime) _ _ _ _ _ c.requires.rooted c.requires.passed _ (told c.fill_values.ensures.value c.in_err-fill_values.was))

pub root_values-requires : goal.root_values-requires
root_values-requires g c =
    inside_mono _ _ (rooted _ _ _ _ c.requires.rooted).inside _
    (omega (arith, length-replicate {A = QuadFelt} g.row.VALUES (record { c0 = 0; c1 = 0 }), c.requires.sized.records, c.fill_values.auto.values))

pub returns : goal.returns
returns g c =
    let d = c.args.dag in
    rw c.root_values.ensures
    (inputs_value (field_of d.prime) _ _ _ _ _ c.requires.rooted c.requires.passed (told c.fill_values.ensures.value c.in_ok-fill_values.was) _
    (c.fill_values.ensures.filled c.in_ok-fill_values.was))
