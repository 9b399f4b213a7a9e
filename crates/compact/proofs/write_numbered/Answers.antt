use mathlib.Core.Path.{◌∙◌, ap}
use Rattle.compact.specs.Promises.{most_marks}
use Rattle.compact.specs.CallLaws.{kept_list, new_roots, may_write}
use Rattle.dag.specs.Store.{written}
use Rattle.compact.proofs.write_numbered.Goals as goal

pub write_marked-requires : goal.write_marked-requires
write_marked-requires c =
    may_write _ _ _ most_marks c.requires.0.markable _ c.requires.0.marks_are _ c.requires.0.behind c.requires.0.places_are
    c.requires.0.marks_fit c.requires.0.places_fit _ c.requires.1

pub returns : goal.returns
returns c = (
  c.renamed.ensures ∙ new_roots _ _ _ most_marks c.requires.0.markable _ c.requires.0.marks_are _ c.requires.0.behind
      c.requires.0.places_are,
  c.write_marked.ensures ∙ ap (written _)
      (kept_list _ _ _ most_marks c.requires.0.markable _ c.requires.0.marks_are),
)
