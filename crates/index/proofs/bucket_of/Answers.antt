use mathlib.Core.Path.{refl}
use Rattle.index.specs.Index.{bucket_of}
use Rattle.index.specs.NodeIndexLaws.{bucket_below}
use Rattle.index.proofs.bucket_of.Goals as goal

pub returns : goal.returns
unfolding bucket_of
returns c = (refl, bucket_below _ _ c.requires.1 c.requires.0)
