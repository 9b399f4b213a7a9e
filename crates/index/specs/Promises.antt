-- What the index's methods say of its links.
use Rattle.std.specs.Prelude.{◌≡◌, length}
use Rattle.index.specs.declared.PlaceIndex.{PlaceIndex}

-- an index over the same links as before
pub record SameLinks (before after : PlaceIndex) : Type 0 where
  pub reference : after.links.ghost_name ≡ before.links.ghost_name
  pub words : length after.links.now ≡ length before.links.now
