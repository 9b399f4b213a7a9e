-- A list that is taken up.
use Rattle.std.specs.Prelude.{ℕ, ◌*◌, ◌≤◌, List, ◌≡◌, length}
use Rattle.std.proofs.Common.{sym}
use Rattle.field.specs.Fields.{Bounds}
use Rattle.dag.specs.View.{interleaved}
use Rattle.dag.specs.ViewLaws.{words_room, front_agree, agree_sound, agree_nodes}
use Rattle.dag.specs.Nodes.{nodes}
use Rattle.dag.specs.Store.{Sound, front}

-- the records of s at the start of u
module _ (s u : List ℕ) (n : ℕ) (e : front n u ≡ front n s) where
  pub loaded_records : nodes (interleaved u) n ≡ nodes (interleaved s) n
  loaded_records = sym (agree_nodes (interleaved s) (interleaved u) n (front_agree s u n (sym e)))

  pub loaded_sound : (m : Bounds) → 3 * n ≤ length u → Sound m (interleaved s) n → Sound m (interleaved u) n
  loaded_sound m h d = agree_sound (interleaved s) (interleaved u) m n (words_room u n h) (front_agree s u n (sym e)) d
