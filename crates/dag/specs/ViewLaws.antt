-- Stores by their views: the room of an interleaved store, and stores that agree.
use Prim.Native.Nat.{ℕ, zero, suc, ◌+◌, ◌*◌, ◌≤◌, ◌<◌}
use Rattle.std.specs.Prelude.{List, [], ◌∷◌, ◌++◌, ◌≡◌, length, take}
use Rattle.std.proofs.Math.Path.{refl, sym, ap₂}
use Rattle.std.proofs.Common.{◌∙◌, ap, arith, length-take-le}
use Rattle.std.proofs.Math.ListN.{get_or}
use Rattle.std.proofs.Math.Seq.{get_or-take}
use Rattle.field.specs.Fields.{Bounds}
use Rattle.dag.specs.View.{View, interleaved, Agree}
use Rattle.dag.specs.Nodes.{record_at, nodes}
use Rattle.dag.specs.Refusals.{first_refused, ◌then◌}
use Rattle.dag.specs.Check.{check_at, records_check, rootless_check, list_check}
use Rattle.dag.specs.PassLaws.{enough_room}
use Rattle.dag.specs.Store.{Alike, front, Sound}

-- room for n records is three words for each
pub room_words : (s : List ℕ) (n : ℕ) → n ≤ (interleaved s).room → 3 * n ≤ length s
unfolding interleaved
room_words s n h = omega arith

pub words_room : (s : List ℕ) (n : ℕ) → 3 * n ≤ length s → n ≤ (interleaved s).room
unfolding interleaved
words_room s n h = omega arith

pub same_room : (s u : List ℕ) → length s ≡ length u → (interleaved s).room ≡ (interleaved u).room
unfolding interleaved
same_room s u e = rw e

-- stores that agree in their first n records
module _ (u v : View) where
  pub agree_less : (n k : ℕ) → k ≤ n → Agree u v n → Agree u v k
  agree_less n k h a = record { tags = λ i j. a.tags i (omega arith); firsts = λ i j. a.firsts i (omega arith); seconds = λ i j. a.seconds i (omega arith) }

  pub agree_trans : (w : View) (n : ℕ) → Agree u v n → Agree v w n → Agree u w n
  agree_trans w n a b =
      record { tags = λ i h. a.tags i h ∙ b.tags i h; firsts = λ i h. a.firsts i h ∙ b.firsts i h; seconds = λ i h. a.seconds i h ∙ b.seconds i h }

  pub agree_record : (n : ℕ) → Agree u v n → (i : ℕ) → i < n → record_at u i ≡ record_at v i
  unfolding record_at
  agree_record n a i h = rw (a.tags i h, a.firsts i h, a.seconds i h)

  agree_check : (m : Bounds) (n : ℕ) → Agree u v n → (i : ℕ) → i < n → check_at m u i ≡ check_at m v i
  unfolding check_at
  agree_check m n a i h = rw (a.tags i h, a.firsts i h, a.seconds i h)

  pub agree_nodes : (n : ℕ) → Agree u v n → nodes u n ≡ nodes v n
  unfolding nodes
  agree_nodes zero a = refl
  agree_nodes (suc n) a = ap₂ (λ l x. l ++ (x ∷ [])) (agree_nodes n (agree_less (suc n) n (omega arith) a)) (agree_record (suc n) a n (omega arith))

  pub agree_checks : (m : Bounds) (n : ℕ) → Agree u v n → records_check m u n ≡ records_check m v n
  unfolding first_refused
  agree_checks m zero a = refl
  agree_checks m (suc n) a = ap₂ ◌then◌ (agree_checks m n (agree_less (suc n) n (omega arith) a)) (agree_check m (suc n) a n (omega arith))

  pub agree_sound : (m : Bounds) (n : ℕ) → n ≤ v.room → Agree u v n → Sound m u n → Sound m v n
  agree_sound m n room a sound = record { room = room; good = sym (agree_checks m n a) ∙ sound.good }

  -- stores that are alike hold the same list and pass the same tests
  module _ (n : ℕ) (a : Alike u v n) where
    pub alike_nodes : nodes u n ≡ nodes v n
    alike_nodes = agree_nodes n a.words

    pub alike_rootless : (m : Bounds) (least : ℕ) → rootless_check m least u n ≡ rootless_check m least v n
    unfolding rootless_check
    alike_rootless m least = rw (a.rooms, agree_checks m n a.words)

    pub alike_list : (m : Bounds) (roots : List ℕ) → list_check m u n roots ≡ list_check m v n roots
    unfolding list_check
    alike_list m roots = rw (alike_rootless m 1)

-- stores with room for n records that agree in these
pub alike : (u v : View) (n : ℕ) → n ≤ u.room → n ≤ v.room → Agree u v n → Alike u v n
alike u v n left right a = record { rooms = enough_room n u.room left ∙ sym (enough_room n v.room right); words = a }

-- interleaved stores that agree word by word agree
module _ (s u : List ℕ) (n : ℕ) where
  pub words_agree : ((k : ℕ) → k < 3 * n → get_or s k 0 ≡ get_or u k 0) → Agree (interleaved s) (interleaved u) n
  unfolding interleaved
  words_agree e = record { tags = λ i h. e (3 * i) (omega arith); firsts = λ i h. e (3 * i + 1) (omega arith); seconds = λ i h. e (3 * i + 2) (omega arith) }

  -- those that begin with the same words agree
  pub front_agree : front n s ≡ front n u → Agree (interleaved s) (interleaved u) n
  unfolding front
  front_agree e = words_agree (λ k h. sym (get_or-take (3 * n) s k 0 h) ∙ (ap (λ l. get_or l k 0) e ∙ get_or-take (3 * n) u k 0 h))

-- a store that begins with another's n records has room for them
pub front_room : (s u : List ℕ) (n : ℕ) → n ≤ (interleaved s).room → front n u ≡ front n s → n ≤ (interleaved u).room
unfolding front
front_room s u n room e = words_room u n (long_enough (3 * n) u (ap length e ∙ length-take-le (3 * n) s (room_words s n room)))
  where
    long_enough : (k : ℕ) (t : List ℕ) → length (take k t) ≡ k → k ≤ length t
    long_enough zero t e = omega arith
    long_enough (suc k) [] e = absurd (omega arith)
    long_enough (suc k) (x ∷ t) e = let h = long_enough k t (omega arith) in omega arith
