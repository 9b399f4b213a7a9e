-- Stores that pass the list check, and what writing a record does to one.
use Rattle.std.specs.Prelude.{ℕ, zero, suc, ◌+◌, ◌*◌, ◌≤◌, ◌<◌, List, [], ◌∷◌, ◌++◌, ◌≡◌, refl, get_or, length, set, take, eqb, Ok}
use Rattle.std.proofs.Common.{append_assoc, ◌∙◌, ap, add-one, mul-suc, arith, length-set, get_or-set_same, get_or-set_other, take-suc, take-suc-set}
use Rattle.std.proofs.Math.Path.{sym, ap₂}
use Rattle.std.proofs.Math.Numerals.{add-three, towards_suc}
use Rattle.field.specs.Fields.{Bounds, Within}
use Rattle.dag.specs.View.{View, interleaved, Agree}
use Rattle.dag.specs.ViewLaws.{room_words, same_room, words_agree, agree_nodes, agree_checks}
use Rattle.dag.specs.Nodes.{tag, first, second, three, record_at, nodes, at, words, words_of, same_node}
use Rattle.dag.specs.NodeLaws.{decode_words, at_nodes}
use Rattle.dag.specs.BranchLaws.{and_both}
use Rattle.dag.specs.CaseLaws.{below_suc_elim}
use Rattle.dag.specs.Refusals.{first_refused}
use Rattle.dag.specs.Check.{check_at, records_check}
use Rattle.dag.specs.CheckLaws.{first_good, then_good, passed, passes, faithful, fine_passes, check_well_formed}
use Rattle.dag.specs.Lookup.{lookup}
use Rattle.dag.specs.SearchLaws.{greatest_same}
use Rattle.dag.specs.Store.{put_words, put, front, words_are, lookup_words, Sound}
use Rattle.dag.specs.WellFormed.{Fine, WellFormed}
use Rattle.dag.specs.declared.NodeKind.{NodeKind}
use Rattle.dag.specs.declared.Words.{Words}

-- the words of a record that passes
module _ (m : Bounds) (s : View) (n : ℕ) (sound : Sound m s n) where
  pub sound_well_formed : WellFormed (Within m) (nodes s n)
  sound_well_formed = check_well_formed m s n sound.good

  pub tag_word_lem : (i : ℕ) → i < n → tag (record_at s i) ≡ s.tag_word i
  unfolding record_at check_at
  tag_word_lem i h = (faithful m _ _ _ i (passed m _ _ _ i (first_good (check_at m s) n sound.good i h))).tag_is

  pub first_word_lem : (i : ℕ) → i < n → first (record_at s i) ≡ s.first_word i
  unfolding record_at check_at
  first_word_lem i h = (faithful m _ _ _ i (passed m _ _ _ i (first_good (check_at m s) n sound.good i h))).first_is

  pub second_word_lem : (i : ℕ) → i < n → second (record_at s i) ≡ s.second_word i
  unfolding record_at check_at
  second_word_lem i h = (faithful m _ _ _ i (passed m _ _ _ i (first_good (check_at m s) n sound.good i h))).second_is

  pub record_words_lem : (i : ℕ) → i < n → words (record_at s i) ≡ s.tag_word i ∷ s.first_word i ∷ s.second_word i ∷ []
  unfolding words
  record_words_lem i h = rw (tag_word_lem i h, first_word_lem i h, second_word_lem i h)

  -- the words of a record that passes tell it from others
  pub words_are_same : (x : NodeKind) (i : ℕ) → i < n → words_are s i (three x) ≡ same_node (at (nodes s n) i) x
  unfolding words_are same_node
  words_are_same x i h =
      rw (at_nodes s n i h, tag_word_lem i h, first_word_lem i h, second_word_lem i h)
      (and_both (eqb (s.tag_word i) (tag x)) (eqb (s.first_word i) (first x)) (eqb (s.second_word i) (second x)))

  lookup_words_lem : (x : NodeKind) → lookup_words s (three x) n ≡ lookup (nodes s n) x n
  lookup_words_lem x = greatest_same (λ i. words_are s i (three x)) (λ i. same_node (at (nodes s n) i) x) n (words_are_same x)

-- stores that pass with the same list hold the same words
pub same_list_agree : (m : Bounds) (u v : View) (n : ℕ) → Sound m u n → Sound m v n → nodes u n ≡ nodes v n → Agree u v n
same_list_agree m u v n left right e =
    record {
      tags = λ i h. sym (tag_word_lem m u n left i h) ∙ (ap tag (same i h) ∙ tag_word_lem m v n right i h);
      firsts = λ i h. sym (first_word_lem m u n left i h) ∙ (ap first (same i h) ∙ first_word_lem m v n right i h);
      seconds = λ i h. sym (second_word_lem m u n left i h) ∙ (ap second (same i h) ∙ second_word_lem m v n right i h);
    }
  where
    same : (i : ℕ) → i < n → record_at u i ≡ record_at v i
    same i h = sym (at_nodes u n i h) ∙ (ap (λ l. at l i) e ∙ at_nodes v n i h)

-- a store with the words t, a, b written at place i
module _ (s : List ℕ) (i t a b : ℕ) where
  pub length_put_words : length (put_words s i t a b) ≡ length s
  length_put_words = simp length-set

  put_other : (k : ℕ) → (k ≡ 3 * i → ⊥) → (k ≡ 3 * i + 1 → ⊥) → (k ≡ 3 * i + 2 → ⊥) → get_or (put_words s i t a b) k 0 ≡ get_or s k 0
  put_other k h₀ h₁ h₂ =
      get_or-set_other (set (set s (3 * i) t) (3 * i + 1) a) (3 * i + 2) k b 0 h₂
      ∙ (get_or-set_other (set s (3 * i) t) (3 * i + 1) k a 0 h₁
      ∙ get_or-set_other s (3 * i) k t 0 h₀)

  put_words_agrees : Agree (interleaved s) (interleaved (put_words s i t a b)) i
  put_words_agrees = words_agree s (put_words s i t a b) i (λ k h. sym (put_other k (omega arith) (omega arith) (omega arith)))

  module _ (fits : i < (interleaved s).room) where
    words_fit : 3 * suc i ≤ length s
    words_fit = room_words s (suc i) fits

    -- the words before them, then these three
    pub front_put_words : take (3 * (i + 1)) (put_words s i t a b) ≡ take (3 * i) s ++ (t ∷ a ∷ b ∷ [])
    front_put_words =
        let one = take-suc-set s (3 * i) t (omega (arith, words_fit)) in
        let two = take-suc-set (set s (3 * i) t) (3 * i + 1) a (simp length-set (omega (arith, words_fit))) in
        let three = take-suc-set (set (set s (3 * i) t) (3 * i + 1) a) (3 * i + 2) b (simp length-set (omega (arith, words_fit))) in
        let at_one : 3 * i + 1 ≡ suc (3 * i) = omega arith in
        let at_two : 3 * i + 2 ≡ suc (3 * i + 1) = omega arith in
        let at_three : 3 * (i + 1) ≡ suc (3 * i + 2) = omega arith in
        ap (λ k. take k (put_words s i t a b)) at_three
        ∙ (three
        ∙ (ap (λ k. take k (set (set s (3 * i) t) (3 * i + 1) a) ++ (b ∷ [])) at_two
        ∙ (ap (λ l. l ++ (b ∷ [])) two
        ∙ (ap (λ k. (take k (set s (3 * i) t) ++ (a ∷ [])) ++ (b ∷ [])) at_one
        ∙ (ap (λ l. (l ++ (a ∷ [])) ++ (b ∷ [])) one
        ∙ (append_assoc (take (3 * i) s ++ (t ∷ [])) (a ∷ []) (b ∷ []) ∙ append_assoc (take (3 * i) s) (t ∷ []) (a ∷ b ∷ [])))))))

    put_tag : get_or (put_words s i t a b) (3 * i) 0 ≡ t
    put_tag =
        get_or-set_other (set (set s (3 * i) t) (3 * i + 1) a) (3 * i + 2) (3 * i) b 0 (omega arith)
        ∙ (get_or-set_other (set s (3 * i) t) (3 * i + 1) (3 * i) a 0 (omega arith)
        ∙ get_or-set_same s (3 * i) t 0 (omega (arith, words_fit)))

    put_first : get_or (put_words s i t a b) (3 * i + 1) 0 ≡ a
    put_first =
        get_or-set_other (set (set s (3 * i) t) (3 * i + 1) a) (3 * i + 2) (3 * i + 1) b 0 (omega arith)
        ∙ get_or-set_same (set s (3 * i) t) (3 * i + 1) a 0 (simp length-set (omega (arith, words_fit)))

    put_second : get_or (put_words s i t a b) (3 * i + 2) 0 ≡ b
    put_second = get_or-set_same (set (set s (3 * i) t) (3 * i + 1) a) (3 * i + 2) b 0 (simp length-set (omega (arith, words_fit)))

    -- another store's words put behind those that agree with it
    pub put_more : (v : View) → Agree (interleaved s) v i → t ≡ v.tag_word i → a ≡ v.first_word i → b ≡ v.second_word i → Agree (interleaved (put_words s i t a b)) v (i + 1)
    unfolding interleaved
    put_more v g et ea eb =
        rw (add-one i)
        record {
          tags = below_suc_elim (λ k. (interleaved (put_words s i t a b)).tag_word k ≡ v.tag_word k) i (λ k h. sym (put_words_agrees.tags k h) ∙ g.tags k h) (put_tag ∙ et);
          firsts = below_suc_elim (λ k. (interleaved (put_words s i t a b)).first_word k ≡ v.first_word k) i (λ k h. sym (put_words_agrees.firsts k h) ∙ g.firsts k h) (put_first ∙ ea);
          seconds = below_suc_elim (λ k. (interleaved (put_words s i t a b)).second_word k ≡ v.second_word k) i (λ k h. sym (put_words_agrees.seconds k h) ∙ g.seconds k h) (put_second ∙ eb);
        }

-- a store with a record written
module _ (s : List ℕ) (i : ℕ) (x : NodeKind) where
  pub length_put : length (put s i x) ≡ length s
  unfolding put
  length_put = length_put_words s i (tag x) (first x) (second x)

  module _ (fits : i < (interleaved s).room) where
    record_put : record_at (interleaved (put s i x)) i ≡ x
    unfolding record_at interleaved put
    record_put = rw (put_tag s i (tag x) (first x) (second x) fits, put_first s i (tag x) (first x) (second x) fits, put_second s i (tag x) (first x) (second x) fits) (decode_words x)

    check_put : (m : Bounds) → Fine (Within m) i x → check_at m (interleaved (put s i x)) i ≡ Ok tt
    unfolding check_at interleaved put
    check_put m f =
        rw (put_tag s i (tag x) (first x) (second x) fits, put_first s i (tag x) (first x) (second x) fits, put_second s i (tag x) (first x) (second x) fits)
        (passes m (tag x) (first x) (second x) i (fine_passes m i x f))

-- the record appended
module _ (s : List ℕ) (n : ℕ) (x : NodeKind) (fits : n < (interleaved s).room) where
  pub put_agrees : Agree (interleaved s) (interleaved (put s n x)) n
  unfolding put
  put_agrees = put_words_agrees s n (tag x) (first x) (second x)

  pub nodes_put : nodes (interleaved (put s n x)) (suc n) ≡ nodes (interleaved s) n ++ (x ∷ [])
  unfolding nodes
  nodes_put = ap₂ (λ l y. l ++ (y ∷ [])) (sym (agree_nodes (interleaved s) (interleaved (put s n x)) n put_agrees)) (record_put s n x fits)

  pub sound_put : (m : Bounds) → Sound m (interleaved s) n → Fine (Within m) n x → Sound m (interleaved (put s n x)) (suc n)
  unfolding first_refused
  sound_put m sound f =
      record {
        room = rw (same_room (put s n x) s (length_put s n x)) fits;
        good = rw (← agree_checks (interleaved s) (interleaved (put s n x)) m n put_agrees, sound.good) (check_put s n x fits m f);
      }

-- a shorter list of the same store
pub sound_less : (m : Bounds) (s : View) (n : ℕ) → Sound m s (suc n) → Sound m s n
unfolding first_refused
sound_less m s n sound = record { room = omega (arith, sound.room); good = (then_good (records_check m s n) (check_at m s n) sound.good).0 }

pub words_snoc : (l : List NodeKind) (x : NodeKind) → words_of (l ++ (x ∷ [])) ≡ words_of l ++ words x
unfolding words_of words
words_snoc [] x = refl
words_snoc (y ∷ l) x = ap (λ w. tag y ∷ first y ∷ second y ∷ w) (words_snoc l x)

pub length_words : (l : List NodeKind) → length (words_of l) ≡ 3 * length l
unfolding words_of words
length_words [] = refl
length_words (y ∷ l) = omega (arith, length_words l)

held : (s : List ℕ) (n : ℕ) → (interleaved s).tag_word n ∷ (interleaved s).first_word n ∷ (interleaved s).second_word n ∷ [] ≡ get_or s (3 * n) 0 ∷ get_or s (3 * n + 1) 0 ∷ get_or s (3 * n + 2) 0 ∷ []
unfolding interleaved
held s n = refl

-- the words of a list that passes are those that its store begins with
pub front_words : (m : Bounds) (s : List ℕ) (n : ℕ) → Sound m (interleaved s) n → front n s ≡ words_of (nodes (interleaved s) n)
unfolding front nodes words_of words
front_words m s zero sound = refl
front_words m s (suc n) sound =
    rw (mul-suc 3 n)
    (words3 (3 * n) (omega (arith, room_words s (suc n) sound.room))
    ∙ ap₂ ◌++◌ (front_words m s n (sound_less m (interleaved s) n sound)) three
    ∙ sym (words_snoc (nodes (interleaved s) n) (record_at (interleaved s) n)))
  where
    words3 : (k : ℕ) → k + 2 < length s → take (k + 3) s ≡ take k s ++ (get_or s k 0 ∷ get_or s (k + 1) 0 ∷ get_or s (k + 2) 0 ∷ [])
    words3 k h =
        rw (add-three k, take-suc s (suc (suc k)) 0 (omega arith), take-suc s (suc k) 0 (omega arith), take-suc s k 0 (omega arith))
        (simp (towards_suc, append_assoc))

    three : get_or s (3 * n) 0 ∷ get_or s (3 * n + 1) 0 ∷ get_or s (3 * n + 2) 0 ∷ [] ≡ words (record_at (interleaved s) n)
    three = sym (record_words_lem m (interleaved s) (suc n) sound n (omega arith) ∙ held s n)

-- the search over the words w of a record x
pub lookup_whole : (m : Bounds) (s : View) (n : ℕ) (x : NodeKind) (w : Words) → Sound m s n → w ≡ three x → lookup_words s w n ≡ lookup (nodes s n) x n
lookup_whole m s n x w sound e = rw e (lookup_words_lem m s n sound x)
