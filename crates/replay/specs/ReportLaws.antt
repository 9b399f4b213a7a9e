-- The lines that the program writes: those of a case more, and none where all match.
use Rattle.std.specs.Prelude.{ℕ, zero, suc, ◌+◌, ◌≤◌, Bool, true, false, cond, List, [], ◌++◌, ◌≡◌, refl}
use Rattle.std.specs.Io.KnownBytes.{Appends}
use Rattle.std.specs.declared.option.Option.{Option}
use Rattle.std.proofs.Common.{◌∙◌, add-one, arith, sym, subst}
use Rattle.std.proofs.KnownBytes.{Appends-trans}
use Rattle.std.proofs.lemmas.List.{append-nil}
use Rattle.replay.specs.Cases.{same, place_of, matched}
use Rattle.recorded_calls.specs.declared.Call.{Call}
use Rattle.replay.specs.Report.{case_line, differing}

module _ (call : Call) (s : List ℕ) where
  pub differing_next : (i at : ℕ) (t : Bool) → at ≡ place_of call s i → t ≡ same call s at → differing call s (i + 1) ≡ differing call s i ++ cond t [] (case_line i)
  unfolding differing
  differing_next i at t e f = rw (add-one i, f, e)

  -- a writer of the first i cases' lines has those of one more
  module _ (i at : ℕ) (a b : Option (List ℕ)) (e : at ≡ place_of call s i) (h : Appends a b (differing call s i)) where
    pub differs : false ≡ same call s at → (c : Option (List ℕ)) → Appends b c (case_line i) → Appends a c (differing call s (i + 1))
    differs f c k = subst (Appends a c) (sym (differing_next i at false e f)) (Appends-trans a b c _ _ h k)

    pub matches : true ≡ same call s at → Appends a b (differing call s (i + 1))
    matches f = subst (Appends a b) (sym (differing_next i at true e f ∙ append-nil _)) h

  matched_most : (n : ℕ) → matched call s n ≤ n
  unfolding matched
  matched_most zero = omega arith
  matched_most (suc n) = go (same call s (place_of call s n)) (matched_most n)
    where
      go : (t : Bool) → matched call s n ≤ n → matched call s n + cond t 1 0 ≤ suc n
      go true h = omega arith
      go false h = omega arith

  all_match : (n : ℕ) → matched call s n ≡ n → differing call s n ≡ []
  unfolding matched differing
  all_match zero e = refl
  all_match (suc n) e = go (same call s (place_of call s n)) refl (matched_most n) (all_match n)
    where
      go : (t : Bool) → same call s (place_of call s n) ≡ t → matched call s n ≤ n → (matched call s n ≡ n → differing call s n ≡ [])
          → differing call s n ++ cond (same call s (place_of call s n)) [] (case_line n) ≡ []
      go true f h k = let g = rw f at e in rw (f, k (omega arith)) refl
      go false f h k = absurd (let g = rw f at e in omega arith)

  -- no line is written where no fewer cases match
  pub none_differ : (n : ℕ) → n ≤ matched call s n → differing call s n ≡ []
  none_differ n h = all_match n (let k = matched_most n in omega arith)
