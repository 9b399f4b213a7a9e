-- Text written into a store from a place on, piece after piece.
use Rattle.std.specs.Prelude.{ℕ, suc, ◌+◌, ◌-◌, ◌≤◌, ◌≡◌, refl, take, set, replicate}
use mathlib.Core.List.{List, [], ◌∷◌, ◌++◌, append_assoc}
use Rattle.std.proofs.Common.{sym, ◌∙◌, ap, add-one, arith, drop-drop}
use Rattle.std.proofs.Math.Path.{ap₂}
use Rattle.std.proofs.Math.ListN.{length, drop, length-append, length-set}
use Rattle.std.proofs.Math.Seq.{paste, take-length, paste-zero, append_snoc}
use Rattle.std.proofs.lemmas.List.{set_split}
use Rattle.std.proofs.lemmas.Slice.{put_mid-paste}
use borrow.Rule.Slice.PartMut.{put_mid}
use Rattle.std.proofs.lemmas.List.Edits.{length-paste, take-paste, drop-paste}
use Rattle.text.specs.Text.{ended, laid}
use Rattle.text.specs.Promises.{over, Wrote, Laid}
use Rattle.text.specs.declared.Text.{Text}

module _ (s : List ℕ) (at : ℕ) (text : List ℕ) where
  pub as_paste : over s at text ≡ paste s at text (length text)
  unfolding over
  as_paste = rw (take-length text)

  module _ (h : at + length text ≤ length s) where
    length_over : length (over s at text) ≡ length s
    length_over = ap length as_paste ∙ length-paste s at text (length text) h (omega arith)

    pub take_over : take (at + length text) (over s at text) ≡ take at s ++ text
    take_over = ap (take (at + length text)) as_paste ∙ (take-paste s at text (length text) (omega arith) (omega arith) ∙ rw (take-length text))

    drop_over : (k : ℕ) → drop (at + length text + k) (over s at text) ≡ drop (at + length text + k) s
    drop_over k =
        sym (drop-drop k (at + length text) (over s at text))
        ∙ (ap (drop k) (ap (drop (at + length text)) as_paste ∙ drop-paste s at text (length text) (omega arith) (omega arith))
        ∙ drop-drop k (at + length text) s)

    -- a text behind a text
    over_over : (more : List ℕ) → over (over s at text) (at + length text) more ≡ over s at (text ++ more)
    unfolding over
    over_over more =
        ap₂ (λ a b. a ++ more ++ b) take_over (drop_over (length more))
        ∙ ap₂ ◌++◌ (append_assoc (take at s) text more) (ap (λ k. drop k s) both)
      where
        both : at + length text + length more ≡ at + length (text ++ more)
        both = omega (arith, length-append text more)

-- nothing written
pub wrote_nothing : (t : Text) → t.len ≤ length t.store.now → Wrote t [] t
wrote_nothing t h =
    record { same_reference = refl; room = omega arith; store_is = paste-zero t.store.now t.len [] ∙ sym (as_paste t.store.now t.len []); same_length = refl; len_is = omega arith }

-- one byte written
pub wrote_byte : {t u : Text} (byte : ℕ) → u.store.ghost_name ≡ t.store.ghost_name → t.len + 1 ≤ length t.store.now → u.store.now ≡ set t.store.now t.len byte → u.len ≡ t.len + 1
    → Wrote t (byte ∷ []) u
unfolding over
wrote_byte {t} {u} byte same h e k =
    let s = t.store.now in
    record {
      same_reference = same;
      room = h;
      store_is =
          e
          ∙ (set_split s t.len byte (omega arith) ∙ (sym (append_snoc (take t.len s) byte (drop (suc t.len) s))
          ∙ ap (λ k. take t.len s ++ (byte ∷ []) ++ drop k s) (sym (add-one t.len))));
      same_length = ap length e ∙ length-set s t.len byte;
      len_is = k;
    }

-- bytes copied
pub wrote_bytes : {t u : Text} (bytes copied : List ℕ) → u.store.ghost_name ≡ t.store.ghost_name → t.len + length bytes ≤ length t.store.now → copied ≡ bytes
    → u.store.now ≡ put_mid t.len (t.len + length bytes - t.len) t.store.now copied → u.len ≡ t.len + length bytes → Wrote t bytes u
wrote_bytes {t} {u} bytes copied same h e f k =
    let store_is = f ∙ (put_mid-paste t.len _ t.store.now copied bytes (length bytes) e (omega arith) refl ∙ sym (as_paste t.store.now t.len bytes)) in
    record { same_reference = same; room = h; store_is = store_is; same_length = ap length store_is ∙ length_over t.store.now t.len bytes h; len_is = k }

-- one text written behind another
pub and_then : {t u v : Text} {a b : List ℕ} → Wrote t a u → Wrote u b v → Wrote t (a ++ b) v
and_then {t} {u} {v} {a} {b} first second =
    let same = first.same_length in
    let e = first.len_is in
    let f = second.len_is in
    let h = second.room in
    let sum = length-append a b in
    record {
      same_reference = second.same_reference ∙ first.same_reference;
      room = omega arith;
      store_is = second.store_is ∙ (ap₂ (λ s k. over s k b) first.store_is e ∙ over_over t.store.now t.len a first.room b);
      same_length = second.same_length ∙ same;
      len_is = omega arith;
    }

-- the same text under another name
pub wrote_as : {t u : Text} {a b : List ℕ} → a ≡ b → Wrote t a u → Wrote t b u
wrote_as e w = rw (← e) w

pub length_ended : (word : List ℕ) (end : ℕ) → length (ended word end) ≡ length word + 1
unfolding ended
length_ended word end = length-append word (end ∷ [])

-- a text from the start of a store, with 0 bytes behind it
pub wrote_laid : {t u : Text} {text s after : List ℕ} {r : ℕ} → t.store.now ≡ s → t.len ≡ 0 → Wrote t text u → after ≡ take u.len u.store.now ++ replicate (length u.store.now - u.len) 0 → r ≡ u.len
    → Laid s text after r
unfolding laid
wrote_laid {t} {u} {text} {s} {after} {r} f z w e k =
    let same : length s ≡ length t.store.now = ap length (sym f) in
    let h = w.room in
    let l = w.same_length in
    let n : u.len ≡ 0 + length text = w.len_is ∙ ap (λ k. k + length text) z in
    let m : length u.store.now - u.len ≡ length s - length text = omega arith in
    let held = w.store_is ∙ ap₂ (λ s k. over s k text) f z in
    record {
      store_is = e ∙ ap₂ (λ a k. a ++ replicate k 0) (ap₂ take n held ∙ take_over s 0 text (omega arith)) m;
      length_is = k ∙ (n ∙ omega arith);
      fits = omega arith;
    }
