-- What the tests of a file give, and what reading it then gives.
use Rattle.std.specs.Prelude.{ℕ, ◌+◌, ◌*◌, ◌^◌, Bool, cond, ◌≤◌, ◌<◌, true, false, List, ◌≡◌, refl, leb, eqb, get_or, length, Ok, Err, Result}
use Rattle.std.proofs.Common.{sym, ◌∙◌, ap, pow-suc, add-one, arith, leb-true, eqb-true}
use Rattle.std.proofs.Math.Path.{ap₂}
use Rattle.std.proofs.Math.Nat.{pow-le-pow_right}
use Rattle.field.specs.Fields.{goldilocks}
use Rattle.dag.specs.View.{interleaved, Agree}
use Rattle.dag.specs.ViewLaws.{words_room, agree_nodes, alike, alike_list}
use Rattle.dag.specs.Nodes.{record_words, nodes, filled}
use Rattle.dag.specs.NodeLaws.{length_nodes}
use Rattle.dag.specs.CaseLaws.{and_true}
use Rattle.dag.specs.Refusals.{need, ◌then◌, unless_refused, Checked}
use Rattle.dag.specs.Check.{room_check, list_check}
use Rattle.dag.specs.CheckLaws.{then_good, need_good}
use Rattle.dag.specs.PassLaws.{enough_room, rooted, room_enough as room_fits}
use Rattle.dag.specs.Store.{front, stored}
use Rattle.dag.specs.StoreLaws.{sound_well_formed, same_list_agree}
use Rattle.dag.specs.WordLaws.{nodes_stored, sound_stored, filled_front}
use Rattle.dag.specs.declared.Refusal.{Refusal}
use Rattle.dag.specs.declared.Refusal.TheVariants.{FileTooShort, FileVersion, FileCount, FileLength}
use Rattle.house_file.specs.declared.Filed.{Filed}
use Rattle.house_file.specs.Promises.{Headed, Formed, Passed, Done}
use Rattle.house_file.specs.File.{number, version, is_version, file_count, roots_place, file_roots, most_filed, record_place, file_view, file_list, is_count, head_check, form_check, held_check, file_check, of_file, store_check, read_check, read_answer, read_list, filed}

-- the roots begin by byte 6
pub place_most : (file : List ℕ) → roots_place file ≤ 6
unfolding roots_place
place_most file = go (eqb (version file) 2)
  where
    go : (t : Bool) → cond t 6 5 ≤ 6
    go true = omega arith
    go false = omega arith

pub count_range : (n : ℕ) → is_count n ≡ true → (1 ≤ n) × (n ≤ most_filed)
unfolding is_count
count_range n e = let both = and_true (leb 1 n) (leb n most_filed) e in (leb-true 1 n both.0, leb-true n most_filed both.1)

pub headed : (file : List ℕ) → head_check file ≡ Ok tt → Headed file
unfolding head_check
headed file e =
    let long = leb 9 (length file) in
    let versioned = is_version (version file) in
    let range = is_count (file_count file) in
    let one = then_good (need long FileTooShort) (need versioned FileVersion then need range FileCount) e in
    let two = then_good (need versioned FileVersion) (need range FileCount) one.1 in
    let both = count_range (file_count file) (need_good range FileCount two.1) in
    record {
      long = leb-true 9 (length file) (need_good long FileTooShort one.0);
      some = both.0;
      most = both.1;
    }

pub formed : (file : List ℕ) → form_check file ≡ Ok tt → Formed file
unfolding form_check
formed file e =
    let whole = eqb (length file) (record_place file (file_count file)) in
    let both = then_good (head_check file) (need whole FileLength) e in
    record {
      head = headed file both.0;
      whole = eqb-true (length file) (record_place file (file_count file)) (need_good whole FileLength both.1);
    }

-- the longest file's words have room for every file's records
pub filed_room : (words : List ℕ) (n : ℕ) → length words ≡ record_words * most_filed → n ≤ most_filed → n ≤ (interleaved words).room
filed_room words n e h = words_room words n (omega (arith, e))

-- a file of good form that fits
pub fits : (file : List ℕ) (room : ℕ) → store_check file room ≡ Ok tt → Formed file × (file_count file ≤ room)
unfolding store_check
fits file room e = let both = then_good (form_check file) (room_check (file_count file) room) e in (formed file both.0, room_fits (file_count file) room both.1)

pub passed : (file : List ℕ) (room : ℕ) → read_check file room ≡ Ok tt → Passed file room
unfolding read_check
passed file room e =
    let both = then_good (store_check file room) (held_check file) e in
    let store = fits file room both.0 in
    record { form = store.0; fits = store.1; held_is = both.1 }

-- a store long enough for every file is never too short
pub room_enough : (file : List ℕ) (room : ℕ) → most_filed ≤ room → read_check file room ≡ file_check file
unfolding read_check store_check file_check
room_enough file room h = go (form_check file) refl
  where
    go : (c : Checked) → form_check file ≡ c → (c then room_check (file_count file) room) then held_check file ≡ c then held_check file
    go (Ok u) e = let m = (formed file e).head.most in rw (enough_room (file_count file) room (omega arith))
    go (Err r) e = refl

-- what an answer tells of the tests
read_refused : (file : List ℕ) (room : ℕ) (r : Refusal) → read_answer file room ≡ Err r → read_check file room ≡ Err r
unfolding read_answer
read_refused file room r = go (read_check file room)
  where
    go : (c : Checked) → unless_refused c Err (Ok (filed file)) ≡ Err r → c ≡ Err r
    go (Ok u) e = let z : ◌≡◌ {A = ℕ} 0 1 = cc in absurd (omega arith)
    go (Err q) e = cc

pub record Read (file : List ℕ) (room : ℕ) (f : Filed) : Type 0 where
  pub good : read_check file room ≡ Ok tt
  pub filed_is : f ≡ filed file

pub read_done : (file : List ℕ) (room : ℕ) (f : Filed) → read_answer file room ≡ Ok f → Read file room f
unfolding read_answer
read_done file room f = go (read_check file room) refl
  where
    go : (c : Checked) → read_check file room ≡ c → unless_refused c Err (Ok (filed file)) ≡ Ok f → Read file room f
    go (Ok u) g e = record { good = g; filed_is = cc }
    go (Err q) g e = let z : ◌≡◌ {A = ℕ} 0 1 = cc in absurd (omega arith)

-- a store that holds the words of a file's records, and what its list check c says
module _ (file list words : List ℕ) (n : ℕ) (roots : List ℕ) (en : n ≡ file_count file) (er : roots ≡ file_roots file) (room : n ≤ (interleaved words).room) (whole : Agree (interleaved words) (file_view file) n)
    (c : Checked) (ec : c ≡ list_check goldilocks.bounds (interleaved words) n roots) where
  held : c ≡ held_check file
  unfolding held_check file_view
  held =
      ec
      ∙ (alike_list (interleaved words) (file_view file) n (alike (interleaved words) (file_view file) n room (omega (arith, en)) whole) goldilocks.bounds roots
      ∙ ap₂ (list_check goldilocks.bounds (file_view file)) en er)

  pub done_refused : (r : Refusal) → c ≡ Err r → Done file list (Err r) list
  done_refused r e = let h : held_check file ≡ Err r = sym held ∙ e in record { answer = rw h; list_is = rw h }

  pub done_good : (after : List ℕ) → c ≡ Ok tt → after ≡ filled (length list) (front n words) → Done file list (Ok (record { count = n; roots = record { items = roots } })) after
  done_good after e ea =
      let good : held_check file ≡ Ok tt = sym held ∙ e in
      let sound = (rooted goldilocks.bounds (interleaved words) n roots (sym ec ∙ e)).list.sound in
      let same = agree_nodes (interleaved words) (file_view file) n whole ∙ ap (nodes (file_view file)) en in
      record {
        answer = rw good (ap₂ (λ count roots. Ok (record { count = count; roots = record { items = roots } })) en er);
        list_is = rw good (ea ∙ (filled_front goldilocks.bounds words list n sound ∙ ap (stored list) same));
      }

-- what reading gives, refused or not
pub record Told (file list : List ℕ) (a : Result Filed Refusal) (after : List ℕ) : Type 0 where
  pub answer : a ≡ read_answer file (interleaved list).room
  pub list_is : after ≡ read_list file list

pub told_refused : (file list : List ℕ) (r : Refusal) → store_check file (interleaved list).room ≡ Err r → Told file list (Err r) list
unfolding read_answer read_list read_check
told_refused file list r e = record { answer = rw e; list_is = rw e }

pub told_done : (file list : List ℕ) (a : Result Filed Refusal) (after : List ℕ) → store_check file (interleaved list).room ≡ Ok tt → Done file list a after → Told file list a after
unfolding read_answer read_list read_check
told_done file list a after e d = record { answer = rw e d.answer; list_is = rw e d.list_is }

-- the store that a file is read into holds the file's words
pub read_agrees : (file list : List ℕ) → read_check file (interleaved list).room ≡ Ok tt → Agree (interleaved (read_list file list)) (file_view file) (file_count file)
unfolding read_list held_check
read_agrees file list e =
    let m = goldilocks.bounds in
    let n = file_count file in
    let sound = (rooted m (file_view file) n (file_roots file) (passed file (interleaved list).room e).held_is).list.sound in
    let long = length_nodes (file_view file) n in
    let there = rw long at (sound_stored list (file_list file) m (sound_well_formed m (file_view file) n sound)) in
    rw e (same_list_agree m (interleaved (stored list (file_list file))) (file_view file) n there sound (rw long at (nodes_stored list (file_list file))))

-- a number's bytes so far
pub number_small : (v i : ℕ) → i < 8 → v < 256 ^ i → v < 72057594037927936
number_small v i h k = let most : 256 ^ i ≤ 256 ^ 7 = pow-le-pow_right {n = 256} (omega arith) {i = i} {j = 7} (omega arith) in omega arith

pub number_next : (file : List ℕ) (at i v b : ℕ) → v ≡ number file at i → v < 256 ^ i → b ≡ get_or file (at + i) 0 → b < 256
    → (v * 256 + b ≡ number file at (i + 1)) × (v * 256 + b < 256 ^ (i + 1))
unfolding number
number_next file at i v b e k f l = rw (add-one i) (ap₂ (λ x y. x * 256 + y) e f, omega (arith, pow-suc 256 i))

-- what is made of a file that was read into a store for the longest
module _ {A : Type 0} (refuse : Refusal → A) (give : List ℕ → A) (file : List ℕ) (room : ℕ) (h : most_filed ≤ room) where
  pub made_refused : (r : Refusal) → read_answer file room ≡ Err r → refuse r ≡ of_file refuse give file
  made_refused r e = rw (← room_enough file room h, read_refused file room r e)

  pub made_good : read_check file room ≡ Ok tt → give file ≡ of_file refuse give file
  made_good e = rw (← room_enough file room h, e)

-- a store of the words that the longest file's records take
pub store_room : (words : List ℕ) → length words ≡ record_words * most_filed → most_filed ≤ (interleaved words).room
store_room words e = filed_room words most_filed e (omega arith)
