-- An input longer than every file of good form is refused alike however much more of it is read.
use Rattle.std.specs.Prelude.{ℕ, zero, suc, ◌+◌, ◌*◌, ◌≤◌, Bool, true, false, cond, Ok, Err, List, [], ◌∷◌, ◌≡◌, refl, eqb, get_or, length, take}
use Rattle.std.proofs.Common.{sym, ◌∙◌, ap, ap₂, arith, le-leb, ne_eqb, get_or-take, take_all, length-take-le}
use Rattle.std.proofs.Math.Decide.{dec_le}
use Rattle.dag.specs.Refusals.{Checked, need, ◌then◌, unless_refused}
use Rattle.dag.specs.declared.Refusal.{Refusal}
use Rattle.dag.specs.declared.Refusal.TheVariants.{FileLength}
use Rattle.house_file.specs.File.{number, version, file_count, root_count, most_named, record_place, head_check, form_check, file_check, held_check, of_file, enough}
use Rattle.house_file.specs.FileLaws.{headed, place_most}

-- a byte says how many roots there are
count_most : (file : List ℕ) → get_or file 5 0 ≤ most_named → root_count file ≤ most_named
unfolding root_count
count_most file h = go (eqb (version file) 2)
  where
    go : (t : Bool) → cond t (get_or file 5 0) 1 ≤ most_named
    go true = h
    go false = omega arith

-- a file too long for every count: what its head tests say, else 24
long_form : (file : List ℕ) → get_or file 5 0 ≤ most_named → enough ≤ length file → form_check file ≡ head_check file then Err FileLength
unfolding form_check
long_form file b h = go (head_check file) refl
  where
    go : (c : Checked) → head_check file ≡ c → c then need (eqb (length file) (record_place file (file_count file))) FileLength ≡ c then Err FileLength
    go (Ok u) e = let m = (headed file e).most in rw (ne_eqb (length file) (record_place file (file_count file)) (λ q. omega (arith, place_most file, count_most file b)))
    go (Err r) e = refl

-- such a file is refused whatever it holds
long_refused : {A : Type 0} (refuse : Refusal → A) (head c d : Checked) (x y : A) → unless_refused ((head then Err FileLength) then c) refuse x ≡ unless_refused ((head then Err FileLength) then d) refuse y
long_refused refuse (Ok u) c d x y = refl
long_refused refuse (Err r) c d x y = refl

number_take : (k : ℕ) (file : List ℕ) (at j : ℕ) → at + j ≤ k → number (take k file) at j ≡ number file at j
unfolding number
number_take k file at zero h = refl
number_take k file at (suc j) h = ap₂ (λ a b. a * 256 + b) (number_take k file at j (omega arith)) (get_or-take k file (at + j) 0 (omega arith))

-- nine bytes decide the head tests
head_take : (k : ℕ) (file : List ℕ) → 9 ≤ k → k ≤ length file → head_check (take k file) ≡ head_check file
unfolding head_check
head_take k file h l =
    rw (length-take-le k file l, le-leb 9 k h, le-leb 9 (length file) (omega arith), get_or-take k file 0 0 (omega arith), number_take k file 1 4 (omega arith))

module _ {A : Type 0} (refuse : Refusal → A) (give : List ℕ → A) where
  -- enough bytes of an input decide what is made of it
  pub cut : (k : ℕ) → enough ≤ k → (file : List ℕ) → get_or file 5 0 ≤ most_named → of_file refuse give (take k file) ≡ of_file refuse give file
  unfolding file_check
  cut k h file b = go (dec_le (length file) k)
    where
      go : Dec (length file ≤ k) → of_file refuse give (take k file) ≡ of_file refuse give file
      go (yes l) = ap (of_file refuse give) (take_all k file l)
      go (no l) =
          let len : length (take k file) ≡ k = length-take-le k file (omega arith) in
          let same : get_or (take k file) 5 0 ≡ get_or file 5 0 = get_or-take k file 5 0 (omega arith) in
          rw (long_form (take k file) (omega arith) (omega arith), long_form file b (omega arith), head_take k file (omega arith) (omega arith))
          (long_refused refuse (head_check file) (held_check (take k file)) (held_check file) _ _)

-- a byte of a part is one of the whole, or none
byte_take : (n : ℕ) (l : List ℕ) (j m : ℕ) → get_or l j 0 ≤ m → get_or (take n l) j 0 ≤ m
byte_take zero l j m h = omega arith
byte_take (suc n) [] j m h = h
byte_take (suc n) (x ∷ l) zero m h = h
byte_take (suc n) (x ∷ l) (suc j) m h = byte_take n l j m h

-- what is made of the bytes that were read is made of the input
module _ {A : Type 0} (refuse : Refusal → A) (give : List ℕ → A) where
  pub of_input : (buffer : List ℕ) (n : ℕ) → enough ≤ length buffer → get_or buffer 5 0 ≤ most_named → (input : List ℕ) → take (length buffer) input ≡ take n buffer
      → of_file refuse give input ≡ of_file refuse give (take n buffer)
  of_input buffer n h b input read =
      let byte : get_or input 5 0 ≤ most_named = rw (← get_or-take (length buffer) input 5 0 (omega arith), read) (byte_take n buffer 5 most_named b) in
      sym (cut refuse give (length buffer) h input byte) ∙ ap (of_file refuse give) read
