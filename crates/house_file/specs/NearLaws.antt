-- A refused file's number and place are small.
use Prim.Native.Nat.{ℕ, zero, suc, ◌≤◌, ◌<◌}
use Rattle.std.specs.Prelude.{Bool, true, false, ◌&&◌, Ok, Err, List, ◌≡◌, refl, ltb, eqb, length}
use Rattle.std.specs.List.{list_all}
use native.Mathlib.Omega.{arith}
use Rattle.std.proofs.Math.Dec.{leb}
use Rattle.field.specs.Fields.{Bounds, goldilocks}
use Rattle.dag.specs.View.{View}
use Rattle.dag.specs.Nodes.{most_records}
use Rattle.dag.specs.Refusals.{Checked, number, place, need, ◌then◌, first_refused, unless_refused}
use Rattle.dag.specs.Check.{formed, earlier, record_check, check_at, records_check, room_check, rootless_check, roots_check, list_check}
use Rattle.dag.specs.Roots.{most_roots}
use Rattle.dag.specs.declared.Refusal.{Refusal}
use Rattle.dag.specs.declared.Refusal.TheVariants.{CountOutOfRange, StoreTooShort, UnknownTag, Malformed, OperandNotEarlier, RootOutside, RootCount, FileTooShort, FileVersion, FileCount, FileLength}
use Rattle.house_file.specs.File.{most_filed, version, is_version, record_place, file_count, file_roots, file_view, is_count, head_check, form_check, held_check, file_check, of_file}
use Rattle.house_file.specs.FileLaws.{formed as file-formed}

-- a refusal, if any, of a number up to 46 at a place up to k
abbrev Near : ℕ → Checked → Type 0
Near k (Ok u) = Unit
Near k (Err r) = (number r ≤ 46) × (place r ≤ k)

module _ (k : ℕ) where
  near_then : (c d : Checked) → Near k c → Near k d → Near k (c then d)
  near_then (Ok u) d p q = q
  near_then (Err r) d p q = p

  near_need : (t : Bool) (r : Refusal) → (number r ≤ 46) × (place r ≤ k) → Near k (need t r)
  near_need true r h = tt
  near_need false r h = h

  needed : (t : Bool) (r : Refusal) (d : Checked) → (number r ≤ 46) × (place r ≤ k) → Near k d → Near k (need t r then d)
  needed t r d h q = near_then (need t r) d (near_need t r h) q

  near_first : (test : ℕ → Checked) (n : ℕ) → ((i : ℕ) → i < n → Near k (test i)) → Near k (first_refused test n)
  unfolding first_refused
  near_first test zero f = tt
  near_first test (suc n) f = near_then (first_refused test n) (test n) (near_first test n (λ i h. f i (omega arith))) (f n (omega arith))

  near_record : (m : Bounds) (t a b i : ℕ) → i ≤ k → Near k (record_check m t a b i)
  unfolding record_check
  near_record m t a b i h =
      needed (leb t 5) (UnknownTag i) (need (formed m t a b) (Malformed i) then need (earlier t a b i) (OperandNotEarlier i)) (omega arith, h)
      (needed (formed m t a b) (Malformed i) (need (earlier t a b i) (OperandNotEarlier i)) (omega arith, h)
      (near_need (earlier t a b i) (OperandNotEarlier i) (omega arith, h)))

  near_roots : (n : ℕ) (roots : List ℕ) → Near k (roots_check n roots)
  unfolding roots_check
  near_roots n roots =
      needed (leb 1 (length roots) && leb (length roots) most_roots) RootCount (need (list_all (λ root. ltb root n) roots) RootOutside) (omega arith, omega arith)
      (near_need (list_all (λ root. ltb root n) roots) RootOutside (omega arith, omega arith))

  near_list : (m : Bounds) (s : View) (n : ℕ) (roots : List ℕ) → n ≤ k → Near k (list_check m s n roots)
  unfolding list_check rootless_check room_check check_at
  near_list m s n roots h =
      near_then (need (leb 1 n && leb n most_records) CountOutOfRange then need (leb n s.room) StoreTooShort then records_check m s n) (roots_check n roots)
      (needed (leb 1 n && leb n most_records) CountOutOfRange (need (leb n s.room) StoreTooShort then records_check m s n) (omega arith, omega arith)
      (needed (leb n s.room) StoreTooShort (records_check m s n) (omega arith, omega arith)
      (near_first (check_at m s) n (λ i q. near_record m (s.tag_word i) (s.first_word i) (s.second_word i) i (omega arith)))))
      (near_roots n roots)

near_form : (file : List ℕ) → Near most_filed (form_check file)
unfolding form_check head_check
near_form file =
    near_then most_filed (need (leb 9 (length file)) FileTooShort then need (is_version (version file)) FileVersion then need (is_count (file_count file)) FileCount)
    (need (eqb (length file) (record_place file (file_count file))) FileLength)
    (needed most_filed (leb 9 (length file)) FileTooShort (need (is_version (version file)) FileVersion then need (is_count (file_count file)) FileCount) (omega arith, omega arith)
    (needed most_filed (is_version (version file)) FileVersion (need (is_count (file_count file)) FileCount) (omega arith, omega arith)
    (near_need most_filed (is_count (file_count file)) FileCount (omega arith, omega arith))))
    (near_need most_filed (eqb (length file) (record_place file (file_count file))) FileLength (omega arith, omega arith))

near_file : (file : List ℕ) → Near most_filed (file_check file)
unfolding file_check held_check
near_file file = go (form_check file) refl (near_form file)
  where
    go : (c : Checked) → form_check file ≡ c → Near most_filed c → Near most_filed (c then list_check goldilocks.bounds (file_view file) (file_count file) (file_roots file))
    go (Ok u) e p = near_list most_filed goldilocks.bounds (file_view file) (file_count file) (file_roots file) (file-formed file e).head.most
    go (Err r) e p = p

-- a text that is made of a file is at most k long where that of every refusal and of every good file is
pub made_most : (refuse : Refusal → List ℕ) (give : List ℕ → List ℕ) (k : ℕ) → ((r : Refusal) → number r ≤ 46 → place r ≤ most_filed → length (refuse r) ≤ k)
    → ((file : List ℕ) → file_check file ≡ Ok tt → length (give file) ≤ k) → (file : List ℕ) → length (of_file refuse give file) ≤ k
made_most refuse give k small short file = go (file_check file) refl (near_file file)
  where
    go : (c : Checked) → file_check file ≡ c → Near most_filed c → length (unless_refused c refuse (give file)) ≤ k
    go (Ok u) e p = short file e
    go (Err r) e p = small r p.0 p.1
