-- The turns of the loops over entries, and what entries that pass are known to be.
use Rattle.std.specs.Prelude.{ℕ, ◌+◌, ◌*◌, ◌≤◌, ◌<◌, ◌&&◌, Bool, false, List, Option, Some, None, is_some, Ok, Err, ◌≡◌, eqb, leb, length}
use Rattle.std.proofs.Math.Bool.{true}
use Rattle.std.proofs.Common.{true≢false, ◌∙◌, ap, subst, mul-suc, mul-le-mul_left, arith}
use Rattle.std.proofs.Math.Path.{refl, sym}
use borrow.Author.Tests.{eqb-true, eqb-false, leb-true}
use Rattle.field.specs.Fields.{Bounds}
use Rattle.dag.specs.View.{View}
use Rattle.dag.specs.Nodes.{nodes, at, record_at}
use Rattle.dag.specs.NodeLaws.{at_nodes}
use Rattle.dag.specs.SearchLaws.{Greatest, greatest_says}
use Rattle.dag.specs.declared.NodeKind.{NodeKind}
use Rattle.dag.specs.Keys.{is_key}
use Rattle.dag.specs.Refusals.{need, first_refused, ◌then◌}
use Rattle.dag.specs.CaseLaws.{and_true}
use Rattle.dag.specs.CheckLaws.{first_next, first_bad, first_good, then_good, need_good}
use Rattle.dag.specs.declared.Refusal.TheVariants.{StoreTooShort, Malformed, TooManyEntries, Unassigned}
use Rattle.entries.specs.Entries.{Lent, most_entries, key_at, lowest_at, entry_check, entries_check, entry_of, has_entry, inputs_check}

-- the words of an entry are in the store
module _ (width : ℕ) (e : List ℕ) (n : ℕ) (lent : Lent width e n) where
  pub entry_room : (i : ℕ) → i < n → width * i + width ≤ length e
  entry_room i h = omega (arith, mul-suc width i, mul-le-mul_left width h, lent.room)

  pub key_room : (i : ℕ) → i < n → width * i < length e
  key_room i h = omega (arith, entry_room i h, lent.wide)

-- entries that pass
module _ (m : Bounds) (width : ℕ) (e : List ℕ) (n : ℕ) where
  module _ (q : entries_check m width e n ≡ Ok tt) where
    -- no more than are taken
    pub entries_most : n ≤ most_entries
    unfolding entries_check
    entries_most =
        let one = then_good (need (leb n most_entries) TooManyEntries) (need (leb (width * n) (length e)) StoreTooShort then first_refused (entry_check m width e) n) q in
        leb-true n most_entries (need_good (leb n most_entries) TooManyEntries one.0)

    -- they are in the store, and each passes
    pub entries_pass : 0 < width → Lent width e n × (first_refused (entry_check m width e) n ≡ Ok tt)
    unfolding entries_check
    entries_pass h =
        let one = then_good (need (leb n most_entries) TooManyEntries) (need (leb (width * n) (length e)) StoreTooShort then first_refused (entry_check m width e) n) q in
        let two = then_good (need (leb (width * n) (length e)) StoreTooShort) (first_refused (entry_check m width e) n) one.1 in
        (record { wide = h; room = leb-true (width * n) (length e) (need_good (leb (width * n) (length e)) StoreTooShort two.0) }, two.1)

  -- each has a number that a key has, and coordinates in lowest form where it holds them
  pub entry_passed : first_refused (entry_check m width e) n ≡ Ok tt → (i : ℕ) → i < n → (is_key (key_at width e i) ≡ true) × (lowest_at m width e i ≡ true)
  unfolding entry_check
  entry_passed good i h =
      and_true (is_key (key_at width e i)) (lowest_at m width e i)
      (need_good (is_key (key_at width e i) && lowest_at m width e i) (Malformed i) (first_good (entry_check m width e) n good i h))

-- entry i is the last one of a key among the first n
pub record Last (width : ℕ) (e : List ℕ) (n key i : ℕ) : Type 0 where
  pub inside : i < n
  pub its_key : key_at width e i ≡ key
  pub none_later : (j : ℕ) → i < j → j < n → key_at width e j ≡ key → ⊥

-- the search for a key's last entry
module _ (width : ℕ) (e : List ℕ) (key : ℕ) where
  -- entry i is one of the key's
  abbrev its : ℕ → Bool
  its i = eqb (key_at width e i) key

  -- what is found is an entry
  pub entry_inside : (n i : ℕ) → entry_of width e n key ≡ Some i → i < n
  unfolding entry_of
  entry_inside n i q = (subst (Greatest its n) q (greatest_says its n)).0

  -- a found entry is the key's last one
  pub found_last : (n : ℕ) → is_some (entry_of width e n key) ≡ true → (i : ℕ) × (entry_of width e n key ≡ Some i) × Last width e n key i
  unfolding entry_of
  found_last n q = go (entry_of width e n key) refl (greatest_says its n) q
    where
      go : (f : Option ℕ) → entry_of width e n key ≡ f → Greatest its n f → is_some f ≡ true → (i : ℕ) × (entry_of width e n key ≡ Some i) × Last width e n key i
      go (Some i) r says q =
          (i, r, record { inside = says.0; its_key = eqb-true (key_at width e i) key says.1; none_later = λ j h k. eqb-false (key_at width e j) key (says.2 j (omega arith) k) })
      go None r says q = absurd (true≢false (sym q))

-- the inputs, one record a turn
module _ (find : ℕ → Option ℕ) (s : View) (n i : ℕ) (x : NodeKind) (h : i < n) (before : inputs_check find (nodes s n) i ≡ Ok tt) (e : x ≡ record_at s i) where
  here : has_entry find x ≡ has_entry find (at (nodes s n) i)
  here = ap (has_entry find) (e ∙ sym (at_nodes s n i h))

  refused : has_entry find x ≡ false → need (has_entry find (at (nodes s n) i)) (Unassigned i) ≡ Err (Unassigned i)
  refused q = rw (← here, q)

  pub no_entry : has_entry find x ≡ false → Err (Unassigned i) ≡ inputs_check find (nodes s n) n
  unfolding inputs_check
  no_entry q =
      sym (refused q) ∙ first_bad (λ i. need (has_entry find (at (nodes s n) i)) (Unassigned i)) i n before (rw (refused q)) h

  pub an_entry : has_entry find x ≡ true → inputs_check find (nodes s n) (i + 1) ≡ Ok tt
  unfolding inputs_check
  an_entry q = first_next (λ i. need (has_entry find (at (nodes s n) i)) (Unassigned i)) i before (rw (← here, q))
