-- A number's digits in an array, cut off from the last one on.
use Rattle.std.specs.Prelude.{ℕ, zero, suc, ◌+◌, ◌-◌, ◌*◌, ◌/◌, ◌%◌, ◌^◌, ◌≤◌, ◌<◌, List, [], ◌∷◌, ◌++◌, ◌≡◌, length, take, set}
use Rattle.std.proofs.Common.{append_assoc, sym, ◌∙◌, ap, arith, drop, length-set, length-drop, take_all, pow-suc}
use Rattle.std.proofs.lemmas.List.{drop-set}
use Rattle.std.proofs.Math.Nat.{pow-zero}
use Rattle.text.specs.Text.{decimal}
use Rattle.text.specs.DecimalLaws.{decimal_one, decimal_more}

-- behind the digits of what is left of n stand those that are cut off, and there is room before them
pub record Cut (n rest at : ℕ) (digits : List ℕ) : Type 0 where
  pub are : decimal rest ++ drop at digits ≡ decimal n
  pub below : rest < 10 ^ at
  pub some : 1 ≤ at
  pub few : at ≤ 20
  pub room : length digits ≡ 20

module _ {n rest at : ℕ} {digits : List ℕ} (cut : Cut n rest at digits) where
  -- more than one digit is left
  two_left : 10 ≤ rest → 2 ≤ at
  two_left h = go at cut.below cut.some
    where
      go : (k : ℕ) → rest < 10 ^ k → 1 ≤ k → 2 ≤ k
      go zero b s = absurd (omega arith)
      go (suc zero) b s = absurd (omega (arith, pow-suc 10 0, pow-zero 10))
      go (suc (suc k)) b s = omega arith

  -- one digit more is cut off
  pub one_more : 10 ≤ rest → Cut n (rest / 10) (at - 1) (set digits (at - 1) (48 + rest % 10))
  one_more h =
      let two = two_left h in
      let next : at - 1 + 1 ≡ at = omega (arith, cut.some) in
      let room = cut.room in
      let few = cut.few in
      let up : suc (at - 1) ≡ at = omega (arith, cut.some) in
      let power : 10 ^ at ≡ 10 ^ (at - 1) * 10 = ap (λ k. 10 ^ k) (sym up) ∙ pow-suc 10 (at - 1) in
      record {
        are =
            rw (drop-set digits (at - 1) (48 + rest % 10) (omega arith), next)
            (sym (append_assoc (decimal (rest / 10)) ((48 + rest % 10) ∷ []) (drop at digits)) ∙ (ap (λ t. t ++ drop at digits) (decimal_more rest h) ∙ cut.are));
        below = omega (arith, cut.below);
        some = omega arith;
        few = omega arith;
        room = length-set digits (at - 1) (48 + rest % 10) ∙ room;
      }

  -- the last one
  pub all_cut : rest < 10 → take (20 - (at - 1)) (drop (at - 1) (set digits (at - 1) (48 + rest))) ≡ decimal n
  all_cut h =
      let some = cut.some in
      let few = cut.few in
      let room = cut.room in
      let next : at - 1 + 1 ≡ at = omega arith in
      let same : rest % 10 ≡ rest = omega arith in
      let long = length-set digits (at - 1) (48 + rest) in
      let held = set digits (at - 1) (48 + rest) in
      take_all (20 - (at - 1)) (drop (at - 1) held) (omega (arith, length-drop (at - 1) held))
      ∙ (drop-set digits (at - 1) (48 + rest) (omega arith)
      ∙ (ap (λ k. (48 + rest) ∷ drop k digits) next ∙ (ap (λ t. t ++ drop at digits) (rw same at (decimal_one rest h)) ∙ cut.are)))

-- two digits more
pub two_more : {n rest at : ℕ} {digits : List ℕ} → Cut n rest at digits → 100 ≤ rest
    → Cut n (rest / 100) (at - 2) (set (set digits (at - 1) (48 + rest % 10)) (at - 2) (48 + rest / 10 % 10))
two_more {n} {rest} {at} {digits} cut h =
    let tenth : rest / 10 / 10 ≡ rest / 100 = omega arith in
    let back : at - 1 - 1 ≡ at - 2 = omega arith in
    rw (← tenth, ← back) (one_more (one_more cut (omega arith)) (omega arith))
