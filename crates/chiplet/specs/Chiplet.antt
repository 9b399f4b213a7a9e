-- What the box does with a circuit's words, over any ring: it is given the inputs' elements and the two counts, reads the
-- constants, then does one operation after the other, each on nodes that have their value already. A word behind the end of the
-- words reads as 0; of a circuit's words every word that is read is there (`word_count`; encode, specs/CountLaws.antt).
use Rattle.std.specs.Prelude.{ℕ, zero, suc, ◌+◌, ◌-◌, ◌*◌, ◌&&◌, cond, eqb, ltb, Option, Some, None, option_and_then, option_map, List, [], ◌∷◌, ◌++◌, length, get_or}
use Rattle.ring.specs.Ring.{Ops}
use Rattle.field.specs.Field.{new}
use Rattle.field.specs.declared.QuadFelt.{QuadFelt}
use Rattle.dag.specs.Arrays.{up_to}

module _ (F : Ops QuadFelt) where
  -- an operation by its kind: sub 0, mul 1, add 2
  unfoldable pub apply : ℕ → QuadFelt → QuadFelt → Option QuadFelt
  apply kind a b =
      cond (eqb kind 0) (Some (F.sub a b))
      (cond (eqb kind 1) (Some (F.mul a b))
      (cond (eqb kind 2) (Some (F.add a b))
      None))

  -- the value of the node of this number among the values vs so far, none where it has no value yet: numbers count down
  -- from the number of nodes less one
  unfoldable pub node_value : ℕ → List QuadFelt → ℕ → Option QuadFelt
  node_value num_nodes vs id =
      let i = num_nodes - 1 - id in
      cond (ltb id num_nodes && ltb i (length vs)) (Some (get_or vs i F.zero)) None

  -- the values with that of one operation more
  unfoldable pub evaluated : ℕ → ℕ → ℕ → ℕ → List QuadFelt → Option (List QuadFelt)
  evaluated num_nodes kind left right vs =
      option_and_then (λ a. option_and_then (λ b. option_map (λ v. vs ++ (v ∷ [])) (apply kind a b)) (node_value num_nodes vs right)) (node_value num_nodes vs left)

  -- the words of a circuit and its counts, and the elements of its inputs
  module _ (ws : List ℕ) (num_vars num_ops : ℕ) (inputs : List QuadFelt) where
    -- the constants: what the inputs leave of the variables, two words each
    abbrev pub num_constants : ℕ
    num_constants = num_vars - length inputs

    unfoldable pub read_constants : List QuadFelt
    read_constants = up_to (λ i. new (get_or ws (2 * i) 0) (get_or ws (2 * i + 1) 0)) num_constants

    -- word r of operation i, behind the constants
    unfoldable pub operation_word : ℕ → ℕ → ℕ
    operation_word i r = get_or ws (2 * num_constants + (3 * i + r)) 0

    -- the values of all nodes once the first n operations are done
    unfoldable pub run : ℕ → Option (List QuadFelt)
    run zero = Some (inputs ++ read_constants)
    run (suc n) = option_and_then (evaluated (num_vars + num_ops) (operation_word n 0) (operation_word n 1) (operation_word n 2)) (run n)
