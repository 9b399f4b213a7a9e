-- What the functions of encoding ask and say of the result store.
use Rattle.std.specs.Prelude.{ℕ, ◌+◌, ◌*◌, ◌≤◌, ◌<◌, List, ◌++◌, ◌≡◌, Ok, length, take}
use Rattle.dag.specs.Store.{put_words}
use Rattle.circuit.specs.declared.AceOpNode.{AceOpNode}
use Rattle.circuit.specs.declared.Counts.{Counts}
use Rattle.field.specs.Fields.{Field}
use Rattle.dag.specs.View.{View}
use Rattle.dag.specs.Nodes.{nodes}
use Rattle.dag.specs.Check.{list_check}
use Rattle.entries.specs.Entries.{entries_check, inputs_check}
use Rattle.entries.specs.KeyIndex.{Sized}
use Rattle.circuit.specs.Circuit.{layout_words}
use Rattle.encode.specs.Calls.{input_number}
use Rattle.encode.specs.declared.StreamGeometry.{StreamGeometry}
use Rattle.encode.specs.Encode.{op_number, node_id, encode_operations}

-- counts that a list and its layout have: 4,096 of each at most, and at most 7 pads
pub record Small (g : StreamGeometry) : Type 0 where
  pub inputs : g.inputs ≤ 4096
  pub constants : g.constants ≤ 4096
  pub operations : g.operations ≤ 4103

-- a store with an operation at place j
abbrev pub put : StreamGeometry → List ℕ → ℕ → AceOpNode → List ℕ
put g s j o = put_words s j (op_number o.op) (node_id g o.lhs) (node_id g o.rhs)

-- operations put behind the first j, up to the first `next`
pub record Wrote (g : StreamGeometry) (before : List ℕ) (j : ℕ) (os : List AceOpNode) (after : List ℕ) (next : ℕ) : Type 0 where
  pub next_is : next ≡ j + length os
  pub words : take (3 * next) after ≡ take (3 * j) before ++ encode_operations g os
  pub same : length after ≡ length before

-- counts g that fit a circuit's, which has an operation, and a store of so many words that has room
pub record Fitting (g : StreamGeometry) (c : Counts) (words : ℕ) : Type 0 where
  pub constants : c.constants ≤ g.constants
  pub some : 0 < c.operations
  pub operations : c.operations ≤ g.operations
  pub room : 2 * g.constants + 3 * g.operations ≤ words

-- stores for so many records, links and words of constants, which hold n records
pub record SizedTable (records links words n : ℕ) : Type 0 where
  pub sized : Sized records links n 0
  pub table : words ≡ 3 * records

-- a list and a layout that passed, whose inputs have a place
pub record Placed (field : Field) (s : View) (n : ℕ) (roots layout : List ℕ) (k : ℕ) : Type 0 where
  pub rooted : list_check field.bounds s n roots ≡ Ok tt
  pub passed : entries_check field.bounds layout_words layout k ≡ Ok tt
  pub placed : inputs_check (input_number layout k) (nodes s n) n ≡ Ok tt
