-- The calls of a recorded case: how many numbers and stores each takes, and what it comes to on them.
use Rattle.std.specs.Prelude.{ℕ, List, codes}
use Rattle.ace.specs.Calls as Ace
use Rattle.recorded.specs.Stream.{word, behind}
use Rattle.recorded_calls.specs.declared.Call.{Call}
use Rattle.recorded_calls.specs.declared.Shape.{Shape}

-- how many numbers a call takes, stores it reads and stores it writes, and words it answers
abbrev pub shape : ℕ → ℕ → ℕ → ℕ → Shape
shape numbers read written answer = record { numbers = numbers; read = read; written = written; answer = answer }

unfoldable pub shape_of : Call → Shape
shape_of Call.Step = shape 5 0 1 4
shape_of Call.Build = shape 2 2 2 11
shape_of Call.Compact = shape 2 2 1 11
shape_of Call.Normalize = shape 2 2 2 11
shape_of Call.Evaluate = shape 3 3 0 17
shape_of Call.Prepare = shape 1 2 0 18
shape_of Call.Lower = shape 3 3 3 4
shape_of Call.Emit = shape 3 3 1 4

-- a call's name
abbrev pub name : Call → List ℕ
name Call.Step = codes "step"
name Call.Build = codes "build"
name Call.Compact = codes "compact"
name Call.Normalize = codes "normalize"
name Call.Evaluate = codes "evaluate"
name Call.Prepare = codes "prepare"
name Call.Lower = codes "lower"
name Call.Emit = codes "emit"

-- number k of the case at a place
abbrev pub number : List ℕ → ℕ → ℕ → ℕ
number s at k = word s (behind s at k)

-- up to three stores; one that a call has no use for is empty
pub record Stores : Type 0 where
  pub a : List ℕ
  pub b : List ℕ
  pub c : List ℕ

abbrev pub stores : List ℕ → List ℕ → List ℕ → Stores
stores a b c = record { a = a; b = b; c = c }

-- what a call comes to: the answer's words, and the written stores after it
pub record Outcome : Type 0 where
  pub words : List ℕ
  pub after : Stores

-- a call on its numbers, the field number first, the stores that it reads and those that it writes
unfoldable pub outcome : Call → (ℕ → ℕ) → Stores → Stores → Outcome
outcome Call.Step n r w =
    record {
      words = Ace.step_answer (n 0) w.a (n 1) (n 2) (n 3) (n 4);
      after = stores (Ace.step_list (n 0) w.a (n 1) (n 2) (n 3) (n 4)) w.b w.c;
    }
outcome Call.Build n r w =
    record {
      words = Ace.build_answer (n 0) r.a (n 1) r.b w.a w.b;
      after = stores (Ace.build_result (n 0) r.a (n 1) r.b w.a w.b) (Ace.build_map (n 0) r.a (n 1) r.b w.a w.b) w.c;
    }
outcome Call.Compact n r w =
    record {
      words = Ace.compact_answer (n 0) r.a (n 1) r.b w.a;
      after = stores (Ace.compact_result (n 0) r.a (n 1) r.b w.a) w.b w.c;
    }
outcome Call.Normalize n r w =
    record {
      words = Ace.normalize_answer (n 0) r.a (n 1) r.b w.a w.b;
      after = stores (Ace.normalize_result (n 0) r.a (n 1) r.b w.a w.b) (Ace.normalize_work (n 0) r.a (n 1) r.b w.a w.b) w.c;
    }
outcome Call.Evaluate n r w = record { words = Ace.evaluate_answer (n 0) r.a (n 1) r.b r.c (n 2); after = w }
outcome Call.Prepare n r w = record { words = Ace.prepare_answer (n 0) r.a r.b; after = w }
outcome Call.Lower n r w =
    record {
      words = Ace.lower_answer (n 0) r.a (n 1) r.b r.c (n 2) w.a w.b w.c;
      after =
          stores
          (Ace.lower_result (n 0) r.a (n 1) r.b r.c (n 2) w.a w.b w.c)
          (Ace.lower_work (n 0) r.a (n 1) r.b r.c (n 2) w.a w.b w.c)
          (Ace.lower_places (n 0) r.a (n 1) r.b r.c (n 2) w.a w.b w.c);
    }
outcome Call.Emit n r w =
    record {
      words = Ace.emit_answer (n 0) r.a (n 1) r.b r.c (n 2) w.a;
      after = stores (Ace.emit_result (n 0) r.a (n 1) r.b r.c (n 2) w.a) w.b w.c;
    }
