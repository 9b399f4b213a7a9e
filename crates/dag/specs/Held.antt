-- Which list a test answers that passes.
use Rattle.std.specs.Prelude.{ℕ, List, Result, IfOk, ◌≡◌}
use Rattle.field.specs.declared.Prime.{Prime}
use Rattle.dag.specs.declared.Dag.{Dag}
use Rattle.dag.specs.declared.Refusal.{Refusal}

-- where a list passed, it is the first n records of the store, over the field
abbrev pub HeldOf : Prime → List ℕ → ℕ → Result Dag Refusal → Type 0
HeldOf prime list n r = IfOk r (λ dag. (dag.prime ≡ prime) × (dag.list.now ≡ list) × (dag.n ≡ n))
