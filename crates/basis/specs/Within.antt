-- A basis within a builder.
use Rattle.std.specs.Prelude.{◌≤◌, ◌≡◌}
use Rattle.periodic.specs.Runs.{State}
use Rattle.basis.specs.declared.LagrangeBasis.{LagrangeBasis}

-- the builder has the column's prime, and the records that the basis stands on
pub record Within (basis : LagrangeBasis) (b : State) : Type 0 where
  pub same : b.prime ≡ basis.col.prime
  pub longer : basis.count ≤ b.count
