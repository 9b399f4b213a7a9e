-- What a round holds.
use Rattle.std.specs.Prelude.{ℕ, List}
use Rattle.dag.specs.View.{interleaved}
use Rattle.dag.specs.Nodes.{nodes}
use Rattle.dag.specs.declared.NodeKind.{NodeKind}
use Rattle.builder.specs.Promises.{read}
use Rattle.plan.specs.declared.Round.{Round}

-- a round's records, and their fanouts
abbrev pub records : Round → List NodeKind
records r = nodes (interleaved r.list.now) r.n

abbrev pub fanouts : Round → ℕ → ℕ
fanouts r = read r.fan.now
