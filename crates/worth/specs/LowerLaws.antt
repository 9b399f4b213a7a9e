-- What Lower builds past its tests: a well-formed list that begins with the given one, and a place inside it for each column, worth the column's value.
use Rattle.std.specs.Prelude.{ℕ, ◌<◌, List, ◌≡◌, get_or, length, Ok}
use Rattle.std.proofs.Common.{arith}
use Rattle.field.specs.Fields.{Field, Low, element_laws}
use Rattle.field.specs.declared.QuadFelt.{QuadFelt}
use Rattle.dag.specs.Keys.{ZK}
use Rattle.dag.specs.View.{View}
use Rattle.dag.specs.Nodes.{nodes}
use Rattle.dag.specs.StoreLaws.{sound_well_formed}
use Rattle.dag.specs.WellFormed.{WellFormed}
use Rattle.columns.specs.Columns.{log_within}
use Rattle.columns.specs.Prepare.{columns}
use Rattle.columns.specs.ColumnLaws.{length_columns}
use Rattle.meaning.specs.Values.{value}
use Rattle.periodic.specs.Builder.{Extends}
use Rattle.periodic.specs.Periodic.{build_periodic_nodes}
use Rattle.lower.specs.Lower.{lower_check, lowered}
use Rattle.lower.specs.CallLaws.{passed}
use Rattle.worth.specs.Keeps.{Keeps, Are}
use Rattle.worth.specs.Worth.{node_worth}
use Rattle.worth.specs.PeriodicLaws.{nodes_keep}

module _ (field : Field) where
  module _ (s : View) (n : ℕ) (ls es : List ℕ) (period : ℕ) where
    -- the given records stand in front
    pub lowered_extends : Extends (nodes s n) (lowered field s n ls es period).list
    unfolding lowered
    lowered_extends = (build_periodic_nodes field (columns ls es) (log_within field.most_log period)).extends (nodes s n)

    -- the columns' nodes, built behind the given list
    abbrev Lowered : (ℕ → QuadFelt) → Type 0
    Lowered given =
        Keeps (Low field) (nodes s n) (build_periodic_nodes field (columns ls es) (log_within field.most_log period))
        (λ k ps. Are field.elements given k ps (length ls) (node_worth field (columns ls es) (log_within field.most_log period) (given ZK)))

    module _ (work_words place_words : ℕ) (good : lower_check field s n ls es period work_words place_words ≡ Ok tt) where
      lowered_keeps : (given : ℕ → QuadFelt) → ((k : ℕ) → Low field (given k)) → Lowered given
      lowered_keeps given low-given =
          let q = passed field s n ls es period work_words place_words good in
          rw (length_columns ls es) at
          (nodes_keep field given low-given (columns ls es) (log_within field.most_log period) (λ j h. q.tested.low j (omega (arith, length_columns ls es))) (sound_well_formed field.bounds s n q.list.sound))

      -- with zero given to each key
      zeroed : Lowered (λ _. field.elements.zero)
      zeroed = lowered_keeps (λ _. field.elements.zero) (λ _. (element_laws field).low_zero)

      pub lowered_well_formed : WellFormed (Low field) (lowered field s n ls es period).list
      unfolding lowered
      lowered_well_formed = zeroed.well_formed

      -- a place for each column
      pub lowered_count : length (lowered field s n ls es period).answer ≡ length ls
      unfolding lowered
      lowered_count = zeroed.answers.count

      pub lowered_inside : (j : ℕ) → j < length ls → get_or (lowered field s n ls es period).answer j 0 < length (lowered field s n ls es period).list
      unfolding lowered
      lowered_inside j h = (zeroed.answers.each j h).inside

      -- under any assignment, it is worth the column's value
      pub lowered_worth : (given : ℕ → QuadFelt) → ((k : ℕ) → Low field (given k)) → (j : ℕ) → j < length ls
          → value field.elements given (lowered field s n ls es period).list (get_or (lowered field s n ls es period).answer j 0)
          ≡ node_worth field (columns ls es) (log_within field.most_log period) (given ZK) j
      unfolding lowered
      lowered_worth given low-given j h = ((lowered_keeps given low-given).answers.each j h).worth
