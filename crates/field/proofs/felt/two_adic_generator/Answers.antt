-- `field::felt::two_adic_generator` meets its contract: the tables are the definition's.
-- a place within the prime's table
use Rattle.std.proofs.Common.{◌≡◌, ℕ, ◌≤◌, refl, subst}
use Rattle.field.specs.Generators.{most_log, generator, generators, generator_below}
use Rattle.field.specs.declared.Prime.{Prime}
use Rattle.field.specs.declared.Prime.TheVariants.{Goldilocks, BabyBear}
use Rattle.field.proofs.felt.two_adic_generator.Goals as goal

below : {prime other : Prime} (k : ℕ) → k ≤ most_log prime → prime ≡ other → k ≤ most_log other
below k h e = subst (λ (prime : Prime). k ≤ most_log prime) e h

pub returns-in-Goldilocks : goal.returns-in-Goldilocks
unfolding generator generators
returns-in-Goldilocks c =
    rw c.in-Goldilocks.is (refl, generator_below Goldilocks _ (below c.args.k c.requires c.in-Goldilocks.is))

pub returns-in-BabyBear : goal.returns-in-BabyBear
unfolding generator generators
returns-in-BabyBear c =
    rw c.in-BabyBear.is (refl, generator_below BabyBear _ (below c.args.k c.requires c.in-BabyBear.is))
