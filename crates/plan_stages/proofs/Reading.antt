-- Reading pages leaves what stands over them.
use Rattle.std.proofs.Common.{◌-◌, List, All, IsTrue, take, drop, length, sym, subst}
use Rattle.page_pool.specs.Pool.{PoolState, IsTold}
use Rattle.page_pool.specs.Reads.{IsRead}
use Rattle.plan_names.specs.Spots.{Stands}
use Rattle.plan_names.specs.declared.spot.Spot.{Spot}
use Rattle.plan_stages.specs.Fetches.{SpotsStand}
use Rattle.plan_stages.specs.Tests.{TestsStand}
use Rattle.plan_stages.specs.declared.tests.SpotTest.{SpotTest}
use Rattle.plan_stages.proofs.Rests.{all_rest}

-- what is told after a reading was told before
pub told_back : (old new : PoolState) → IsRead old new → IsTold new → IsTold old
told_back old new read told = subst (λ b. IsTrue b) read.told told

-- the tests behind the first
pub tests_rest : (old new : PoolState) (tests : List SpotTest) → IsRead old new → TestsStand old tests → TestsStand new (take (length tests - 1) (drop 1 tests))
tests_rest old new tests read stand told =
    subst (λ pages. All (λ (test : SpotTest). Stands pages test.spot.relation.value) (take (length tests - 1) (drop 1 tests))) (sym read.pages)
    (all_rest (λ (test : SpotTest). Stands old.pages test.spot.relation.value) tests (stand (told_back old new read told)))

-- the places behind the first
pub spots_rest : (old new : PoolState) (spots : List Spot) → IsRead old new → SpotsStand old spots → SpotsStand new (take (length spots - 1) (drop 1 spots))
spots_rest old new spots read stand told =
    subst (λ pages. All (λ (spot : Spot). Stands pages spot.relation.value) (take (length spots - 1) (drop 1 spots))) (sym read.pages)
    (all_rest (λ (spot : Spot). Stands old.pages spot.relation.value) spots (stand (told_back old new read told)))
