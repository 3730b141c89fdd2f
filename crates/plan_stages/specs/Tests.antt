-- The tests of a filter, their places looked up.
use Rattle.std.specs.Prelude.{◌≡◌, ℕ, List, All}
use Rattle.std.specs.List.{AllZip}
use Rattle.page_pool.specs.Disk.{PageMap}
use Rattle.page_pool.specs.Pool.{PoolState, IsTold}
use Rattle.sand_model.specs.Database.{Database}
use Rattle.statements.specs.declared.test.Test.{Test}
use Rattle.plan_names.specs.Spots.{Stands, IsSpot}
use Rattle.plan_stages.specs.declared.tests.SpotTest.{SpotTest}

-- the test asks the same of the place that was looked up
pub record IsTest (d : Database) (names : List (List ℕ)) (pages : PageMap) (test : SpotTest) (asked : Test) : Type 0 where
  pub spot : IsSpot d names asked.place test.spot pages
  pub op : test.op ≡ asked.op
  pub value : test.value ≡ asked.value

-- all tests, in their order
abbrev pub AreTests : Database → List (List ℕ) → PageMap → List SpotTest → List Test → Type 0
AreTests d names pages tests asked = AllZip (IsTest d names pages) tests asked

-- the relations of the tests stand, where the pages are told
abbrev pub TestsStand : PoolState → List SpotTest → Type 0
TestsStand s tests = IsTold s → All (λ test. Stands s.pages test.spot.relation.value) tests
