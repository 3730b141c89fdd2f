-- What a stage that is to work may read.
use Rattle.std.proofs.Common.{◌≡◌, ℕ, zero, suc, ◌<◌, List, [], ◌∷◌, length, slice_index_or, All, Some, None, IfSome, if◌then◌else◌, Bool, sym, subst, arith}
use Rattle.page_pool.specs.Desk.{DeskState}
use Rattle.page_pool.specs.Disk.{PageMap}
use Rattle.page_pool.specs.Pool.{PoolState, IsTold}
use Rattle.sand_model.specs.Database.{Database}
use Rattle.sand_model.specs.Operators.{PlanRow, relations_of}
use Rattle.statements.specs.Plan.{Plan}
use Rattle.statements.specs.declared.column.Place.{Place}
use Rattle.statements.specs.declared.test.Test.{Test}
use Rattle.best_first.specs.Visits.{told_pages}
use Rattle.plan_names.specs.Spots.{Stands}
use Rattle.plan_names.specs.declared.spot.Spot.{Spot}
use Rattle.plan_stages.specs.Fetches.{FetchStands, AreSpots, SpotsStand}
use Rattle.plan_stages.specs.Filters.{FilterStands}
use Rattle.plan_stages.specs.Tests.{AreTests, TestsStand}
use Rattle.plan_stages.specs.declared.fetch.Fetch.{Fetch}
use Rattle.plan_stages.specs.declared.filter.Filter.{Filter}
use Rattle.plan_stages.specs.declared.tests.SpotTest.{SpotTest}

-- what is told, over the pages of the pool
pub at_told : (desk : DeskState) (X : PageMap → Type 0) → IfSome (told_pages desk) X → (pool : PoolState) → pool ≡ desk.pool → IsTold pool → X pool.pages
at_told desk X h pool is told =
    subst (λ (s : PoolState). X s.pages) (sym is) (subst (λ (k : Bool). IfSome (if k then Some desk.pool.pages else None) X) (subst (λ (s : PoolState). IsTold s) is told) h)

-- one more
all_cons : {A : Type 0} (P : A → Type 0) (x : A) (xs : List A) → P x → All P xs → All P (x ∷ xs)
all_cons {A} P x xs h more = go
  where
    go : (k : ℕ) (d : A) → k < length (x ∷ xs) → P (slice_index_or (x ∷ xs) k d)
    go zero d less = h
    go (suc k) d less = more k d (omega (arith, less))

none : {A : Type 0} (P : A → Type 0) → All P []
none P = λ k d less. absurd (omega (arith, less))

-- the relations of tests stand
pub tests_stand : (d : Database) (names : List (List ℕ)) (pages : PageMap) (tests : List SpotTest) (asked : List Test) → AreTests d names pages tests asked
    → All (λ (test : SpotTest). Stands pages test.spot.relation.value) tests
tests_stand d names pages [] [] h = none (λ (test : SpotTest). Stands pages test.spot.relation.value)
tests_stand d names pages [] (a ∷ more) h = absurd h
tests_stand d names pages (t ∷ ts) [] h = absurd h
tests_stand d names pages (t ∷ ts) (a ∷ more) h =
    all_cons (λ (test : SpotTest). Stands pages test.spot.relation.value) t ts h.0.spot.stands (tests_stand d names pages ts more h.1)

pub filter_ready : (f : Filter) (desk : DeskState)
    → IfSome (told_pages desk) (λ pages. (d : Database) × ((p : Plan) × ((taken : List PlanRow) × ((given : List PlanRow) × FilterStands f pages d p taken given))))
    → (pool : PoolState) → pool ≡ desk.pool → TestsStand pool f.tests.items
filter_ready f desk h pool is told =
    let stands = at_told desk (λ pages. (d : Database) × ((p : Plan) × ((taken : List PlanRow) × ((given : List PlanRow) × FilterStands f pages d p taken given)))) h pool is told in
    let it = stands.1.1.1.1 in tests_stand stands.0 (relations_of it.below) pool.pages f.tests.items it.asked it.tests

-- the relations of places stand
pub spots_stand : (d : Database) (names : List (List ℕ)) (pages : PageMap) (spots : List Spot) (places : List Place) → AreSpots d names pages spots places
    → All (λ (spot : Spot). Stands pages spot.relation.value) spots
spots_stand d names pages [] [] h = none (λ (spot : Spot). Stands pages spot.relation.value)
spots_stand d names pages [] (a ∷ more) h = absurd h
spots_stand d names pages (t ∷ ts) [] h = absurd h
spots_stand d names pages (t ∷ ts) (a ∷ more) h =
    all_cons (λ (spot : Spot). Stands pages spot.relation.value) t ts h.0.stands (spots_stand d names pages ts more h.1)

pub fetch_ready : (f : Fetch) (desk : DeskState)
    → IfSome (told_pages desk) (λ pages. (d : Database) × ((p : Plan) × ((taken : List PlanRow) × ((given : List PlanRow) × FetchStands f pages d p taken given))))
    → (pool : PoolState) → pool ≡ desk.pool → SpotsStand pool f.spots.items
fetch_ready f desk h pool is told =
    let stands = at_told desk (λ pages. (d : Database) × ((p : Plan) × ((taken : List PlanRow) × ((given : List PlanRow) × FetchStands f pages d p taken given)))) h pool is told in
    let it = stands.1.1.1.1 in spots_stand stands.0 (relations_of it.below) pool.pages f.spots.items it.places it.spots
