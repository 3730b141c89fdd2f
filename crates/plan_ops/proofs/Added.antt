-- Places and tests that are looked up one after another.
use Rattle.std.proofs.Common.{◌≡◌, ℕ, ◌-◌, ◌≤◌, ◌<◌, refl, List, [], ◌∷◌, ◌++◌, length, take, drop, get_or, sym, ◌∙◌, ap, subst, arith, append_assoc}
use Rattle.std.proofs.lemmas.List.{take_all}
use Rattle.page_pool.specs.Disk.{PageMap}
use Rattle.statements.specs.declared.column.Place.{Place}
use Rattle.statements.specs.declared.test.Test.{Test}
use Rattle.sand_model.specs.Database.{Database}
use Rattle.plan_names.specs.Spots.{IsSpot}
use Rattle.plan_names.specs.declared.spot.Spot.{Spot}
use Rattle.plan_stages.specs.Fetches.{AreSpots}
use Rattle.plan_stages.specs.Tests.{IsTest, AreTests}
use Rattle.plan_stages.specs.declared.tests.SpotTest.{SpotTest}

-- the rest of a list, as slices have it
rest_is : {A : Type 0} (xs : List A) → take (length xs - 1) (drop 1 xs) ≡ drop 1 xs
rest_is [] = refl
rest_is (x ∷ xs) = take_all (length (x ∷ xs) - 1) xs (omega arith)

pub rest_falls : {A : Type 0} (xs : List A) → 1 ≤ length xs → length (take (length xs - 1) (drop 1 xs)) < length xs
rest_falls [] h = absurd (omega (arith, h))
rest_falls (x ∷ xs) h = subst (λ ys. length ys < length (x ∷ xs)) (sym (rest_is (x ∷ xs))) (omega arith)

-- a list is its first element and the rest, as slices have it
pub first_and_rest : {A : Type 0} (xs : List A) (x : A) → 1 ≤ length xs → x ≡ get_or xs 0 x → xs ≡ x ∷ take (length xs - 1) (drop 1 xs)
first_and_rest [] x h e = absurd (omega (arith, h))
first_and_rest (y ∷ ys) x h e = ap (λ z. z ∷ ys) (sym e) ∙ ap (λ zs. x ∷ zs) (sym (rest_is (y ∷ ys)))

-- what was added behind others, first one and then the rest
behind : {A : Type 0} (old mid new more : List A) (x : A) → mid ≡ old ++ x ∷ [] → new ≡ mid ++ more → new ≡ old ++ x ∷ more
behind old mid new more x first rest = rest ∙ (ap (λ l. l ++ more) first ∙ append_assoc old (x ∷ []) more)

module _ (d : Database) (names : List (List ℕ)) (pages : PageMap) where
  -- the places that were added

  abbrev pub SpotsAdded : List Spot → List Spot → List Place → Type 0
  SpotsAdded old new places = (added : List Spot) × ((new ≡ old ++ added) × AreSpots d names pages added places)

  pub spots_added : (places : List Place) (place : Place) (rest : List Place) (spot : Spot) (old mid new : List Spot) → places ≡ place ∷ rest → mid ≡ old ++ spot ∷ []
      → IsSpot d names place spot pages → SpotsAdded mid new rest → SpotsAdded old new places
  spots_added places place rest spot old mid new is first here more = (
    spot ∷ more.0,
    (behind old mid new more.0 spot first more.1.0, subst (λ (ps : List Place). AreSpots d names pages (spot ∷ more.0) ps) (sym is) (here, more.1.1)),
  )

  -- the tests that were added

  abbrev pub TestsAdded : List SpotTest → List SpotTest → List Test → Type 0
  TestsAdded old new tests = (added : List SpotTest) × ((new ≡ old ++ added) × AreTests d names pages added tests)

  pub tests_added : (tests : List Test) (test : Test) (rest : List Test) (found : SpotTest) (old mid new : List SpotTest) → tests ≡ test ∷ rest → mid ≡ old ++ found ∷ []
      → IsTest d names pages found test → TestsAdded mid new rest → TestsAdded old new tests
  tests_added tests test rest found old mid new is first here more = (
    found ∷ more.0,
    (behind old mid new more.0 found first more.1.0, subst (λ (ts : List Test). AreTests d names pages (found ∷ more.0) ts) (sym is) (here, more.1.1)),
  )
