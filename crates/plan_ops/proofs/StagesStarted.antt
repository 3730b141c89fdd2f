-- The stages of plans that can be opened.
use Rattle.std.proofs.Common.{◌≡◌, ℕ, Bool, true, false, List, ◌∷◌, Option, None, Some, refl, sym, subst, true≢false, Box, Global}
use Rattle.page_pool.specs.Disk.{PageMap}
use Rattle.sand_base.specs.declared.kind.Kind.{Kind}
use Rattle.sand_base.specs.declared.kind.Kind.TheVariants as kind
use Rattle.sand_base.specs.declared.shape.Shape.{Shape}
use Rattle.sand_base.specs.Shape.{is_spatial, value_kind, same_kind}
use Rattle.statements.specs.declared.column.Column.{Column}
use Rattle.statements.specs.declared.column.Place.{Place}
use Rattle.statements.specs.declared.plan.Plan as declared
use Rattle.statements.specs.declared.plan.Plan.{Plan}
use Rattle.statements.specs.declared.test.Test.{Test}
use Rattle.sand_model.specs.Checks.{check_operators, check_column, check_place, check_tests, check_places, is_plain_pair, place_kind, can_compare}
use Rattle.sand_model.specs.Database.{Database}
use Rattle.sand_model.specs.Operators.{relations_of}
use Rattle.sand_store.specs.Catalog.{CatalogView}
use Rattle.sand_store.specs.Contents.{database_in}
use Rattle.statements.specs.Plan.{plan_value}
use Rattle.plan_names.proofs.Passed.{first_passed, second_passed, three_passed}
use Rattle.plan_ops.specs.Checked.{IsChecked, IsPlaceChecked}
use Rattle.plan_ops.specs.Openable.{IsOpenable}

abbrev Names : Plan → List (List ℕ)
Names p = relations_of (plan_value p)

-- a kind that can be looked up by another is one of ints or texts
pair_kind : (o : Option Kind) (k : Kind) → is_plain_pair o k ≡ true → is_spatial k ≡ false
pair_kind o kind.Int e = refl
pair_kind o kind.Text e = refl
pair_kind None kind.Point e = absurd (true≢false (sym e))
pair_kind None kind.Segment e = absurd (true≢false (sym e))
pair_kind None kind.Polygon e = absurd (true≢false (sym e))
pair_kind (Some kind.Int) kind.Point e = absurd (true≢false (sym e))
pair_kind (Some kind.Int) kind.Segment e = absurd (true≢false (sym e))
pair_kind (Some kind.Int) kind.Polygon e = absurd (true≢false (sym e))
pair_kind (Some kind.Text) kind.Point e = absurd (true≢false (sym e))
pair_kind (Some kind.Text) kind.Segment e = absurd (true≢false (sym e))
pair_kind (Some kind.Text) kind.Polygon e = absurd (true≢false (sym e))
pair_kind (Some kind.Point) kind.Point e = absurd (true≢false (sym e))
pair_kind (Some kind.Point) kind.Segment e = absurd (true≢false (sym e))
pair_kind (Some kind.Point) kind.Polygon e = absurd (true≢false (sym e))
pair_kind (Some kind.Segment) kind.Point e = absurd (true≢false (sym e))
pair_kind (Some kind.Segment) kind.Segment e = absurd (true≢false (sym e))
pair_kind (Some kind.Segment) kind.Polygon e = absurd (true≢false (sym e))
pair_kind (Some kind.Polygon) kind.Point e = absurd (true≢false (sym e))
pair_kind (Some kind.Polygon) kind.Segment e = absurd (true≢false (sym e))
pair_kind (Some kind.Polygon) kind.Polygon e = absurd (true≢false (sym e))

-- tests one after another

pub first_test : (d : Database) (names : List (List ℕ)) (tests : List Test) (test : Test) (rest : List Test) → tests ≡ test ∷ rest → check_tests d names tests ≡ None
    → IsPlaceChecked d names test.place
first_test d names tests test rest is passed =
    let asked : Kind → Bool = λ k. can_compare test.op k (value_kind test.value) in record {
      asked = asked;
      passed = first_passed (check_place d names test.place asked) (check_tests d names rest) (subst (λ (ts : List Test). check_tests d names ts ≡ None) is passed);
    }

pub other_tests : (d : Database) (names : List (List ℕ)) (tests : List Test) (test : Test) (rest : List Test) → tests ≡ test ∷ rest → check_tests d names tests ≡ None
    → check_tests d names rest ≡ None
other_tests d names tests test rest is passed =
    let asked : Kind → Bool = λ k. can_compare test.op k (value_kind test.value) in
    second_passed (check_place d names test.place asked) (check_tests d names rest) (subst (λ (ts : List Test). check_tests d names ts ≡ None) is passed)

-- places one after another

pub first_place : (d : Database) (names : List (List ℕ)) (places : List Place) (place : Place) (rest : List Place) → places ≡ place ∷ rest → check_places d names places ≡ None
    → IsPlaceChecked d names place
first_place d names places place rest is passed =
    let asked : Kind → Bool = λ k. true in record {
      asked = asked;
      passed = first_passed (check_place d names place asked) (check_places d names rest) (subst (λ (ps : List Place). check_places d names ps ≡ None) is passed);
    }

pub other_places : (d : Database) (names : List (List ℕ)) (places : List Place) (place : Place) (rest : List Place) → places ≡ place ∷ rest → check_places d names places ≡ None
    → check_places d names rest ≡ None
other_places d names places place rest is passed =
    second_passed (check_place d names place (λ k. true)) (check_places d names rest) (subst (λ (ps : List Place). check_places d names ps ≡ None) is passed)

-- what each operator names passed its checks

module _ (catalog : CatalogView) (p : Plan) (below : Box Plan Global) (o : IsOpenable catalog p) where
  passed : (q : Plan) → p ≡ q → (pages : PageMap) → check_operators (database_in pages catalog.relations) (plan_value q) ≡ None
  passed q is pages = subst (λ (x : Plan). check_operators (database_in pages catalog.relations) (plan_value x) ≡ None) is (o.checked pages)

  pub filter_checked : (tests : List Test) → p ≡ declared.Filter below tests → (pages : PageMap)
      → check_tests (database_in pages catalog.relations) (Names below.value) tests ≡ None
  filter_checked tests is pages =
      second_passed (check_operators (database_in pages catalog.relations) (plan_value below.value)) _ (passed (declared.Filter below tests) is pages)

  pub fetch_checked : (places : List Place) → p ≡ declared.Fetch below places → (pages : PageMap)
      → check_places (database_in pages catalog.relations) (Names below.value) places ≡ None
  fetch_checked places is pages =
      second_passed (check_operators (database_in pages catalog.relations) (plan_value below.value)) _ (passed (declared.Fetch below places) is pages)

  all_of_match : (place : Place) (column : Column) → p ≡ declared.Match below place column → (pages : PageMap)
      → (check_operators (database_in pages catalog.relations) (plan_value below.value) ≡ None)
      × (check_place (database_in pages catalog.relations) (Names below.value) place (λ k. true) ≡ None)
      × (check_column (database_in pages catalog.relations) column (is_plain_pair (place_kind (database_in pages catalog.relations) (Names below.value) place)) ≡ None)
  all_of_match place column is pages = three_passed _ _ _ (passed (declared.Match below place column) is pages)

  pub match_place : (place : Place) (column : Column) → p ≡ declared.Match below place column → (pages : PageMap)
      → IsPlaceChecked (database_in pages catalog.relations) (Names below.value) place
  match_place place column is pages = record { asked = λ k. true; passed = (all_of_match place column is pages).1 }

  pub match_column : (place : Place) (column : Column) → p ≡ declared.Match below place column → (pages : PageMap)
      → IsChecked (database_in pages catalog.relations) column false
  match_column place column is pages =
      let found = place_kind (database_in pages catalog.relations) (Names below.value) place in
      record { asked = is_plain_pair found; kinds = pair_kind found; passed = (all_of_match place column is pages).2 }

  pub sort_place : (place : Place) → p ≡ declared.SortBy below place → (pages : PageMap)
      → IsPlaceChecked (database_in pages catalog.relations) (Names below.value) place
  sort_place place is pages = record {
    asked = same_kind kind.Int;
    passed = second_passed (check_operators (database_in pages catalog.relations) (plan_value below.value)) _ (passed (declared.SortBy below place) is pages);
  }

  pub near_place : (place : Place) (goal : Shape) → p ≡ declared.SortNear below place goal → (pages : PageMap)
      → IsPlaceChecked (database_in pages catalog.relations) (Names below.value) place
  near_place place goal is pages = record {
    asked = is_spatial;
    passed = second_passed (check_operators (database_in pages catalog.relations) (plan_value below.value)) _ (passed (declared.SortNear below place goal) is pages);
  }
