-- By the outermost operator: its places and columns passed their checks, and it begins over all pages over which the catalog stands.
use Rattle.std.proofs.Common.{◌≡◌, List, None, subst, sym}
use Rattle.statements.specs.declared.column.Place.{Place}
use Rattle.statements.specs.declared.plan.Plan.{Plan}
use Rattle.statements.specs.declared.test.Test.{Test}
use Rattle.sand_model.specs.Checks.{check_tests, check_places}
use Rattle.sand_model.specs.Operators.{relations_of}
use Rattle.sand_store.specs.Contents.{database_in}
use Rattle.statements.specs.Plan.{plan_value}
use Rattle.plan_ops.specs.Checked.{IsPlaceChecked}
use Rattle.plan_ops.proofs.Begun.{filter_begun, fetch_begun}
use Rattle.plan_ops.proofs.StagesStarted.{filter_checked, fetch_checked, match_place, match_column, sort_place, near_place}
use Rattle.plan_ops.proofs.stage.Stage.start.Goals as goal

pub add_tests-requires : goal.add_tests-requires
add_tests-requires c = λ pages.
    subst (λ (tests : List Test). check_tests (database_in pages c.args.catalog.now.relations) (relations_of (plan_value c.deref.result.now)) tests ≡ None) (sym c.as_slice.ensures)
    (subst (λ (p : Plan). check_tests (database_in pages c.args.catalog.now.relations) (relations_of (plan_value p)) c.in-Filter.tests ≡ None) (sym c.deref.ensures)
    (filter_checked c.args.catalog.now c.args.plan.now c.in-Filter.plan c.requires.openable c.in-Filter.tests c.in-Filter.is pages))

pub spot-requires : goal.spot-requires
spot-requires c = λ pages.
    subst (λ (p : Plan). IsPlaceChecked (database_in pages c.args.catalog.now.relations) (relations_of (plan_value p)) c.in-Match.place) (sym c.deref-in-Match.ensures)
    (match_place c.args.catalog.now c.args.plan.now c.in-Match.plan c.requires.openable c.in-Match.place c.in-Match.column c.in-Match.is pages)

pub look_up-requires-clause-checked : goal.look_up-requires-clause-checked
look_up-requires-clause-checked c =
    match_column c.args.catalog.now c.args.plan.now c.in-Match.plan c.requires.openable c.in-Match.place c.in-Match.column c.in-Match.is

pub add_spots-requires : goal.add_spots-requires
add_spots-requires c = λ pages.
    subst (λ (places : List Place). check_places (database_in pages c.args.catalog.now.relations) (relations_of (plan_value c.deref-in-Fetch.result.now)) places ≡ None)
    (sym c.as_slice-in-Fetch.ensures)
    (subst (λ (p : Plan). check_places (database_in pages c.args.catalog.now.relations) (relations_of (plan_value p)) c.in-Fetch.places ≡ None) (sym c.deref-in-Fetch.ensures)
    (fetch_checked c.args.catalog.now c.args.plan.now c.in-Fetch.plan c.requires.openable c.in-Fetch.places c.in-Fetch.is pages))

pub spot-requires-in-SortBy : goal.spot-requires-in-SortBy
spot-requires-in-SortBy c = λ pages.
    subst (λ (p : Plan). IsPlaceChecked (database_in pages c.args.catalog.now.relations) (relations_of (plan_value p)) c.in-SortBy.place) (sym c.deref-in-SortBy.ensures)
    (sort_place c.args.catalog.now c.args.plan.now c.in-SortBy.plan c.requires.openable c.in-SortBy.place c.in-SortBy.is pages)

pub spot-requires-in-SortNear : goal.spot-requires-in-SortNear
spot-requires-in-SortNear c = λ pages.
    subst (λ (p : Plan). IsPlaceChecked (database_in pages c.args.catalog.now.relations) (relations_of (plan_value p)) c.in-SortNear.place) (sym c.deref-in-SortNear.ensures)
    (near_place c.args.catalog.now c.args.plan.now c.in-SortNear.plan c.requires.openable c.in-SortNear.place c.in-SortNear.goal c.in-SortNear.is pages)

pub returns-in_ok-add_tests-in-Filter-clause-begun : goal.returns-in_ok-add_tests-in-Filter-clause-begun
returns-in_ok-add_tests-in-Filter-clause-begun c = λ pages stands.
    filter_begun pages (database_in pages c.args.catalog.now.relations) c.in-Filter.plan c.args.plan.now c.deref.result.now c.deref.ensures c.new.result c.in-Filter.tests c.as_slice.result.now
    c.new-found.result.items c.add_tests.new.found.items c.in-Filter.is c.as_slice.ensures c.new-found.ensures.items (c.in_ok-add_tests-in-Filter.ensures pages stands) c.new.ensures

pub returns-in_ok-add_spots-in-Fetch-clause-begun : goal.returns-in_ok-add_spots-in-Fetch-clause-begun
returns-in_ok-add_spots-in-Fetch-clause-begun c = λ pages stands.
    fetch_begun pages (database_in pages c.args.catalog.now.relations) c.in-Fetch.plan c.args.plan.now c.deref-in-Fetch.result.now c.deref-in-Fetch.ensures c.new-in-Fetch.result c.in-Fetch.places c.as_slice-in-Fetch.result.now
    c.new-found-in-Fetch.result.items c.add_spots.new.found.items c.in-Fetch.is c.as_slice-in-Fetch.ensures c.new-found-in-Fetch.ensures.items
    (c.in_ok-add_spots-in-Fetch.ensures pages stands) c.new-in-Fetch.ensures
