-- the first that is left fails, or passes
use Rattle.std.proofs.Common.{◌≡◌, ◌+◌, List, map, drop, None, true, refl, sym, ◌∙◌, ap}
use Rattle.std.proofs.lemmas.Result.{err_from_is_err_and}
use Rattle.std.specs.Result.{result_err}
use Rattle.sand_model.specs.Checks.{check_place, check_places}
use Rattle.sand_model.specs.Operators.{relations_of}
use Rattle.sand_store.specs.Contents.{database_in}
use Rattle.statements.specs.declared.column.Place.{Place}
use Rattle.statements.specs.Plan.{plan_value}
use Rattle.plan_names.proofs.Refusals.{first_stops, first_passes}
use Rattle.plan_names.proofs.Rests.{next_left, none_left}
use Rattle.plan_names.proofs.checks.check_places.Goals as goal

pub places-init : goal.places-init
places-init c = λ pages. refl

pub returns-in_err-check_place : goal.returns-in_err-check_place
returns-in_err-check_place c = λ pages.
    let d = database_in pages c.args.catalog.now.relations in
    let names = relations_of (plan_value c.args.plan.now) in
    let left = next_left c.args.places.now c.places.place-index c.place-item.result c.places-test.true c.place-item.is in
    let p = err_from_is_err_and c.from_residual.result c.from_residual.ensures.1 in
    first_stops c.check_place.result c.from_residual.result p.0 c.in_err-check_place.field-0.0 _
    (check_places d names (drop (c.places.place-index + 1) c.args.places.now)) c.in_err-check_place.was p.1 p.2 (c.check_place.ensures pages)
    ∙ (sym (ap (λ (xs : List Place). check_places d names xs) left) ∙ c.places.invariant pages)

pub places-preserved : goal.places-preserved
places-preserved c = λ pages.
    let d = database_in pages c.args.catalog.now.relations in
    let names = relations_of (plan_value c.args.plan.now) in
    let left = next_left c.args.places.now c.places.place-index c.place-item.result c.places-test.true c.place-item.is in
    let behind = check_places d names (drop (c.places.place-index + 1) c.args.places.now) in
    let passed : None ≡ check_place d names c.place-item.result (λ k. true) = sym (ap result_err c.in_ok-check_place.was) ∙ (c.check_place.ensures pages) in
    first_passes _ behind behind passed refl ∙ (sym (ap (λ (xs : List Place). check_places d names xs) left) ∙ c.places.invariant pages)

pub returns : goal.returns
returns c = λ pages.
    let d = database_in pages c.args.catalog.now.relations in
    let names = relations_of (plan_value c.args.plan.now) in
    sym (ap (λ (xs : List Place). check_places d names xs) (none_left c.args.places.now c.places.place-index c.places-test.false)) ∙ c.places.invariant pages
